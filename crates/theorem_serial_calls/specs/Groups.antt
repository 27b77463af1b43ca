-- Blocks that one lock guards, in a list of calls. A thread that holds the lock enters each block of the group: its step is answered 6,
-- and its lock set stays as it is, `enters-with-its-lock`. Another thread that wants one of them meanwhile: it waits, answered 4 with the
-- lock, and the one-by-one order is the same as if it had not asked, `waits-for-the-lock`. `holds-the-group` says that a job holds the lock
-- as long as its label or a return label is in a block of the group.
use Rattle.std.specs.Prelude.{◌≡◌, ℕ}
use mathlib.Core.List.{List, [], ◌∷◌, ◌++◌}
use Rattle.rules.specs.Image.{row_at}
use Rattle.rules.specs.Events.{Event, step, event_bytes}
use Rattle.rules.specs.Order.{byte_order}
use Rattle.rules.specs.Calls.{fresh_state}
use Rattle.theorem_serial_calls.specs.CallList.{Run, Calls, event_list, OneByOneCalls}
use Rattle.theorem_serial_calls.specs.Reached.{entries_from, reached, entries_to}

module _ (image table words state : List ℕ) (runs : List Run) (calls : Calls image table words state runs) where
  -- after these events a step of thread t was answered 4 with the lock of block c, and changed nothing; the second order is that of the
  -- other events, and it reads as the calls do
  pub record Waited (c : ℕ) (before after : List Event) (t : ℕ) : Type 0 where
    pub list : event_list runs
        ≡ entries_to image table words before ++ record { event = event_bytes (step t); answer = 4 ∷ (row_at table c).lock ∷ [] }
        ∷ entries_from image table (reached image table words before) after
    pub order : byte_order (event_list runs)
        ≡ byte_order (entries_to image table words before ++ entries_from image table (reached image table words before) after)
    pub reading : OneByOneCalls image table (fresh_state image table words state) runs
