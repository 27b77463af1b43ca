-- A list of calls, parted at one step: the machine that the events before it have left, the step's entry in the event list, and what the
-- calls leave where it is the last event.
use Rattle.std.specs.Prelude.{◌≡◌, ℕ}
use mathlib.Core.List.{List, [], ◌∷◌, ◌++◌, map}
use Rattle.rules.specs.Machine.{idle, Machine, thread_at, fresh}
use Rattle.rules.specs.Encoding.{words_from, machine_from}
use Rattle.rules.specs.Events.{Event, step, event_bytes}
use Rattle.rules.specs.Steps.{rules_by, finished, final}
use Rattle.rules.specs.Order.{log, ByteEntry}
use Rattle.rules.specs.Calls.{fresh_state}
use Rattle.theorem_serial.specs.ByteOrder.{bytes_of}
use Rattle.theorem_serial_calls.specs.CallList.{Run, last_left, event_list}

-- the entries of events from a machine on
abbrev pub entries_from : List ℕ → List ℕ → Machine → List Event → List ByteEntry
entries_from image table s after = map bytes_of (log (rules_by image table) s after)

-- the machine that the events before the step have left from Fresh's words, and their entries
abbrev pub reached : List ℕ → List ℕ → List ℕ → List Event → Machine
reached image table words before = final (rules_by image table) (fresh (words_from words)) before

abbrev pub entries_to : List ℕ → List ℕ → List ℕ → List Event → List ByteEntry
entries_to image table words before = entries_from image table (fresh (words_from words)) before

-- after these events a step of thread t got this answer and left this machine, which is in the bytes that the calls leave if no event comes
-- after
module _ (image table words state : List ℕ) (runs : List Run) (before after : List Event) (t : ℕ) where
  pub record Stepped (c d : ℕ) (m : Machine) : Type 0 where
    pub list : event_list runs
        ≡ entries_to image table words before
        ++ record { event = event_bytes (step t); answer = c ∷ d ∷ [] } ∷ entries_from image table m after
    pub left : after ≡ [] → machine_from (last_left (fresh_state image table words state) runs) ≡ m

  -- a trap with this reason: the job ended, no word changed, and the thread is idle
  pub record Trapped (reason : ℕ) : Type 0 where
    pub stepped : Stepped 8 reason (finished (rules_by image table) t (reached image table words before))
    pub unwritten : (finished (rules_by image table) t (reached image table words before)).words ≡ (reached image table words before).words
    pub cleared : thread_at (finished (rules_by image table) t (reached image table words before)) t ≡ idle
