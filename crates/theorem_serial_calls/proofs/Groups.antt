-- Blocks that one lock guards, in a list of calls: `holds-the-group`, `enters-with-its-lock` and `waits-for-the-lock`.
use Rattle.std.specs.Prelude.{◌≡◌, refl, ◌≢◌, true, ℕ, ◌<◌}
use Rattle.std.proofs.Common.{sym, ◌∙◌}
use Rattle.std.proofs.Math.Path.{ap}
use mathlib.Core.List.{List, [], ◌∷◌, ◌++◌}
use Rattle.rules.specs.Sizes.{thread_count}
use Rattle.rules.specs.Bytes.{has}
use Rattle.rules.specs.Image.{row_at}
use Rattle.rules.specs.Machine.{Job, running, Machine, thread_at, locks_of}
use Rattle.rules.specs.Events.{Event, step, event_bytes}
use Rattle.rules.specs.Answers.{Sort, out, code, detail, answer_bytes, sort_of_code}
use Rattle.rules.specs.Steps.{Rules, Move, Reply, rules_by, applied, react}
use Rattle.rules.specs.Order.{Sheet, note_as, notes_by, blank, spread, order_by, byte_order}
use Rattle.lemmas_invariant.proofs.CheckedRules.{checked-laws}
use Rattle.lemmas_invariant.specs.Laws.{Needs, Laws}
use Rattle.lemmas_invariant.specs.Invariant.{Invariant}
use Rattle.theorem_safety.specs.Groups as groups
use Rattle.theorem_safety.specs.Groups.{Wants}
use Rattle.theorem_serial_calls.specs.CallList.{Run, Calls, event_list, events_of}
use Rattle.theorem_serial_calls.proofs.Whole as whole
use Rattle.theorem_serial_calls.specs.Reached.{entries_from, reached, entries_to}
use Rattle.theorem_serial_calls.proofs.Reached.{good, entries}
use Rattle.theorem_serial_calls.specs.Groups.{Waited}

-- an entry that is left out has no part in the second order
module _ {A : Type 0} (f : A → Sort) (g : A → ℕ) where
  passed_over : (h : Sheet A) (xs ys : List A) (n : A) → f n ≡ out → notes_by f g h (xs ++ n ∷ ys) ≡ notes_by f g h (xs ++ ys)
  unfolding notes_by note_as
  passed_over h [] ys n e = ap (λ k. notes_by f g (note_as k (g n) h n) ys) e
  passed_over h (x ∷ xs) ys n e = passed_over (note_as (f x) (g x) h x) xs ys n e

  left_out : (xs ys : List A) (n : A) → f n ≡ out → order_by f g (xs ++ n ∷ ys) ≡ order_by f g (xs ++ ys)
  unfolding order_by
  left_out xs ys n e = ap spread (passed_over blank xs ys n e)

module _ (image table words state : List ℕ) (runs : List Run) (calls : Calls image table words state runs) where
  abbrev R : Rules
  R = rules_by image table

  module _ (before after : List Event) (t : ℕ) (split : events_of (event_list runs) ≡ before ++ step t ∷ after) where
    abbrev s : Machine
    s = reached image table words before

    invariant : Invariant R s
    invariant = (good image table words state runs calls before after t split).sound.invariant

    told : (r : Reply) → react R s (step t) ≡ r
        → event_list runs
        ≡ entries_to image table words before
        ++ record { event = event_bytes (step t); answer = answer_bytes r.answer } ∷ entries_from image table r.state after
    told = entries image table words state runs calls before after t split

    laws : Laws R
    laws = checked-laws image table (whole.checked image table words state runs calls)

    -- a job holds the lock of a group as long as it needs one of its blocks
    pub holds-the-group : (u b c locks : ℕ) (j : Job) → thread_at s u ≡ running locks j → Needs R j b
        → (row_at table b).lock ≡ (row_at table c).lock
        → has (row_at table c).lock locks ≡ true
    holds-the-group u b c locks j = groups.holds-the-group R laws s invariant u b c locks j

    module _ (c : ℕ) (m : Move) (wants : Wants R s t c m) where
      -- A THREAD THAT HOLDS THE LOCK OF A BLOCK ENTERS IT WITHOUT WAITING, AND ITS LOCK SET STAYS AS IT IS
      pub enters-with-its-lock : (locks : ℕ) (j : Job) → t < thread_count → thread_at s t ≡ running locks j
          → has (row_at table c).lock locks ≡ true
          → (event_list runs ≡ entries_to image table words before ++ record { event = event_bytes (step t); answer = 6 ∷ 0 ∷ [] }
          ∷ entries_from image table (applied R t m s) after) × (locks_of (thread_at (applied R t m s) t) ≡ locks)
      unfolding answer_bytes code detail
      enters-with-its-lock locks j inside busy own =
          let r = groups.enters-with-its-lock R laws s invariant t c locks j m inside busy own wants in (
            told _ r,
            ap (λ (z : Reply). locks_of (thread_at z.state t)) (sym r)
                ∙ groups.lock-set-stays R laws s invariant t c locks j m inside busy own wants,
          )

      -- A THREAD THAT WANTS A BLOCK WHOSE LOCK ANOTHER HOLDS: IT WAITS, AND THE ONE-BY-ONE ORDER IS THE SAME
      pub waits-for-the-lock : (u : ℕ) → u ≢ t → has (row_at table c).lock (locks_of (thread_at s u)) ≡ true
          → Waited image table words state runs calls c before after t
      unfolding answer_bytes code detail byte_order sort_of_code
      waits-for-the-lock u n held =
          let r = groups.waits-for-the-lock R laws s invariant t u c m n held wants in
          record {
            list = told _ r;
            order =
                ap byte_order (told _ r)
                ∙ left_out _ _ (entries_to image table words before) (entries_from image table s after) _ refl;
            reading = whole.calls-one-by-one image table words state runs calls;
          }
