-- The event list of the bytes is the log of the accepted Runs' events, and what the last accepted call left is their machine: `joined`.
use Rattle.std.specs.Prelude.{◌≡◌, Bool, ℕ}
use Rattle.std.proofs.Math.Path.{refl}
use Rattle.std.proofs.Math.Bool.{true, false}
use mathlib.Core.List.{List, [], ◌∷◌, map, map-append, flatten}
use borrow.Author.Tests.{eqb-true}
use Rattle.rules.specs.Check.{Checked}
use Rattle.rules.specs.Machine.{Machine}
use Rattle.rules.specs.Encoding.{encode}
use Rattle.rules.specs.Events.{events_in, events_from}
use Rattle.rules.specs.Steps.{Rules, rules_by, final}
use Rattle.rules.specs.Order.{log, byte_entries}
use Rattle.rules.specs.Calls.{run_return, run_state, run_answers}
use Rattle.bytes_fields.specs.Each.{Each, each_append}
use Rattle.theorem_serial.specs.Calls.{logs, finals}
use Rattle.theorem_serial.specs.ByteOrder.{bytes_of}
use Rattle.lemmas_encoding.specs.Numbers.{AreBytes}
use Rattle.lemmas_encoding.specs.Machines.{machine-back}
use Rattle.lemmas_encoding.specs.Entries.{run-entries}
use Rattle.lemmas_invariant.specs.StaysWellFormed.{Accepted}
use Rattle.lemmas_invariant.proofs.States.{events-accepted}
use Rattle.theorem_serial_calls.specs.CallList.{Run, returned, state_left, answers_left, accepted, last_left, GoesOn, Follow}
use Rattle.theorem_serial_calls.specs.CallList.{EventsAreBytes, entries_of, event_list}
use Rattle.theorem_serial_calls.specs.Accepted.{EventsOk, events-ok}
use Rattle.theorem_serial_calls.specs.Joined as calls
use Rattle.theorem_serial_calls.specs.Joined.{event_lists, Good, good-final}

module _ (image table : List ℕ) (checked : Checked image table) where
  abbrev R : Rules
  R = rules_by image table

  -- ---- one accepted Run, from the bytes of a machine

  module _ (s : Machine) (g : Good image table s) where
    run-state : (events space : List ℕ) → run_return image table (encode s) events space ≡ 0
        → run_state image table (encode s) events space ≡ encode (final R s (events_from events))
    unfolding run_state
    run-state events space h = rw (h, machine-back s g.sized) refl

    run-logs : (events space : List ℕ) → AreBytes events → run_return image table (encode s) events space ≡ 0
        → byte_entries (events_in events) events (run_answers image table (encode s) events space)
        ≡ map bytes_of (log R s (events_from events))
    unfolding run_answers
    run-logs events space b h =
        let k : EventsOk image events = events-ok image table (encode s) events space h in
        rw (h, machine-back s g.sized) (run-entries R image events b k.whole k.each s)

    module _ (r : Run) (h : returned r ≡ 0) (k : GoesOn image table (encode s) r) where
      handed : run_return image table (encode s) r.events r.space ≡ 0
      handed = rw (k.same_image, k.same_table, k.same_state) at h

      state-left : state_left r ≡ encode (final R s (events_from r.events))
      state-left = rw (k.same_image, k.same_table, k.same_state) (run-state r.events r.space handed)

      entries-left : EventsAreBytes r
          → byte_entries (events_in r.events) r.events (answers_left r) ≡ map bytes_of (log R s (events_from r.events))
      entries-left b = rw (k.same_image, k.same_table, k.same_state) (run-logs r.events r.space b handed)

      run-accepted : Each (Accepted image) (events_from r.events)
      run-accepted =
          let k : EventsOk image r.events = events-ok image table (encode s) r.events r.space handed in
          events-accepted image r.events k.whole k.each

  -- ---- any number of Runs

  abbrev Joined : Machine → List Run → Type 0
  Joined s runs = calls.Joined image table checked s runs

  joined-accepted : (s : Machine) (r : Run) (l : List Run) → Good image table s → EventsAreBytes r → returned r ≡ 0
      → GoesOn image table (encode s) r
      → Joined (final R s (events_from r.events)) l → Joined s (r ∷ l)
  unfolding event_list entries_of last_left event_lists logs finals flatten
  joined-accepted s r l g b h k j = record {
    entries = rw (h, map-append bytes_of, entries-left s g r h k b, j.entries) refl;
    state = rw (h, state-left s g r h k) j.state;
    each = rw h (each_append (Accepted image) (events_from r.events) (flatten (event_lists l)) (run-accepted s g r h k) j.each);
  }

  -- a refused Run counts no event
  joined-refused : (s : Machine) (r : Run) (l : List Run) → accepted r ≡ false → Joined s l → Joined s (r ∷ l)
  unfolding event_list entries_of last_left event_lists
  joined-refused s r l h j = record { entries = rw h j.entries; state = rw h j.state; each = rw h j.each }

  pub joined : (s : Machine) (runs : List Run) → Good image table s → Each EventsAreBytes runs → Follow image table (encode s) runs
      → Joined s runs
  unfolding event_list last_left event_lists logs finals flatten Follow
  joined s [] g b f = record { entries = refl; state = refl; each = tt }
  joined s (r ∷ l) g b f = case (accepted r) refl (joined s l g b.1) (λ s' g' f'. joined s' l g' b.1 f')
    where
      case : (a : Bool) → accepted r ≡ a → (Follow image table (encode s) l → Joined s l)
          → ((s' : Machine) → Good image table s' → Follow image table (encode s') l → Joined s' l) → Joined s (r ∷ l)
      case true e same more =
          let h : returned r ≡ 0 = eqb-true (returned r) 0 e in
          let k : GoesOn image table (encode s) r = f.0 h in
          let s' : Machine = final R s (events_from r.events) in
          joined-accepted s r l g b.0 h k
          (more s' (good-final image table checked s (events_from r.events) g (run-accepted s g r h k))
          (rw (e, state-left s g r h k) at f.1))
      case false e same more = joined-refused s r l e (same (rw e at f.1))
