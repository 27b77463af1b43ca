-- The calls on the linked image that go with a guest's calls: each accepted Run of the guest has its counterpart there, with its labels
-- shifted in state and events alike, and the counterpart is accepted.
use Rattle.std.specs.Prelude.{◌≡◌, Bool, ℕ, ◌*◌, ◌≤◌, eqb, leb}
use Rattle.std.proofs.Math.Path.{refl}
use Rattle.std.proofs.Common.{sym, ap, ◌∙◌, subst, arith}
use Rattle.std.proofs.Math.Bool.{true, false}
use mathlib.Core.List.{List, [], ◌∷◌, map, map-append, flatten}
use Rattle.std.proofs.Math.ListN.{length, length-map}
use borrow.Author.Tests.{eqb-true, leb-true}
use Rattle.rules.specs.Sizes.{event_size, event_count, answer_size}
use Rattle.rules.specs.Check.{Checked}
use Rattle.rules.specs.Machine.{Machine}
use Rattle.rules.specs.Encoding.{encode}
use Rattle.rules.specs.Events.{Event, events_in, events_from}
use Rattle.rules.specs.Steps.{rules_by, final}
use Rattle.rules.specs.Link.{shift_machine, shift_event, shift_events}
use Rattle.rules.specs.Calls.{events_length_fault, answers_length_fault, run_return, run_state}
use Rattle.bytes_fields.specs.Each.{Each}
use Rattle.lemmas_rules.specs.Logic.{and_both}
use Rattle.lemmas_rules.specs.Faults.{first-of-zero, refusal-zero}
use Rattle.lemmas_rules.specs.Passed.{passed}
use Rattle.lemmas_encoding.specs.Numbers.{AreBytes}
use Rattle.lemmas_encoding.specs.Machines.{machine-back}
use Rattle.lemmas_encoding.specs.Events.{length-events}
use Rattle.lemmas_invariant.specs.StaysWellFormed.{Accepted}
use Rattle.lemmas_invariant.proofs.States.{events-accepted}
use Rattle.theorem_event_runs.specs.Written.{written_back}
use Rattle.theorem_event_runs.specs.Runs.{RunOf, encoded-taken}
use Rattle.theorem_event_runs.proofs.Runs.{run_of}
use Rattle.theorem_serial_calls.specs.CallList.{Run, returned, state_left, accepted, GoesOn, Follow, EventsAreBytes}
use Rattle.theorem_serial_calls.specs.Accepted.{events-ok}
use Rattle.theorem_serial_calls.specs.Joined.{event_lists, Good, good-final}
use Rattle.theorem_guests.specs.Guests.{Guest}
use Rattle.theorem_guests.specs.Reading as of_values
use Rattle.theorem_guests.proofs.Reading as read_values
use Rattle.theorem_guests_calls.specs.Shifts.{lent_written, shifted-bytes}
use Rattle.theorem_guests_calls.specs.Counterparts.{counterpart, counterparts}

-- ---- what an accepted Run was handed besides a state

record Handed (events space : List ℕ) : Type 0 where
  few : events_in events ≤ event_count
  room : length space ≡ answer_size * events_in events

handed : (image table state events space : List ℕ) → run_return image table state events space ≡ 0 → Handed events space
unfolding run_return events_length_fault answers_length_fault
handed image table state events space h =
    let five = first-of-zero _ _ (passed image table _ h).1 in
    let six = first-of-zero _ _ five.1 in
    let seven = first-of-zero _ _ six.1 in
    let eight = first-of-zero _ _ seven.1 in
    let nine = first-of-zero _ _ eight.1 in
    let count = and_both (eqb (length events) (event_size * events_in events)) (leb (events_in events) event_count)
    (refusal-zero _ 7 0 (omega arith) seven.0) in
    record {
      few = leb-true (events_in events) event_count count.1;
      room = eqb-true (length space) (answer_size * events_in events) (refusal-zero _ 9 0 (omega arith) nine.0);
    }

-- ---- a guest's Runs

module _ (d : ℕ) (own other L table : List ℕ) (guest : Guest d own other L table) (checked : Checked L table) where
  -- a machine of the guest that keeps the rules of its own image and, shifted, those of the linked image
  pub record Both (s : Machine) : Type 0 where
    pub alone : Good own table s
    pub shifted : Good L table (shift_machine d s)

  module _ (s : Machine) (both : Both s) (l : List Event) (a : Each (Accepted own) l) where
    there : Each (Accepted L) (map (shift_event d) l)
    there = read_values.all-accepted d own L table guest.part guest.checked l a

    reading : of_values.GuestReading d own L table s (shift_machine d s) l
    reading = read_values.guest-reading d own L table guest.part guest.checked s l both.alone.sound a

    both-final : Both (final (rules_by own table) s l)
    both-final = record {
      alone = good-final own table guest.checked s l both.alone a;
      shifted =
          subst (Good L table) reading.state
          (good-final L table checked (shift_machine d s) (map (shift_event d) l) both.shifted there);
    }

  -- one accepted Run of the guest, and its counterpart
  record CounterpartAccepted (s : Machine) (r : Run) : Type 0 where
    events : Each (Accepted own) (events_from r.events)
    accepted : returned (counterpart d L (encode (shift_machine d s)) r) ≡ 0
    bytes : AreBytes (shift_events d r.events)
    values : events_from (shift_events d r.events) ≡ map (shift_event d) (events_from r.events)
    own-left : state_left r ≡ encode (final (rules_by own table) s (events_from r.events))
    left : state_left (counterpart d L (encode (shift_machine d s)) r)
        ≡ encode (shift_machine d (final (rules_by own table) s (events_from r.events)))

  counterpart-accepted : (s : Machine) (r : Run) → Both s → EventsAreBytes r → returned r ≡ 0
      → GoesOn own table (encode s) r → CounterpartAccepted s r
  unfolding shift_events run_state
  counterpart-accepted s r both b h k =
      let l = events_from r.events in
      let mapped = map (shift_event d) l in
      let same : run_return own table (encode s) r.events r.space ≡ 0 = rw (k.same_image, k.same_table, k.same_state) at h in
      let ok = events-ok own table (encode s) r.events r.space same in
      let given = handed own table (encode s) r.events r.space same in
      let a = events-accepted own r.events ok.whole ok.each in
      let a' = there s both l a in
      let n : length mapped ≡ events_in r.events = length-map l (shift_event d) ∙ length-events r.events in
      let ran : RunOf L table (encode (shift_machine d s)) r.space mapped =
      run_of L table (encode (shift_machine d s)) r.space mapped
      (encoded-taken L table (shift_machine d s) checked both.shifted.sized both.shifted.sound) a' (rw n given.few)
      (rw n given.room) in
      record {
        events = a;
        accepted = rw k.same_table ran.accepted;
        bytes = shifted-bytes d L table r.events (lent_written own r.events ok.whole ok.each b) a';
        values = written_back L mapped a';
        own-left = rw (k.same_image, k.same_table, k.same_state, same, machine-back s both.alone.sized);
        left =
            rw (k.same_table, ran.left, machine-back (shift_machine d s) both.shifted.sized) (ap encode (reading s both l a).state);
      }

  -- any number of Runs
  pub record CounterpartsAccepted (s : Machine) (runs : List Run) : Type 0 where
    pub follow : Follow L table (encode (shift_machine d s)) (counterparts d L (encode (shift_machine d s)) runs)
    pub bytes : Each EventsAreBytes (counterparts d L (encode (shift_machine d s)) runs)
    pub accepted : Each (λ r. returned r ≡ 0) (counterparts d L (encode (shift_machine d s)) runs)
    pub values : flatten (event_lists (counterparts d L (encode (shift_machine d s)) runs))
        ≡ map (shift_event d) (flatten (event_lists runs))

  pub counterparts-accepted : (s : Machine) (runs : List Run) → Both s → Each EventsAreBytes runs → Follow own table (encode s) runs
      → CounterpartsAccepted s runs
  unfolding counterparts event_lists flatten Follow
  counterparts-accepted s [] both b f = record { follow = tt; bytes = tt; accepted = tt; values = refl }
  counterparts-accepted s (r ∷ l) both b f =
      case (accepted r) refl (counterparts-accepted s l both b.1) (λ s' both' f'. counterparts-accepted s' l both' b.1 f')
    where
      case : (c : Bool) → accepted r ≡ c → (Follow own table (encode s) l → CounterpartsAccepted s l)
          → ((s' : Machine) → Both s' → Follow own table (encode s') l → CounterpartsAccepted s' l) → CounterpartsAccepted s (r ∷ l)
      case true e same more =
          let h : returned r ≡ 0 = eqb-true (returned r) 0 e in
          let k : GoesOn own table (encode s) r = f.0 h in
          let a : CounterpartAccepted s r = counterpart-accepted s r both b.0 h k in
          let rest = more (final (rules_by own table) s (events_from r.events))
          (both-final s both (events_from r.events) a.events) (rw (e, a.own-left) at f.1) in
          record {
            follow =
                rw (e, a.accepted, a.left)
                (λ z. record { same_image = refl; same_table = k.same_table; same_state = refl }, rest.follow);
            bytes = rw (e, a.left) (a.bytes, rest.bytes);
            accepted = rw (e, a.left) (a.accepted, rest.accepted);
            values = rw (e, a.accepted, a.left, a.values, rest.values) (sym (map-append (shift_event d) (events_from r.events) _));
          }
      case false e same more =
          let k = same (rw e at f.1) in
          record { follow = rw e k.follow; bytes = rw e k.bytes; accepted = rw e k.accepted; values = rw e k.values }
