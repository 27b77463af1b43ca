-- The calls on a guest's own image that go with calls on the linked image: where the guest's image accepts the events with their labels
-- taken back, each counterpart is accepted.
use Rattle.std.specs.Prelude.{◌≡◌, Bool, eqb, leb, length, ℕ, zero, suc, ◌*◌, ◌≤◌}
use Rattle.std.proofs.Math.Path.{refl, sym}
use Rattle.std.proofs.Common.{ap, ap₂, ◌∙◌, arith, append-nil}
use Rattle.std.proofs.Math.Bool.{true, false}
use mathlib.Core.List.{List, [], ◌∷◌, ◌++◌, map, map-append, map-map, flatten}
use Rattle.std.proofs.Math.ListN.{length-map}
use borrow.Author.Tests.{eqb-true, leb-true}
use Rattle.rules.specs.Sizes.{event_size, event_count, answer_size}
use Rattle.rules.specs.Bytes.{blocks, chunks}
use Rattle.rules.specs.Check.{Checked}
use Rattle.rules.specs.Machine.{Machine, fresh}
use Rattle.rules.specs.Encoding.{encode, words_from, signal_bytes}
use Rattle.rules.specs.Events.{Event, arrive, turn, event_bytes, events_in, events_from}
use Rattle.rules.specs.Steps.{rules_by, final}
use Rattle.rules.specs.Order.{ByteEntry}
use Rattle.rules.specs.Calls.{state_length_fault, words_length_fault, events_length_fault, answers_length_fault}
use Rattle.rules.specs.Calls.{fresh_return, fresh_state, run_return, run_state}
use Rattle.bytes_fields.specs.Each.{Each, each-front}
use Rattle.lemmas_rules.specs.Logic.{and_both}
use Rattle.lemmas_rules.specs.Faults.{first-of-zero, refusal-zero, checked-rest}
use Rattle.lemmas_rules.specs.Passed.{passed}
use Rattle.lemmas_encoding.specs.Lengths.{length-event}
use Rattle.lemmas_encoding.specs.Numbers.{AreBytes}
use Rattle.lemmas_encoding.specs.Machines.{machine-back}
use Rattle.lemmas_encoding.specs.Events.{SizedEvent, length-events}
use Rattle.lemmas_invariant.specs.StaysWellFormed.{Accepted}
use Rattle.theorem_event_runs.specs.Written.{event-reread, each-sized, written_back}
use Rattle.theorem_event_runs.specs.Runs.{RunOf, encoded-taken}
use Rattle.theorem_event_runs.proofs.Runs.{run_of}
use Rattle.theorem_serial_calls.specs.CallList.{Run, returned, state_left, accepted, next, Follow, EventsAreBytes, Calls, event_list}
use Rattle.theorem_serial_calls.specs.Accepted.{events-ok}
use Rattle.theorem_serial_calls.specs.Joined.{event_lists, Good, good-fresh, good-final}
use Rattle.theorem_serial_calls.proofs.Whole as whole
use Rattle.theorem_guests.specs.Inverse.{unshift_event, unshift_events}
use Rattle.theorem_guests_calls.specs.Shifts.{Written, lent_written}
use Rattle.theorem_guests_calls.specs.OwnCalls.{own_counterpart, own_counterparts, own_runs, HasOwnCalls}

-- ---- the events of a list, with their labels taken back

unshift_one : (d : ℕ) (e : Event) → SizedEvent e → unshift_events d (event_bytes e) ≡ event_bytes (unshift_event d e)
unfolding unshift_events events_from chunks blocks
unshift_one d e z =
    let one : events_in (event_bytes e) ≡ 1 = rw (length-event e) refl in
    rw (one, event-reread e z) (append-nil (event_bytes (unshift_event d e)))

all-unshifted : (d : ℕ) (l : List Event) → Each SizedEvent l
    → map (unshift_events d) (map event_bytes l) ≡ map event_bytes (map (unshift_event d) l)
all-unshifted d [] z = refl
all-unshifted d (e ∷ l) z = ap₂ (λ x y. x ∷ y) (unshift_one d e z.0) (all-unshifted d l z.1)

-- they are bytes too

unshift-written : (d : ℕ) (e : Event) → Written e → Written (unshift_event d e)
unfolding event_bytes signal_bytes
unshift-written d (arrive g) h zero = h 0
unshift-written d (arrive g) h (suc zero) = h 1
unshift-written d (arrive g) h (suc (suc zero)) = omega arith
unshift-written d (arrive g) h (suc (suc (suc zero))) = omega (arith, h 3)
unshift-written d (arrive g) h (suc (suc (suc (suc i)))) = h (suc (suc (suc (suc i))))
unshift-written d (turn k t) h i = h i

all-written : (d : ℕ) (l : List Event) → Each Written l → Each Written (map (unshift_event d) l)
all-written d [] w = tt
all-written d (e ∷ l) w = (unshift-written d e w.0, all-written d l w.1)

both-bytes : (xs ys : List ℕ) → AreBytes xs → AreBytes ys → AreBytes (xs ++ ys)
both-bytes [] ys h k i = k i
both-bytes (x ∷ xs) ys h k zero = h 0
both-bytes (x ∷ xs) ys h k (suc i) = both-bytes xs ys (λ j. h (suc j)) k i

written-bytes : (l : List Event) → Each Written l → AreBytes (blocks event_bytes l)
unfolding blocks
written-bytes [] h i = omega arith
written-bytes (e ∷ l) h i = both-bytes (event_bytes e) (blocks event_bytes l) h.0 (written-bytes l h.1) i

-- ---- what an accepted Run was handed besides a state

record Handed (events space : List ℕ) : Type 0 where
  few : events_in events ≤ event_count
  room : length space ≡ answer_size * events_in events

handed : (image table state events space : List ℕ) → run_return image table state events space ≡ 0 → Handed events space
unfolding run_return events_length_fault answers_length_fault
handed image table state events space h =
    let five = first-of-zero _ _ (passed image table _ h).1 in
    let six = first-of-zero _ _ five.1 in
    let seven = first-of-zero _ _ six.1 in
    let eight = first-of-zero _ _ seven.1 in
    let nine = first-of-zero _ _ eight.1 in
    let count = and_both (eqb (length events) (event_size * events_in events)) (leb (events_in events) event_count)
    (refusal-zero _ 7 0 (omega arith) seven.0) in
    record {
      few = leb-true (events_in events) event_count count.1;
      room = eqb-true (length space) (answer_size * events_in events) (refusal-zero _ 9 0 (omega arith) nine.0);
    }

-- ---- each is accepted

each-behind : {A : Type 0} (P : A → Type 0) (xs ys : List A) → Each P (xs ++ ys) → Each P ys
each-behind P [] ys h = h
each-behind P (x ∷ xs) ys h = each-behind P xs ys h.1

module _ (d : ℕ) (own table : List ℕ) (checked : Checked own table) where
  -- the guest's own image accepts an event with its label taken back
  abbrev pub There : Event → Type 0
  There e = Accepted own (unshift_event d e)

  all_there : (l : List Event) → Each There l → Each (Accepted own) (map (unshift_event d) l)
  all_there [] h = tt
  all_there (e ∷ l) h = (h.0, all_there l h.1)

  -- one accepted Run, and its counterpart
  record CounterpartAccepted (s : Machine) (r : Run) : Type 0 where
    accepted : returned (own_counterpart d own (encode s) r) ≡ 0
    bytes : AreBytes (unshift_events d r.events)
    values : events_from (unshift_events d r.events) ≡ map (unshift_event d) (events_from r.events)
    left : state_left (own_counterpart d own (encode s) r)
        ≡ encode (final (rules_by own table) s (map (unshift_event d) (events_from r.events)))

  counterpart-accepted : (s : Machine) (r : Run) → Good own table s → EventsAreBytes r → returned r ≡ 0 → r.table ≡ table
      → Each There (events_from r.events) → CounterpartAccepted s r
  unfolding unshift_events run_state
  counterpart-accepted s r good b h t a =
      let l = events_from r.events in
      let mapped = map (unshift_event d) l in
      let ok = events-ok r.image r.table r.state r.events r.space h in
      let given = handed r.image r.table r.state r.events r.space h in
      let a' = all_there l a in
      let n : length mapped ≡ events_in r.events = length-map l (unshift_event d) ∙ length-events r.events in
      let ran : RunOf own table (encode s) r.space mapped =
      run_of own table (encode s) r.space mapped (encoded-taken own table s checked good.sized good.sound) a'
      (rw n given.few) (rw n given.room) in
      record {
        accepted = rw t ran.accepted;
        bytes = written-bytes mapped (all-written d l (lent_written r.image r.events ok.whole ok.each b));
        values = written_back own mapped a';
        left = rw (t, ran.left, machine-back s good.sized) refl;
      }

  -- any number of Runs, from a machine of the guest's own that keeps its rules
  record CounterpartsAccepted (s : Machine) (runs : List Run) : Type 0 where
    follow : Follow own table (encode s) (own_counterparts d own (encode s) runs)
    bytes : Each EventsAreBytes (own_counterparts d own (encode s) runs)
    accepted : Each (λ r. returned r ≡ 0) (own_counterparts d own (encode s) runs)
    values : flatten (event_lists (own_counterparts d own (encode s) runs)) ≡ map (unshift_event d) (flatten (event_lists runs))

  counterparts-accepted : (from start : List ℕ) (s : Machine) (runs : List Run) → Good own table s → Each EventsAreBytes runs
      → Follow from table start runs → Each There (flatten (event_lists runs)) → CounterpartsAccepted s runs
  unfolding own_counterparts event_lists flatten Follow
  counterparts-accepted from start s [] good b k a = record { follow = tt; bytes = tt; accepted = tt; values = refl }
  counterparts-accepted from start s (r ∷ l) good b k a =
      case (accepted r) refl (λ s' good' a'. counterparts-accepted from (next start r) s' l good' b.1 k.1 a')
    where
      case : (c : Bool) → accepted r ≡ c
          → ((s' : Machine) → Good own table s' → Each There (flatten (event_lists l)) → CounterpartsAccepted s' l)
          → CounterpartsAccepted s (r ∷ l)
      case true e more =
          let h : returned r ≡ 0 = eqb-true (returned r) 0 e in
          let here = events_from r.events in
          let all : Each There (here ++ flatten (event_lists l)) = rw e at a in
          let one = each-front There here (flatten (event_lists l)) all in
          let t : r.table ≡ table = (k.0 h).same_table in
          let c : CounterpartAccepted s r = counterpart-accepted s r good b.0 h t one in
          let rest = more (final (rules_by own table) s (map (unshift_event d) here))
          (good-final own table checked s (map (unshift_event d) here) good (all_there here one))
          (each-behind There here (flatten (event_lists l)) all) in
          record {
            follow =
                rw (e, c.accepted, c.left) (λ z. record { same_image = refl; same_table = t; same_state = refl }, rest.follow);
            bytes = rw (e, c.left) (c.bytes, rest.bytes);
            accepted = rw (e, c.left) (c.accepted, rest.accepted);
            values = rw (e, c.accepted, c.left, c.values, rest.values) (sym (map-append (unshift_event d) here _));
          }
      case false e more =
          let c = more s good (rw e at a) in
          record { follow = rw e c.follow; bytes = rw e c.bytes; accepted = rw e c.accepted; values = rw e c.values }

  -- ---- the counterparts of a list of calls, after the Fresh of the guest's own image

  module _ (from words state : List ℕ) (runs : List Run) (calls : Calls from table words state runs)
      (there : Each There (whole.joint from table words state runs calls)) where
    abbrev alone : List Run
    alone = own_runs d own table words state runs

    -- Fresh is accepted there too
    fresh-there : fresh_return own table words state ≡ 0
    unfolding fresh_return
    fresh-there =
        let more : List ℕ = state_length_fault state ∷ words_length_fault words ∷ [] in
        checked-rest own table more checked ∙ sym (checked-rest from table more (whole.checked from table words state runs calls))
        ∙ calls.fresh

    start-there : fresh_state own table words state ≡ encode (fresh (words_from words))
    unfolding fresh_state
    start-there = rw fresh-there refl

    all : CounterpartsAccepted (fresh (words_from words)) runs
    all =
        counterparts-accepted from (fresh_state from table words state) (fresh (words_from words)) runs (good-fresh own table checked words)
        calls.bytes calls.follow there

    pub calls-there : Calls own table words state alone
    calls-there = record {
      fresh = fresh-there;
      follow = rw start-there all.follow;
      bytes = rw start-there all.bytes;
    }

    -- their events, as values
    pub events-there : whole.joint own table words state alone calls-there
        ≡ map (unshift_event d) (whole.joint from table words state runs calls)
    events-there = rw start-there all.values

    -- EVERY LIST OF CALLS HAS ITS COUNTERPARTS WHERE THE GUEST'S OWN IMAGE ACCEPTS THE EVENTS WITH THEIR LABELS TAKEN BACK
    pub counterparts-there : HasOwnCalls d own table words state runs
    counterparts-there =
        let l = whole.joint from table words state runs calls in
        record {
          calls = calls-there;
          accepted = rw start-there all.accepted;
          same =
              whole.event-bytes own table words state alone calls-there
              ∙ ap (map event_bytes) events-there
              ∙ sym (all-unshifted d l (each-sized from l (whole.all from table words state runs calls).each))
              ∙ sym (ap (map (unshift_events d)) (whole.event-bytes from table words state runs calls))
              ∙ map-map (unshift_events d) (λ (n : ByteEntry). n.event) (event_list runs);
        }
