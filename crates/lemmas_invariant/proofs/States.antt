-- State bytes: the fresh machine's bytes are well formed, and a state that an accepted call left is accepted by the next call with the
-- same image and table.
use Rattle.std.specs.Prelude.{◌≡◌, refl, Bool, true, false, cond, ◌&&◌, List, ℕ, ◌+◌, ◌*◌, ◌-◌, ◌≤◌, ◌<◌, eqb, leb, length, get_or, drop}
use Rattle.std.proofs.Common.{arith, length-drop, eqb-true}
use Rattle.rules.specs.Sizes.{register_count, state_size, event_kind_place, event_thread_place, event_signal_place, event_size, event_count}
use Rattle.rules.specs.Codes.{arrival_code, bad_event_number}
use Rattle.rules.specs.Bytes.{num16, part, is_zeros}
use Rattle.rules.specs.Image.{record_at, entry}
use Rattle.rules.specs.Check.{Checked}
use Rattle.rules.specs.Machine.{Machine, fresh}
use Rattle.rules.specs.Encoding.{signal_from, encode, words_from, machine_from}
use Rattle.rules.specs.Events.{Event, arrive, turn, kind_code, kind_of, Valid, event_from, arrival_ok, turn_ok, event_ok, events_in}
use Rattle.rules.specs.Events.{events_length_ok, event_at_ok, events_from}
use Rattle.rules.specs.Steps.{rules_by, final}
use Rattle.rules.specs.WellFormed.{state_tidy, machine_ok, well_formed}
use Rattle.rules.specs.Calls.{state_length_fault, state_fault, events_length_fault, event_fault, fresh_return}
use Rattle.rules.specs.Calls.{fresh_state, run_return, run_state}
use Rattle.bytes_fields.specs.Each.{Each}
use Rattle.lemmas_rules.specs.Faults.{first-of-zero, refusal-zero, fault-free, checked-of}
use Rattle.lemmas_encoding.specs.Sized.{Sized}
use Rattle.lemmas_rules.specs.Logic.{and_both, both_hold}
use Rattle.lemmas_encoding.specs.Runs.{length-chunks, each-chunks}
use Rattle.lemmas_encoding.specs.Lengths.{length-encode}
use Rattle.lemmas_encoding.specs.Machines.{machine-back, machine-sized, machine-tidy}
use Rattle.lemmas_encoding.specs.Events.{SizedEvent, event-sized, event-valid}
use Rattle.lemmas_invariant.specs.Sound.{Sound, sound-of, sound-ok}
use Rattle.lemmas_invariant.specs.StaysWellFormed.{Accepted}
use Rattle.lemmas_invariant.proofs.StaysWellFormed.{sound-final, sound-fresh}
use Rattle.lemmas_invariant.proofs.StaysSized.{sized-final, sized_fresh}
use Rattle.lemmas_invariant.specs.States.{Ready, Given}

-- ---- an event that breaks no rule is accepted

-- an arrival's label has entry 3
abbrev External : List ℕ → Event → Type 0
External image (arrive g) = entry (record_at image g.label) ≡ 3
External image (turn k t) = Unit {0}

accepted : (image : List ℕ) (e : Event) → External image e → SizedEvent e → Valid e → Accepted image e
accepted image (arrive g) x z v = (x, z)
accepted image (turn k t) x z v = v t refl

external : (image b : List ℕ) → event_ok image b ≡ true → External image (event_from b)
unfolding event_ok arrival_ok event_from signal_from
external image b h = case (eqb (get_or b event_kind_place 0) arrival_code) h
  where
    case : (c : Bool)
        → cond c (arrival_ok image b) (eqb (get_or b event_kind_place 0) (kind_code (kind_of (get_or b event_kind_place 0))) && turn_ok b)
        ≡ true
        → External image
        (cond c (arrive (signal_from (drop event_signal_place b)))
        (turn (kind_of (get_or b event_kind_place 0)) (get_or b event_thread_place 0)))
    case true k =
        let thread : Bool = eqb (get_or b 1 0) 0 in
        let label : Bool = eqb (entry (record_at image (num16 (drop 2 b)))) 3 in
        let count : Bool = leb (get_or b 4 0) register_count in
        let zeros : Bool = is_zeros (part b (5 + 2 * get_or b 4 0) (2 * (register_count - get_or b 4 0))) in
        eqb-true _ 3 (and_both thread label (and_both (thread && label) count (and_both (thread && label && count) zeros k).0).0).1
    case false k = tt

pub events-accepted : (image events : List ℕ) → length events ≡ event_size * events_in events
    → ((i : ℕ) → i < events_in events → event_at_ok image events i ≡ true)
    → Each (Accepted image) (events_from events)
unfolding events_from event_at_ok
events-accepted image events l h =
    each-chunks (Accepted image) event_from event_size (events_in events) events (λ i n.
    let b = drop (event_size * i) events in
    let room : event_size ≤ length b = simp length-drop (omega arith) in
    accepted image (event_from b) (external image b (h i n)) (event-sized image b room (h i n)) (event-valid image b room (h i n)))

-- ---- well formed bytes

module _ (image table : List ℕ) where
  pub encoded-well-formed : (s : Machine) → Sized s → Sound image table s → well_formed image table (encode s) ≡ true
  unfolding well_formed
  encoded-well-formed s z k =
      both_hold (state_tidy (encode s)) (machine_ok image table (machine_from (encode s))) (machine-tidy s z)
      (rw (machine-back s z) (sound-ok image table s k))

  module _ (checked : Checked image table) where
    -- THE FRESH MACHINE'S BYTES ARE WELL FORMED
    pub fresh-bytes-well-formed : (words : List ℕ) → well_formed image table (encode (fresh (words_from words))) ≡ true
    fresh-bytes-well-formed words =
        encoded-well-formed (fresh (words_from words))
        (sized_fresh (words_from words) (unfold words_from in length-chunks num16 2 256 words))
        (sound-fresh image table checked (words_from words))

    -- EVERY LIST OF ACCEPTED EVENTS KEEPS THEM SO
    pub bytes-stay-well-formed : (state : List ℕ) (l : List Event) → length state ≡ state_size → well_formed image table state ≡ true
        → Each (Accepted image) l
        → well_formed image table (encode (final (rules_by image table) (machine_from state) l)) ≡ true
    unfolding well_formed
    bytes-stay-well-formed state l n w h =
        let t = and_both (state_tidy state) (machine_ok image table (machine_from state)) w in
        let z : Sized (machine_from state) = machine-sized state n t.0 in
        let k : Sound image table (machine_from state) = sound-of image table (machine_from state) z.threads t.1 in
        encoded-well-formed (final (rules_by image table) (machine_from state) l)
        (sized-final image table checked (machine_from state) l k z h) (sound-final image table checked (machine_from state) l k h)

-- ---- over calls

encoded-ready : (image table : List ℕ) (s : Machine) → well_formed image table (encode s) ≡ true → Ready image table (encode s)
unfolding state_length_fault state_fault
encoded-ready image table s w = record { size = rw (length-encode s) refl; formed = rw w refl }

-- the state that an accepted Fresh left
pub fresh-leaves-ready : (image table words state : List ℕ) → fresh_return image table words state ≡ 0
    → Ready image table (fresh_state image table words state)
unfolding fresh_return fresh_state
fresh-leaves-ready image table words state h =
    rw h (encoded-ready image table (fresh (words_from words)) (fresh-bytes-well-formed image table (checked-of image table _ h).0 words))

pub given-of : (image table state events space : List ℕ) → run_return image table state events space ≡ 0 → Given image table state events
unfolding run_return state_length_fault state_fault events_length_fault event_fault
given-of image table state events space h =
    let four = checked-of image table _ h in
    let five = first-of-zero _ _ four.1 in
    let six = first-of-zero _ _ five.1 in
    let seven = first-of-zero _ _ six.1 in
    let eight = first-of-zero _ _ seven.1 in
    let whole : events_length_ok events ≡ true = refusal-zero _ 7 0 (omega arith) seven.0 in
    let length-ok = (and_both (eqb (length events) (event_size * events_in events)) (leb (events_in events) event_count) whole).0 in
    record {
      checked = four.0;
      size = eqb-true (length state) state_size (refusal-zero _ 5 0 (omega arith) five.0);
      formed = refusal-zero _ 6 0 (omega arith) six.0;
      accepted =
          events-accepted image events (eqb-true _ _ length-ok)
          (fault-free (event_at_ok image events) (events_in events) bad_event_number (omega arith) eight.0);
    }

-- the state that an accepted Run left
pub run-leaves-ready : (image table state events space : List ℕ) → run_return image table state events space ≡ 0
    → Ready image table (run_state image table state events space)
unfolding run_state
run-leaves-ready image table state events space h =
    let g : Given image table state events = given-of image table state events space h in
    rw h (encoded-ready image table _ (bytes-stay-well-formed image table g.checked state (events_from events) g.size g.formed
    g.accepted))
