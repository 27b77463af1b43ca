-- A list of events whose bytes a guest's image accepts, with its labels shifted: it is the list of the shifted values, in bytes.
use Rattle.std.specs.Prelude.{◌≡◌, refl, true, List, [], ◌∷◌, ◌++◌, map, ℕ, zero, suc, ◌+◌, ◌*◌, ◌<◌, length, take, drop}
use Rattle.std.proofs.Common.{ap₂, append-nil, arith, length-drop}
use Rattle.rules.specs.Sizes.{event_size}
use Rattle.rules.specs.Bytes.{blocks, chunks}
use Rattle.rules.specs.Encoding.{signal_bytes}
use Rattle.rules.specs.Events.{Event, arrive, turn, event_bytes, event_from, events_in, event_at_ok, events_from}
use Rattle.rules.specs.Link.{shift_event, shift_events}
use Rattle.bytes_fields.specs.Each.{Each}
use Rattle.image_record.specs.Records.{labels-small}
use Rattle.lemmas_encoding.specs.Lengths.{length-event}
use Rattle.lemmas_encoding.specs.Numbers.{AreBytes, bytes_drop}
use Rattle.lemmas_encoding.specs.Runs.{each-chunks}
use Rattle.lemmas_encoding.specs.Events.{SizedEvent, event-forth}
use Rattle.lemmas_invariant.specs.StaysWellFormed.{Accepted}
use Rattle.theorem_event_runs.specs.Written.{event-reread}
use Rattle.theorem_guests.specs.Reading.{accepted-below}

-- ---- the shifted events of a list

-- the bytes of one event, shifted
shift_one : (d : ℕ) (e : Event) → SizedEvent e → shift_events d (event_bytes e) ≡ event_bytes (shift_event d e)
unfolding shift_events events_from chunks blocks
shift_one d e z =
    let one : events_in (event_bytes e) ≡ 1 = rw (length-event e) refl in
    rw (one, event-reread e z) (append-nil (event_bytes (shift_event d e)))

pub all-shifted : (d : ℕ) (l : List Event) → Each SizedEvent l
    → map (shift_events d) (map event_bytes l) ≡ map event_bytes (map (shift_event d) l)
all-shifted d [] z = refl
all-shifted d (e ∷ l) z = ap₂ (λ x y. x ∷ y) (shift_one d e z.0) (all-shifted d l z.1)

-- ---- bytes

bytes-append : (xs ys : List ℕ) → AreBytes xs → AreBytes ys → AreBytes (xs ++ ys)
bytes-append [] ys h k i = k i
bytes-append (x ∷ xs) ys h k zero = h 0
bytes-append (x ∷ xs) ys h k (suc i) = bytes-append xs ys (λ j. h (suc j)) k i

-- a part of bytes is bytes
bytes_take : (n : ℕ) (s : List ℕ) → AreBytes s → AreBytes (take n s)
bytes_take zero s h i = omega arith
bytes_take (suc n) [] h i = omega arith
bytes_take (suc n) (x ∷ s) h zero = h 0
bytes_take (suc n) (x ∷ s) h (suc i) = bytes_take n s (λ j. h (suc j)) i

-- every byte of an event is below 256
abbrev pub Written : Event → Type 0
Written e = AreBytes (event_bytes e)

blocks-bytes : (l : List Event) → Each Written l → AreBytes (blocks event_bytes l)
unfolding blocks
blocks-bytes [] h i = omega arith
blocks-bytes (e ∷ l) h i = bytes-append (event_bytes e) (blocks event_bytes l) h.0 (blocks-bytes l h.1) i

-- events that are lent in bytes and break no rule, as their values are written
pub lent_written : (image events : List ℕ) → length events ≡ event_size * events_in events
    → ((i : ℕ) → i < events_in events → event_at_ok image events i ≡ true) → AreBytes events → Each Written (events_from events)
unfolding events_from event_at_ok
lent_written image events whole ok b =
    each-chunks Written event_from event_size (events_in events) events (λ i h.
    let at = drop (event_size * i) events in
    rw (event-forth image at (simp length-drop (omega arith)) (ok i h) (bytes_drop events (event_size * i) b))
    (bytes_take event_size at (bytes_drop events (event_size * i) b)))

-- ---- shifted, they are bytes too

-- an arrival's label that still fits after the shift
abbrev LabelFits : ℕ → Event → Type 0
LabelFits d (arrive g) = g.label + d < 65536
LabelFits d (turn k t) = Unit {0}

written-shift : (d : ℕ) (e : Event) → LabelFits d e → Written e → Written (shift_event d e)
unfolding event_bytes signal_bytes
written-shift d (arrive g) f h zero = h 0
written-shift d (arrive g) f h (suc zero) = h 1
written-shift d (arrive g) f h (suc (suc zero)) = omega arith
written-shift d (arrive g) f h (suc (suc (suc zero))) = omega arith
written-shift d (arrive g) f h (suc (suc (suc (suc i)))) = h (suc (suc (suc (suc i))))
written-shift d (turn k t) f h i = h i

-- below 512, a label has room for a shift
module _ (d : ℕ) (L table : List ℕ) where
  fits : (e : Event) → Accepted L (shift_event d e) → LabelFits d e
  fits (arrive g) h = omega (arith, accepted-below L table (shift_event d (arrive g)) h, labels-small L)
  fits (turn k t) h = tt

  each-written : (l : List Event) → Each Written l → Each (Accepted L) (map (shift_event d) l) → Each Written (map (shift_event d) l)
  each-written [] w h = tt
  each-written (e ∷ l) w h = (written-shift d e (fits e h.0) w.0, each-written l w.1 h.1)

  pub shifted-bytes : (events : List ℕ) → Each Written (events_from events) → Each (Accepted L) (map (shift_event d) (events_from events))
      → AreBytes (shift_events d events)
  unfolding shift_events
  shifted-bytes events w h = blocks-bytes (map (shift_event d) (events_from events)) (each-written (events_from events) w h)
