-- Events that an image accepts, written down: their bytes break no rule, and read back as themselves.
use Rattle.std.specs.Prelude.{◌≡◌, true, false, ℕ, ◌+◌, ◌*◌, ◌-◌, ◌≤◌, ◌<◌, eqb, leb, ltb, get_or, take}
use Rattle.std.proofs.Math.Path.{refl}
use Rattle.std.proofs.Common.{sym, ap, ap₂, ◌∙◌, arith, take_at}
use mathlib.Core.List.{List, [], ◌∷◌, ◌++◌, map, append-nil}
use Rattle.std.proofs.Math.ListN.{length}
use borrow.Author.Tests.{eq-eqb, lt-ltb, le-leb}
use Rattle.rules.specs.Sizes.{thread_count, register_count, values_place, signal_size, event_signal_place, event_size, event_count}
use Rattle.rules.specs.Codes.{arrival_code, external_code, bad_event_number}
use Rattle.rules.specs.Bytes.{num16, part, is_zeros, blocks}
use Rattle.rules.specs.Image.{record_at, entry}
use Rattle.rules.specs.Machine.{Signal}
use Rattle.rules.specs.Encoding.{signal_bytes, no_signal}
use Rattle.rules.specs.WellFormed.{signal_tidy}
use Rattle.rules.specs.Events.{Kind, stepping, cutting, Event, arrive, turn, step, kind_code, kind_of, event_bytes}
use Rattle.rules.specs.Events.{arrival_ok, turn_ok, event_ok}
use Rattle.rules.specs.Events.{event_from, events_in, event_at_ok, events_from}
use Rattle.rules.specs.Calls.{events_length_fault, event_fault}
use Rattle.bytes_fields.specs.Put.{part-drop}
use Rattle.bytes_fields.specs.Each.{Each, each_at}
use Rattle.bytes_fields.specs.Tests.{are-zeros}
use Rattle.bytes_fields.specs.Runs.{no-fault}
use Rattle.bytes_fields.specs.Blocks.{length-blocks, chunks-blocks, block-drop}
use Rattle.lemmas_rules.specs.Logic.{and_both, both_hold}
use Rattle.lemmas_encoding.specs.Lengths.{length-signal, length-event}
use Rattle.lemmas_encoding.specs.Numbers.{num16-le16}
use Rattle.lemmas_encoding.specs.Signals.{no-signal, signal-tidy}
use Rattle.lemmas_encoding.specs.Events.{SizedEvent, event-back}
use Rattle.lemmas_invariant.specs.Members.{each_map}
use Rattle.lemmas_invariant.specs.StaysWellFormed.{Accepted}

-- ---- the rules of an event

-- the label of a signal that is written
label-back : (g : Signal) (q : List ℕ) → num16 (signal_bytes g ++ q) ≡ g.label
unfolding signal_bytes
label-back g q = num16-le16 g.label _

arrival-ok : (image : List ℕ) (g : Signal) (q : List ℕ) → Accepted image (arrive g)
    → arrival_ok image (arrival_code ∷ 0 ∷ (signal_bytes g ++ q)) ≡ true
unfolding arrival_ok signal_tidy
arrival-ok image g q h =
    let s = signal_bytes g ++ q in
    let b = arrival_code ∷ 0 ∷ s in
    let n = get_or s 2 0 in
    let unused = part s (values_place + 2 * n) (2 * (register_count - n)) in
    let tidy = and_both (leb n register_count) (is_zeros unused) (signal-tidy g h.1 q) in
    let there : part b (event_signal_place + values_place + 2 * n) (2 * (register_count - n)) ≡ unused =
    let f : event_signal_place + values_place + 2 * n ≡ event_signal_place + (values_place + 2 * n) = omega arith in
    rw f (sym (part-drop b event_signal_place (values_place + 2 * n) (2 * (register_count - n)))) in
    let label : eqb (entry (record_at image (num16 s))) external_code ≡ true = rw (label-back g q) (eq-eqb _ external_code h.0) in
    both_hold _ _ (both_hold _ _ label tidy.0) (rw there tidy.1)

turn-ok : (c t : ℕ) (q : List ℕ) → t < thread_count → turn_ok (c ∷ t ∷ (signal_bytes no_signal ++ q)) ≡ true
unfolding turn_ok part
turn-ok c t q h =
    let zeros : take signal_size (signal_bytes no_signal ++ q) ≡ signal_bytes no_signal = take_at (signal_bytes no_signal) q signal_size
    (length-signal no_signal) in
    both_hold (ltb t thread_count) _ (lt-ltb t thread_count h) (rw (zeros, no-signal) (are-zeros signal_size))

-- a turn's code is no arrival's, and stands for its kind
kind-known : (k : Kind) → (eqb (kind_code k) arrival_code ≡ false) × (kind_of (kind_code k) ≡ k)
kind-known stepping = (refl, refl)
kind-known cutting = (refl, refl)

event-ok : (image : List ℕ) (e : Event) (q : List ℕ) → Accepted image e → event_ok image (event_bytes e ++ q) ≡ true
unfolding event_ok event_bytes
event-ok image (arrive g) q h = arrival-ok image g q h
event-ok image (turn k t) q h =
    rw ((kind-known k).0, (kind-known k).1, eq-eqb (kind_code k) (kind_code k) refl) (turn-ok (kind_code k) t q h)

-- ---- events, written down and read again

-- the bytes of an accepted event have room for it
accepted-sized : (image : List ℕ) (e : Event) → Accepted image e → SizedEvent e
accepted-sized image (arrive g) h = h.1
accepted-sized image (turn k t) h = tt

pub each-sized : (image : List ℕ) (l : List Event) → Each (Accepted image) l → Each SizedEvent l
each-sized image l h = each_map (Accepted image) SizedEvent l (accepted-sized image) h

pub event-reread : (e : Event) → SizedEvent e → event_from (event_bytes e) ≡ e
event-reread e z = rw (append-nil (event_bytes e)) at (event-back e z [])

all-reread : (l : List Event) → Each SizedEvent l → map event_from (map event_bytes l) ≡ l
all-reread [] z = refl
all-reread (e ∷ l) z = ap₂ (λ x y. x ∷ y) (event-reread e z.0) (all-reread l z.1)

-- two event lists whose bytes are the same
pub same-events : (l m : List Event) → Each SizedEvent l → Each SizedEvent m → map event_bytes l ≡ map event_bytes m → l ≡ m
same-events l m z y e = sym (all-reread l z) ∙ ap (map event_from) e ∙ all-reread m y

-- ---- a list of them, and nothing behind it

module _ (l : List Event) where
  abbrev bytes : List ℕ
  bytes = blocks event_bytes l

  pub written-whole : length bytes ≡ event_size * length l
  written-whole = length-blocks event_bytes event_size length-event l

  pub written_count : events_in bytes ≡ length l
  written_count = omega (arith, written-whole)

  -- NUMBER 7 DOES NOT APPLY
  pub passes-seven : length l ≤ event_count → events_length_fault bytes ≡ 0
  unfolding events_length_fault
  passes-seven few =
      rw (written_count, eq-eqb (length bytes) (event_size * length l) written-whole, le-leb (length l) event_count few) refl

module _ (image : List ℕ) (l : List Event) (accepted : Each (Accepted image) l) where
  pub written_back : events_from (bytes l) ≡ l
  unfolding events_from
  written_back =
      rw (written_count l, ← append-nil (bytes l))
      (chunks-blocks event_bytes event_from event_size length-event SizedEvent event-back l [] (each-sized image l accepted))

  written-ok : (i : ℕ) → i < length l → event_at_ok image (bytes l) i ≡ true
  unfolding event_at_ok
  written-ok i h =
      rw (← append-nil (bytes l), block-drop event_bytes event_size length-event (step 0) [] [] l (event_size * i) i (omega arith) h)
      (event-ok image (get_or l i (step 0)) _ (each_at (Accepted image) l i (step 0) accepted h))

  -- NOR DOES NUMBER 8
  pub passes-eight : event_fault image (bytes l) ≡ 0
  unfolding event_fault
  passes-eight = rw (written_count l) (no-fault (event_at_ok image (bytes l)) (length l) bad_event_number written-ok)
