-- An event where it stands in the lent bytes.
use Rattle.std.specs.Prelude.{◌≡◌, refl, Bool, true, false, cond, ◌&&◌, ◌||◌, List, ℕ, ◌+◌, ◌*◌, ◌-◌, ◌/◌, ◌%◌, ◌≤◌, leb, ltb, drop}
use Rattle.std.specs.Prelude.{Result, Ok, Err}
use Rattle.std.proofs.Common.{◌∙◌, sym}
use Rattle.std.proofs.Math.Bool.{and_assoc, and-false}
use Rattle.std.proofs.Math.Nat.{add-zero}
use native.Mathlib.Omega.{arith}
use Rattle.std.proofs.Math.Dec.{eqb}
use Rattle.std.proofs.Math.ListN.{get_or}
use Rattle.std.proofs.Math.Seq.{drop-drop, get_or-drop}
use Rattle.rules.specs.Sizes.{thread_count, register_count, signal_size, event_thread_place, event_signal_place, event_size}
use Rattle.rules.specs.Codes.{external_code, arrival_code, step_code, cut_code}
use Rattle.rules.specs.Bytes.{num16, part, is_zeros}
use Rattle.rules.specs.Image.{labels, record_at, entry}
use Rattle.rules.specs.Kinds.{event_kind}
use Rattle.rules.specs.declared.kinds.EventKind.{EventKind}
use Rattle.rules.specs.declared.kinds.EventKind.TheVariants.{Arrival, Step, Cut}
use Rattle.rules.specs.declared.kinds.UnknownKind.{UnknownKind}
use Rattle.rules.specs.Events.{stepping, cutting, kind_code, kind_of, arrival_ok, turn_ok, event_ok, event_at_ok}
use Rattle.rules.specs.WellFormed.{signal_tidy}
use Rattle.bytes_fields.specs.Put.{part-drop}
use Rattle.image_record.specs.Records.{no_record}

module _ (image s : List ℕ) (at : ℕ) where
  pub arrival-at : arrival_ok image (drop at s)
      ≡ (eqb (get_or s (at + event_thread_place) 0) 0
      && eqb (entry (record_at image (num16 (drop (at + event_signal_place) s)))) external_code
      && signal_tidy (drop (at + event_signal_place) s))
  unfolding arrival_ok signal_tidy
  arrival-at =
      let a = eqb (get_or s (at + event_thread_place) 0) 0 in
      let e = eqb (entry (record_at image (num16 (drop (at + event_signal_place) s)))) external_code in
      let c = get_or s (at + 4) 0 in
      let f : at + 2 + 2 ≡ at + 4 = omega arith in
      let g : at + 2 + (3 + 2 * c) ≡ at + (5 + 2 * c) = omega arith in
      rw (
        get_or-drop at s 1 0,
        drop-drop 2 at s,
        get_or-drop at s 4 0,
        get_or-drop (at
            + event_signal_place) s 2 0,
        f,
        part-drop,
        part-drop,
        g,
      )
      (and_assoc (a && e) (leb c register_count) (is_zeros (part s (at + (5 + 2 * c)) (2 * (register_count - c)))))

  pub arrival-past : labels image ≤ num16 (drop (at + event_signal_place) s) → arrival_ok image (drop at s) ≡ false
  arrival-past h = arrival-at ∙ rw (no_record image (num16 (drop (at + event_signal_place) s)) h, and-false)

pub turn_at : (s : List ℕ) (at : ℕ)
    → turn_ok (drop at s) ≡ (ltb (get_or s (at + event_thread_place) 0) thread_count
    && is_zeros (part s (at + event_signal_place) signal_size))
unfolding turn_ok
turn_at s at = rw (get_or-drop at s 1 0, part-drop)

-- the codes of the kinds of turn
turn-kinds : (c : ℕ) → eqb c (kind_code (kind_of c)) ≡ (eqb c step_code || eqb c cut_code)
turn-kinds c = case (eqb c step_code) refl
  where
    case : (d : Bool) → eqb c step_code ≡ d → eqb c (kind_code (cond d stepping cutting)) ≡ (d || eqb c cut_code)
    case true e = e
    case false e = refl

-- an event by its kind: an arrival's test, a turn's, or none
abbrev pub of_kind : Result EventKind UnknownKind → Bool → Bool → Bool
of_kind (Ok Arrival) a t = a
of_kind (Ok Step) a t = t
of_kind (Ok Cut) a t = t
of_kind (Err e) a t = false

by_kind : (k : ℕ) (a t : Bool) → cond (eqb k arrival_code) a ((eqb k step_code || eqb k cut_code) && t) ≡ of_kind (event_kind k) a t
by_kind k a t = case (eqb k arrival_code) (eqb k step_code) (eqb k cut_code)
  where
    case : (x y z : Bool) → cond x a ((y || z) && t)
        ≡ of_kind (cond x (Ok Arrival) (cond y (Ok Step) (cond z (Ok Cut) (Err (record { 0 = k }))))) a t
    case true y z = refl
    case false true z = refl
    case false false true = refl
    case false false false = refl

module _ (image s : List ℕ) (at : ℕ) where
  pub event-at : event_ok image (drop at s) ≡ of_kind (event_kind (get_or s at 0)) (arrival_ok image (drop at s)) (turn_ok (drop at s))
  unfolding event_ok
  event-at =
      rw (get_or-drop at s 0 0, add-zero, turn-kinds (get_or s at 0))
      (by_kind (get_or s at 0) (arrival_ok image (drop at s)) (turn_ok (drop at s)))

  -- the same where the kind is known
  pub event-of : (r : Result EventKind UnknownKind) → r ≡ event_kind (get_or s at 0)
      → of_kind r (arrival_ok image (drop at s)) (turn_ok (drop at s)) ≡ event_ok image (drop at s)
  event-of r e = rw e (sym event-at)

  -- at a place that is a whole number of events from the first
  pub event-here : at % event_size ≡ 0 → event_ok image (drop at s) ≡ event_at_ok image s (at / event_size)
  unfolding event_at_ok
  event-here h =
      let e : event_size * (at / event_size) ≡ at = omega arith in
      rw e
