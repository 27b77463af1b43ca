-- The refusals of a Run for its events.
use Rattle.std.specs.Prelude.{◌≡◌, refl, Bool, true, false, cond, List, [], ◌∷◌, ℕ, ◌*◌, ◌/◌, ◌≤◌, ◌<◌, eqb, leb, length, Option, Some}
use Rattle.std.specs.Prelude.{None}
use Rattle.std.proofs.Common.{arith, eqb-true, eq-eqb, ne_eqb, leb-true}
use Rattle.rules.specs.Sizes.{event_count, event_size}
use Rattle.rules.specs.Check.{refusal}
use Rattle.rules.specs.Calls.{events_length_fault, event_fault, answers_length_fault}
use Rattle.lemmas_rules.specs.Faults.{refusal-zero}
use Rattle.lemmas_rules.specs.Logic.{and_both}

-- numbers 7 to 9
abbrev pub events_faults : List ℕ → List ℕ → List ℕ → List ℕ
events_faults image events space = events_length_fault events ∷ event_fault image events ∷ answers_length_fault events space ∷ []

-- the length of events that number 7 lets pass
pub record Counted (s : List ℕ) : Type 0 where
  pub whole : length s ≡ event_size * (length s / event_size)
  pub few : length s / event_size ≤ event_count

pub counted : (s : List ℕ) → events_length_fault s ≡ 0 → Counted s
unfolding events_length_fault
counted s e =
    let k = and_both (eqb (length s) (event_size * (length s / event_size))) (leb (length s / event_size) event_count)
    (refusal-zero _ 7 0 (omega arith) e) in
    record { whole = eqb-true _ _ k.0; few = leb-true _ event_count k.1 }

-- the first index at which something is wrong, if it comes before n
abbrev pub index_before : ℕ → ℕ → Option ℕ
index_before n i = cond (eqb i n) None (Some i)

pub index-found : (n i j : ℕ) → j < n → j ≡ i → Some j ≡ index_before n i
index-found n i j h e =
    let k : eqb i n ≡ false = ne_eqb i n (λ z. omega arith) in
    rw (k, e)

pub index-none : (n i j : ℕ) → n ≡ j → j ≡ i → None ≡ index_before n i
index-none n i j h e =
    let k : eqb i n ≡ true = eq-eqb i n (omega arith) in
    rw k

pub index-is : (n i j : ℕ) → index_before n i ≡ Some j → j ≡ i
index-is n i j e = case (eqb i n) e
  where
    case : (t : Bool) → cond t None (Some i) ≡ Some j → j ≡ i
    case true e = cc
    case false e = cc

-- the refusal for it
module _ (n i number : ℕ) where
  pub fault-found : (j : ℕ) → index_before n i ≡ Some j → refusal false number j ≡ refusal (eqb i n) number i
  fault-found j e = case (eqb i n) e
    where
      case : (t : Bool) → cond t None (Some i) ≡ Some j → refusal false number j ≡ refusal t number i
      case true e = cc
      case false e = let k : i ≡ j = cc in rw k refl

  pub fault-none : index_before n i ≡ None → 0 ≡ refusal (eqb i n) number i
  fault-none e = case (eqb i n) e
    where
      case : (t : Bool) → cond t None (Some i) ≡ None → 0 ≡ refusal t number i
      case true e = refl
      case false e = cc
