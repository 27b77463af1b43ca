-- The refusals of a call on a machine.
use Rattle.std.specs.Prelude.{◌≡◌, List, [], ◌∷◌, ℕ, length, eqb}
use Rattle.std.proofs.Common.{arith, eqb-true}
use Rattle.rules.specs.Sizes.{state_size}
use Rattle.rules.specs.Check.{first_refusal, image_faults}
use Rattle.rules.specs.Calls.{state_length_fault, state_fault}
use Rattle.lemmas_rules.specs.Faults.{refusal-zero}
use Rattle.check_refusal.specs.FirstOf.{joined}
use Rattle.check_refusal.specs.Refusals.{refusing}
use Rattle.check_image.specs.Faults.{image_first}

-- numbers 1 to 6
abbrev pub machine_faults : List ℕ → List ℕ → List ℕ → List ℕ
machine_faults image table state = image_faults image table (state_length_fault state ∷ state_fault image table state ∷ [])

-- those, and then others
pub machine_first : (image table state more : List ℕ)
    → first_refusal (image_faults image table (state_length_fault state ∷ state_fault image table state ∷ more))
    ≡ first_refusal (first_refusal (machine_faults image table state) ∷ more)
machine_first image table state more = joined (machine_faults image table state) more

-- what a call on a machine goes through
pub ruleset machine_refusing = (refusing, image_first, machine_first)

pub state-length : (state : List ℕ) → state_length_fault state ≡ 0 → length state ≡ state_size
unfolding state_length_fault
state-length state e = eqb-true (length state) state_size (refusal-zero (eqb (length state) state_size) 5 0 (omega arith) e)
