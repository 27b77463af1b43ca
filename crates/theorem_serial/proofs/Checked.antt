-- Demand 3 of a checked image and its block table.
use Rattle.std.specs.Prelude.{List, ℕ}
use Rattle.rules.specs.Check.{Checked}
use Rattle.rules.specs.Events.{Event}
use Rattle.rules.specs.Steps.{rules_by}
use Rattle.lemmas_invariant.proofs.CheckedRules.{checked-laws}
use Rattle.theorem_serial.specs.Reading.{OneByOne, AllValid}
use Rattle.theorem_serial.proofs.Reading.{one_by_one}

module _ (image table : List ℕ) where
  -- DEMAND 3 over the rules that a checked image and its block table make
  pub checked-one-by-one : Checked image table → (words : List ℕ) (l : List Event) → AllValid l → OneByOne (rules_by image table) words l
  checked-one-by-one checked = one_by_one (rules_by image table) (checked-laws image table checked)
