-- The labels that the CALLs of a path have as their label B.
use Rattle.std.specs.Prelude.{◌≡◌, ℕ}
use mathlib.Core.List.{List, Memᴰ}
use Rattle.rules.specs.Image.{record_at, label_b}
use Rattle.rules.specs.Statements.{calling}
use Rattle.theorem_safety.specs.Paths.{way_at}

-- a label that a CALL of this path has as its label B (CALL is the statement whose way is `calling`)
pub record CalledFrom (image path : List ℕ) (l : ℕ) : Type 0 where
  pub call : ℕ
  pub made : Memᴰ call path
  pub calls : way_at image call ≡ calling
  pub label : l ≡ label_b (record_at image call)
