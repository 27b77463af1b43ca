-- The one law that the one-by-one reading asks of the rules: a job that goes on needs no block that it did not need before, but for the
-- one whose lock it asks for.
use Rattle.std.specs.Prelude.{◌≡◌, ◌⊎◌, ℕ}
use Rattle.std.proofs.Math.Option.{some}
use mathlib.Core.List.{List, ◌∷◌, map, Memᴰ}
use Rattle.rules.specs.Machine.{Job}
use Rattle.rules.specs.Steps.{Rules, Effect, traps, exits, moves}

-- the blocks of a job's label and of its return labels
abbrev pub Needs : Rules → Job → ℕ → Type 0
Needs R j b = Memᴰ b (map R.block (j.label ∷ j.returns))

abbrev pub Stays : Rules → Job → Effect → Type 0
Stays R j (traps r) = Unit {0}
Stays R j exits = Unit {0}
Stays R j (moves k words g want) = (b : ℕ) → Needs R k b → Needs R j b ⊎ (want ≡ some b)

pub record Laws (R : Rules) : Type 0 where
  pub stays : (t : ℕ) (j : Job) (words : List ℕ) (n : ℕ) → Stays R j (R.act t j words n)
