-- Two sets of rules, of which the second says of label l + d what the first says of label l, for every l below n.
use Rattle.std.specs.Prelude.{◌≡◌, ℕ, ◌+◌, ◌<◌}
use mathlib.Core.List.{List}
use Rattle.rules.specs.Machine.{Job}
use Rattle.rules.specs.Steps.{Effect, Rules}
use Rattle.rules.specs.Link.{shift_job}
use Rattle.theorem_guests.specs.Labels.{shift_effect}

-- the rules R, but for the image
abbrev pub on_image : Rules → (ℕ → ℕ) → (ℕ → Job → List ℕ → ℕ → Effect) → Rules
on_image R block act = record { block = block; thread = R.thread; lock = R.lock; act = act; room = R.room }

-- all that is asked of the two images: of every label below n the block is the same, and what its statement does is the same, shifted
pub record Relabels (d n : ℕ) (R : Rules) (block : ℕ → ℕ) (act : ℕ → Job → List ℕ → ℕ → Effect) : Type 0 where
  pub blocks : (l : ℕ) → l < n → block (l + d) ≡ R.block l
  pub acts : (t : ℕ) (j : Job) (words : List ℕ) (k : ℕ) → j.label < n → act t (shift_job d j) words k ≡ shift_effect d (R.act t j words k)
