-- A guest's image as a part of a linked image: where it stands, its records are its own with their labels shifted.
use Rattle.std.specs.Prelude.{ℕ, ◌+◌, ◌≤◌, ◌<◌}
use mathlib.Core.List.{List}
use Rattle.rules.specs.Sizes.{record_count}
use Rattle.rules.specs.Image.{labels, record_at}
use Rattle.rules.specs.Link.{linked}
use Rattle.theorem_guests.specs.Shifted.{Shifted}

-- the image G stands in L, d labels in
pub record Part (d : ℕ) (G L : List ℕ) : Type 0 where
  pub inside : labels G + d ≤ labels L
  pub at : (l : ℕ) → l < labels G → Shifted d (record_at G l) (record_at L (l + d))

-- ---- two images, one behind the other

-- neither has a bad length, and together they have not too many records
pub record Fits (first second : List ℕ) : Type 0 where
  pub some_first : 0 < labels first
  pub some_second : 0 < labels second
  pub few : labels first + labels second ≤ record_count

-- both stand in the linked image: the first with its labels as they are, the second with its labels shifted by the first's record count
pub record BothParts (first second : List ℕ) : Type 0 where
  pub first_part : Part 0 first (linked first second)
  pub second-part : Part (labels first) second (linked first second)
