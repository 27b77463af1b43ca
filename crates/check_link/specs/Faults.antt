-- The refusals of two images as the code goes through them.
use Rattle.std.specs.Prelude.{◌≡◌, List, [], ◌∷◌, ℕ}
use Rattle.rules.specs.Check.{first_refusal, images_faults}
use Rattle.check_refusal.specs.FirstOf.{joined}
use Rattle.check_refusal.specs.Refusals.{refusing}

-- 1 to 4 of both images and the table, and then others
pub images_first : (first second table more : List ℕ)
    → first_refusal (images_faults first second table more) ≡ first_refusal (first_refusal (images_faults first second table []) ∷ more)
images_first first second table more = joined (images_faults first second table []) more

pub ruleset link_refusing = (refusing, images_first)
