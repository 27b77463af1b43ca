-- The link of two images that is not refused, and a label of a part's records as one of the whole.
use Rattle.std.specs.Prelude.{◌≡◌, false, List, ℕ, ◌+◌, ◌≤◌, ◌<◌}
use Rattle.std.proofs.Common.{sym, ◌∙◌, arith}
use Rattle.std.proofs.Math.Dec.{ltb}
use borrow.Author.Tests.{lt-ltb}
use Rattle.rules.specs.Sizes.{record_count}
use Rattle.rules.specs.Image.{labels}
use Rattle.rules.specs.Check.{Checked}
use Rattle.rules.specs.Calls.{link_out}
use Rattle.rules.specs.Link.{linked, share_block}
use Rattle.theorem_guests.specs.Parts.{Part}

-- what is known of two images, a block table and an output whose link is not refused
pub record LinkAccepted (first second table out : List ℕ) : Type 0 where
  pub checked_first : Checked first table
  pub checked_second : Checked second table
  pub apart : share_block first second ≡ false
  pub few : labels first + labels second ≤ record_count
  pub result : link_out first second table out ≡ linked first second

-- a label of a part's records is, shifted, a label of the whole
module _ (d : ℕ) (G L : List ℕ) (part : Part d G L) where
  pub same-below : (v : ℕ) → v < labels G → ltb (v + d) (labels L) ≡ ltb v (labels G)
  same-below v k = lt-ltb (v + d) (labels L) (omega (arith, part.inside)) ∙ sym (lt-ltb v (labels G) k)
