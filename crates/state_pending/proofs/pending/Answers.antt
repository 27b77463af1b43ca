use mathlib.Core.Path.{refl, ◌∙◌}
use Rattle.state_pending.specs.Stored.{pending-byte}
use Rattle.state_pending.proofs.pending.Goals as goal

pub returns : goal.returns
returns c = c.get8.ensures.0 ∙ pending-byte c.requires.0 _ c.requires.1 _ refl
