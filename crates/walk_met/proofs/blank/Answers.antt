use Rattle.std.proofs.Common.{◌∙◌}
use Rattle.walk_met.proofs.blank.Goals as goal

pub returns : goal.returns
returns c = c.fill.ensures.after (λ y e. e) ∙ rw c.requires
