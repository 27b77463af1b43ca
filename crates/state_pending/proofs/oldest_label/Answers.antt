use Rattle.rules.specs.Sorts.{label}
use Rattle.state_pending.specs.Stored.{label-read}
use mathlib.Core.Path.{refl, ap, ◌∙◌}
use Rattle.state_pending.proofs.oldest_label.Goals as goal

pub returns : goal.returns
returns c =
    let p = c.requires in
    c.from.ensures ∙ ap label (c.get16.ensures ∙ label-read p.0 _ p.1 _ refl p.2)
