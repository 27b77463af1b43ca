use mathlib.Core.Path.{refl, ap}
use Rattle.rules.specs.Steps.{begin}
use Rattle.state_thread.specs.Threads.{runs_as}
use Rattle.step_start.proofs.started.Goals as goal

pub take-requires : goal.take-requires
take-requires c =
    let pre = c.requires in
    let g = c.oldest-g.ensures in
    (pre.rests, rw (← g.0) at pre.label, g.1.few, g.1.zeros)

pub returns : goal.returns
returns c = runs_as c.take.ensures refl (ap begin c.oldest-g.ensures.0)
