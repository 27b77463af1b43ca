use mathlib.Core.Path.{◌∙◌}
use Rattle.lemmas_step.specs.Got.{handed-on}
use Rattle.step_compute.specs.Computes.{values_of}
use Rattle.step_results.proofs.work_out.Goals as goal

pub returns-in_err-pair : goal.returns-in_err-pair
returns-in_err-pair c =
    let e = rw c.in_err-pair.was at c.read_pair.ensures in
    handed-on values_of _ _ c.from_residual.ensures.1 ∙ rw (← e)

pub returns : goal.returns
returns c = let e = rw c.in_ok-pair.was at c.read_pair.ensures in rw (← e) c.computed.ensures
