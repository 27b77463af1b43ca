use Rattle.std.proofs.Common.{◌∙◌}
use Rattle.rules.specs.Calls.{check_return}
use Rattle.plex.proofs.plex_check.Goals as goal

pub returns-in-Ok : goal.returns-in-Ok
unfolding check_return
returns-in-Ok c = c.in-Ok.ensures

pub returns-in-Err : goal.returns-in-Err
unfolding check_return
returns-in-Err c = c.into.ensures ∙ c.in-Err.ensures
