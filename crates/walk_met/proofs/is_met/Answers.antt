use Rattle.std.proofs.Common.{◌∙◌}
use Rattle.walk_met.specs.Met.{among-any}
use Rattle.walk_met.proofs.is_met.Goals as goal

pub returns : goal.returns
returns c = c.contains.ensures.value ∙ rw c.thread_number.ensures (among-any c.args.t.0 c.args.met.now)
