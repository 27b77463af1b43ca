use Rattle.std.proofs.Common.{◌∙◌, arith}
use Rattle.check_operands.proofs.Places.{rest}
use Rattle.check_operands.proofs.runs.none_ok.Goals as goal

pub returns : goal.returns
returns c = c.all_zero.ensures ∙ rest c.args.r.now 0 (omega arith) (omega (arith, c.requires)) (omega arith)
