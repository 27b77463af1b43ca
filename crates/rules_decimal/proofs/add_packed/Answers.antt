use Rattle.rules_decimal.proofs.FourDigits.{four-carries, four-added}
use Rattle.rules_decimal.proofs.add_packed.Goals as goal

pub overflow_sub-result : goal.overflow_sub-result
overflow_sub-result c = four-carries c.args.x c.args.y

pub returns : goal.returns
returns c = four-added c.args.x c.args.y c.requires.0 c.requires.1
