use native.Mathlib.Omega.{arith}
use Rattle.rules_decimal.proofs.FourDigits.{none-above-nine}
use Rattle.rules_decimal.proofs.is_packed.Goals as goal

pub returns : goal.returns
returns c = none-above-nine c.args.x (omega arith)
