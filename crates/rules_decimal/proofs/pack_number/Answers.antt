use native.Mathlib.Omega.{arith}
use Rattle.rules_decimal.proofs.FourDigits.{four-packed}
use Rattle.rules_decimal.proofs.pack_number.Goals as goal

pub returns : goal.returns
returns c = four-packed c.args.x (omega arith)
