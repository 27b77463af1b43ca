use native.Mathlib.Omega.{arith}
use Rattle.rules_decimal.proofs.FourDigits.{four-unpacked}
use Rattle.rules_decimal.proofs.unpack_number.Goals as goal

pub returns : goal.returns
returns c = four-unpacked c.args.x (omega arith)
