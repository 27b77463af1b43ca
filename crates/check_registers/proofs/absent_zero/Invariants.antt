use mathlib.Core.Path.{sym}
use native.Mathlib.Omega.{arith}
use Prim.Native.Nat.{◌-◌}
use mathlib.Core.Bool.{true, ◌||◌}
use lib.Dec.{eqb}
use lib.ListN.{drop}
use Rattle.rules.specs.Sizes.{register_count}
use Rattle.rules.specs.WellFormed.{absent_zero}
use Rattle.bytes_fields.specs.Pieces.{Tested, tested-none, tested-next, tested-all}
use Rattle.check_registers.specs.Registers.{absent-at}
use Rattle.check_registers.proofs.absent_zero.Given as goal

abbrev pub invariant-loop-r : goal.invariant-loop-r
invariant-loop-r l = Tested true (absent_zero (drop l.at l.s)) register_count l.r l.ok
