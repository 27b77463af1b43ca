use mathlib.Core.Path.{sym}
use native.Mathlib.Omega.{arith}
use Prim.Native.Nat.{◌-◌}
use mathlib.Core.Bool.{true, ◌||◌}
use lib.Dec.{eqb}
use lib.ListN.{drop}
use Rattle.rules.specs.Sizes.{register_count}
use Rattle.rules.specs.WellFormed.{absent_zero}
use Rattle.bytes_fields.specs.Pieces.{Tested, tested-none, tested-next, tested-all}
use Rattle.check_registers.specs.Registers.{absent-at}
use Rattle.check_registers.proofs.absent_zero.Goals as goal

pub loop-r-init : goal.loop-r-init
loop-r-init c = let a = c.args in tested-none true (absent_zero (drop a.at a.s.now)) register_count

pub loop-r-preserved : goal.loop-r-preserved
loop-r-preserved c =
    let a = c.args in
    let l = c.loop-r in
    let here = c.has.result || eqb c.get16.result 0 in
    tested-next true (absent_zero (drop a.at a.s.now)) register_count l.r l.ok l.invariant here
    c.loop-r-test.true
    (simp (c.get16.ensures, c.has.ensures, c.get32-set.ensures)
    (sym (absent-at a.s.now a.at l.r)))

pub returns : goal.returns
returns c =
    let a = c.args in
    let l = c.loop-r in
    tested-all true (absent_zero (drop a.at a.s.now)) register_count l.r l.ok l.invariant c.loop-r-test.false
