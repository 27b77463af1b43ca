use Rattle.std.proofs.Common.{◌≡◌, ◌+◌, ◌-◌, ◌%◌, refl, arith}
use Rattle.check_operands.specs.Operands.{byte_ok}
use Rattle.check_operands.proofs.runs.wrong_byte.Goals as goal

pub returns-then-used : goal.returns-then-used
unfolding byte_ok
returns-then-used c =
    let a = c.args in
    let y = c.wrapping_sub_u8 in
    let e : (a.x + (256 - a.least)) % 256 ≡ y.result = omega (arith, y.ensures) in
    rw (c.if-used.true, e) c.over-amiss.ensures

pub returns-else-used : goal.returns-else-used
unfolding byte_ok
returns-else-used c = rw c.if-used.false refl
