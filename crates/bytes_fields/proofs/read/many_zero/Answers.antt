use native.Mathlib.Omega.{arith}
use Rattle.bytes_fields.specs.Tests.{many-all}
use Rattle.bytes_fields.proofs.read.many_zero.Goals as goal

pub returns-then-n-lt32 : goal.returns-then-n-lt32
returns-then-n-lt32 c = c.all_zero.ensures

pub returns : goal.returns
returns c =
    let a = c.args in
    rw (c.all_zero-2.ensures, c.all_zero-3.ensures, c.all_zero-4.ensures)
    (many-all a.s.now a.at a.n _ _ _ (omega arith) (omega arith) (omega arith) (omega arith) (omega arith) (omega arith)
    (omega arith))
