use Rattle.std.proofs.Common.{◌-◌, sym, refl, arith, ne_eqb, le-leb}
use borrow.Author.Tests.{lt-leb}
use Rattle.check_operands.proofs.runs.over.Goals as goal

pub returns-then-bound-x : goal.returns-then-bound-x
returns-then-bound-x c =
    let a = c.args in
    rw (ne_eqb (a.x - a.bound) 0 (λ z. omega arith), lt-leb a.x a.bound (omega arith)) refl

pub returns-else-bound-x : goal.returns-else-bound-x
returns-else-bound-x c = sym (le-leb c.args.x c.args.bound (omega arith))
