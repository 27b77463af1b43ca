use mathlib.Core.Path.{sym}
use borrow.Author.Rules.{rules}
use Rattle.check_registers.specs.Registers.{running-many, running-few}
use Rattle.check_registers.proofs.running_tidy.Goals as goal

pub returns-then-n-gt-RETURNS : goal.returns-then-n-gt-RETURNS
returns-then-n-gt-RETURNS c =
    let a = c.args in
    let n = c.get8-n in
    sym (running-many a.s.now a.at n.result n.ensures.0 c.if-n-gt-RETURNS.true)

pub returns : goal.returns
returns c =
    let a = c.args in
    let n = c.get8-n in
    simp (c.absent_zero.ensures, c.get32.ensures, c.all_zero-unused.ensures)
    (sym (running-few a.s.now a.at n.result n.ensures.0 c.if-n-gt-RETURNS.false))
