use mathlib.Core.Path.{◌≡◌}
use mathlib.Core.Bool.{true, false, not}
use native.Mathlib.Omega.{arith}
use borrow.Author.Rules.{rules}
use borrow.Author.Tests.{ne_eqb}
use lib.Dec.{eqb}
use Rattle.std.proofs.Common.{length-append}
use Rattle.state_thread.specs.Same.{returns-counted}
use Rattle.step_send_call.proofs.entered.Goals as goal

pub call-requires : goal.call-requires
call-requires g c =
    let k = c.requires.0 in
    let call : not (eqb g.row.CALL 0) ≡ true = rw (ne_eqb g.row.CALL 0 c.if-this-ne0.true) in
    let room = simp length-append at (rw call at c.requires.1) in
    rw (c.label_a-to.ensures, c.operand_count.ensures)
    (k.thread, omega (arith, room, returns-counted _ k.thread.tidy), k.label, k.few, k.zeros)

pub enter-requires : goal.enter-requires
enter-requires g c =
    let k = c.requires.0 in
    rw (c.label_a-to.ensures, c.operand_count-2.ensures) (k.thread.tidy, k.label, k.few, k.zeros)

pub returns-then-this-ne0 : goal.returns-then-this-ne0
returns-then-this-ne0 g c =
    let call : not (eqb g.row.CALL 0) ≡ true = rw (ne_eqb g.row.CALL 0 c.if-this-ne0.true) in
    rw call (simp (c.label_a-to.ensures, c.label_b-back.ensures, c.operand_count.ensures) at c.call.ensures)

pub returns : goal.returns
returns g c =
    let send : not (eqb g.row.CALL 0) ≡ false = rw c.if-this-ne0.false in
    rw send (rw (c.label_a-to.ensures, c.operand_count-2.ensures) at c.enter.ensures)
