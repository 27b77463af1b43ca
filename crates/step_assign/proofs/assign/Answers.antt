use mathlib.Core.Path.{sym}
use Rattle.step_operands.specs.Statements.{assigns}
use Rattle.step_contract.specs.At.{registers-here}
use Rattle.step_store.specs.Operands.{legal}
use Rattle.step_assign.specs.Assigned.{unworked, assigned-stepped}
use borrow.Author.Rules.{rules}
use Rattle.step_assign.proofs.assign.Goals as goal

pub results_of-requires : goal.results_of-requires
results_of-requires c =
    let s = c in
    let h = s.requires.0 in
    let fits = legal h s.args.a s.requires.1 in
    let placed = (assigns h.parts s.args.a s.requires.1).1 in
    (h.ready.canonical.long, h.readable, fits.left, fits.right, h.inside, registers-here h, placed)

pub returns-in-Err : goal.returns-in-Err
returns-in-Err c =
    unworked c.requires.0 c.args.a c.requires.1 (sym c.in-Err.ensures) (rw c.from.ensures at c.trapped.ensures.value)
    c.trapped.ensures.ended

pub returns : goal.returns
returns c =
    assigned-stepped c.requires.0 c.args.a c.requires.1 c.in-Ok.results.first c.in-Ok.results.second (sym c.in-Ok.ensures)
    c.store_results.ensures
