use native.Mathlib.Omega.{arith}
use Rattle.rules.specs.declared.statement.Statement.TheVariants.{SendTree}
use Rattle.step_contract.specs.At.{registers-here, unread-stepped}
use Rattle.step_send_jobtree.specs.Held.{full-stepped}
use borrow.Author.Rules.{rules}
use Rattle.step_send_jobtree.proofs.send_tree.Goals as goal

-- the registers of the value are those of the record
pub read_data-requires : goal.read_data-requires
read_data-requires c =
    let h = c.requires.0 in
    (h.ready.canonical.long, h.readable, search rules, h.inside, registers-here h)

pub returns-in-Err : goal.returns-in-Err
returns-in-Err c =
    unread-stepped c.requires.0 SendTree c.requires.1 c.in-Err.ensures.gives (rw c.from.ensures at c.trapped.ensures.value)
    c.trapped.ensures.ended

pub returns-then-w-ge-HELD : goal.returns-then-w-ge-HELD
returns-then-w-ge-HELD c =
    full-stepped c.requires.0 c.requires.1 c.read_data.new.values c.in_default.ensures c.if-w-ge-HELD.true
    (rw c.from-then-w-ge-HELD.ensures at c.trapped-then-w-ge-HELD.ensures.value) c.trapped-then-w-ge-HELD.ensures.ended

pub hold_for_tree-requires : goal.hold_for_tree-requires
hold_for_tree-requires c =
    (c.requires.0, c.requires.1, c.in_default.ensures, omega (arith, c.if-w-ge-HELD.false))
