use borrow.Author.Rules.{rules}
use borrow.Author.Tests.{ne_eqb}
use Rattle.rules.specs.Statements.{operand_of}
use Rattle.step_operands.proofs.read_kind.Goals as goal

pub read_operand-requires-in-2 : goal.read_operand-requires-in-2
unfolding operand_of
read_operand-requires-in-2 c =
    let p = c.requires in
    (p.0, p.1, rw c.in-2.is at p.2, p.3)

pub read_operand-requires-in_default : goal.read_operand-requires-in_default
unfolding operand_of
read_operand-requires-in_default c =
    let p = c.requires in
    (p.0, p.1, simp (ne_eqb _ 1 c.in_default.in_default-own.rest.0.1, ne_eqb _ 2 c.in_default.in_default-own.rest.1) at p.2, p.3)

pub returns-in-1 : goal.returns-in-1
unfolding operand_of
returns-in-1 c = rw c.in-1.is c.read_operand.ensures

pub returns-in-2 : goal.returns-in-2
unfolding operand_of
returns-in-2 c = rw c.in-2.is c.read_operand-in-2.ensures

pub returns-in_default : goal.returns-in_default
unfolding operand_of
returns-in_default c = simp (ne_eqb _ 1 c.in_default.in_default-own.rest.0.1, ne_eqb _ 2 c.in_default.in_default-own.rest.1)
    c.read_operand-in_default.ensures
