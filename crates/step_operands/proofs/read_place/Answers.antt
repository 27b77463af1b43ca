use borrow.Author.Rules.{rules}
use Rattle.rules.specs.Statements.{operand_at}
use Rattle.step_operands.proofs.read_place.Goals as goal

pub read_kind-requires : goal.read_kind-requires
unfolding operand_at
read_kind-requires c =
    let p = c.requires in
    (p.0, p.1, rw (c.value_at.ensures, c.kind_at.ensures) p.4, p.5)

pub returns : goal.returns
unfolding operand_at
returns c = rw (← c.value_at.ensures, ← c.kind_at.ensures) c.read_kind.ensures
