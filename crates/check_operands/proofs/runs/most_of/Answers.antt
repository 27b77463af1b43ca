use Rattle.std.proofs.Common.{ne_eqb}
use Rattle.check_operands.proofs.runs.most_of.Goals as goal

pub returns-then-kind-eq-NUMBER_OPERAND : goal.returns-then-kind-eq-NUMBER_OPERAND
returns-then-kind-eq-NUMBER_OPERAND c = rw c.if-kind-eq-NUMBER_OPERAND.true

pub returns-else-kind-eq-NUMBER_OPERAND : goal.returns-else-kind-eq-NUMBER_OPERAND
returns-else-kind-eq-NUMBER_OPERAND c = rw (ne_eqb _ 1 c.if-kind-eq-NUMBER_OPERAND.false)
