use Rattle.std.proofs.Common.{ne_eqb}
use Rattle.check_operands.proofs.runs.less_of.Goals as goal

pub returns-then-kind-eq-WORD_OPERAND : goal.returns-then-kind-eq-WORD_OPERAND
returns-then-kind-eq-WORD_OPERAND c = rw c.if-kind-eq-WORD_OPERAND.true

pub returns-else-kind-eq-WORD_OPERAND : goal.returns-else-kind-eq-WORD_OPERAND
returns-else-kind-eq-WORD_OPERAND c = rw (ne_eqb _ 3 c.if-kind-eq-WORD_OPERAND.false)
