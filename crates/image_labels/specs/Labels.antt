-- Which of its labels a statement uses, as the code has it.
use Rattle.rules.specs.Statements.{role_a, role_b}
use Rattle.rules.specs.Link.{used}
use Rattle.rules.specs.declared.statement.Statement.{Statement}
use Rattle.image_labels.specs.declared.LabelUse.{LabelUse}

abbrev pub uses_of : Statement → LabelUse
uses_of s = record { a = used (role_a s); b = used (role_b s) }
