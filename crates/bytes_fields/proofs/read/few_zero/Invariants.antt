use Rattle.bytes_fields.specs.Tests.{Gathered}
use Rattle.bytes_fields.proofs.read.few_zero.Given as goal

abbrev pub invariant-loop-b : goal.invariant-loop-b
invariant-loop-b l = Gathered l.s l.at l.n l.set l.b-index
