use Rattle.check_queues.specs.Passing.{Passing}
use Rattle.check_queues.proofs.queues.trees_good.Given as goal

abbrev pub invariant-loop-i : goal.invariant-loop-i
invariant-loop-i l = Passing l.image l.table l.state l.count l.unmet l.i
