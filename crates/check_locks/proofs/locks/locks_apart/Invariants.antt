use Rattle.check_locks.specs.Locks.{Scanned}
use Rattle.check_locks.proofs.locks.locks_apart.Given as goal

abbrev pub invariant-loop-t : goal.invariant-loop-t
invariant-loop-t l = Scanned l.state l.taken l.ok l.t
