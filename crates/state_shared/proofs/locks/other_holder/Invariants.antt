use Rattle.rules.specs.Sizes.{thread_count}
use Rattle.bytes_fields.specs.Tests.{Searching}
use Rattle.state_shared.specs.Locks.{passes}
use Rattle.state_shared.proofs.locks.other_holder.Given as goal

abbrev pub invariant-loop-i : goal.invariant-loop-i
invariant-loop-i l = Searching (passes l.state l.lock.0 l.t.0) thread_count l.i
