use mathlib.Core.Bool.{true}
use Rattle.rules.specs.Sizes.{thread_count}
use Rattle.bytes_fields.specs.Pieces.{Tested}
use Rattle.check_threads.specs.Places.{thread_at_good}
use Rattle.check_threads.proofs.threads_good.Given as goal

abbrev pub invariant-loop-t : goal.invariant-loop-t
invariant-loop-t l = Tested true (thread_at_good l.image l.table l.state) thread_count l.t l.ok
