use Prim.Native.Nat.{◌-◌}
use Rattle.rules.specs.Sizes.{thread_count}
use Rattle.walk_threads.proofs.+walk_on.Given as goal

-- the walk meets no thread twice, so it ends when all have been met
abbrev pub decreases-walk_on : goal.decreases-walk_on
decreases-walk_on l = thread_count - l.n
