use mathlib.Core.Path.{◌≡◌}
use Prim.Native.Nat.{◌≤◌}
use lib.ListN.{length, take, drop}
use Rattle.rules.specs.Sizes.{thread_count, thread_size, threads_place}
use Rattle.rules.specs.Bytes.{chunks}
use Rattle.rules.specs.Encoding.{thread_from}
use Rattle.check_queues.specs.Queues.{flag}
use Rattle.check_queues.proofs.queues.flag_running.Given as goal

abbrev pub invariant-loop-t : goal.invariant-loop-t
invariant-loop-t l = (l.t ≤ thread_count) × (length l.flags ≡ thread_count)
    × (take l.t l.flags ≡ chunks (λ b. flag (thread_from b)) thread_size l.t (drop threads_place l.state))
