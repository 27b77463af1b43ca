use mathlib.Core.Path.{◌≡◌}
use Prim.Native.Nat.{◌≤◌, ◌+◌}
use lib.ListN.{length}
use Rattle.bytes_fields.specs.Put.{put}
use Rattle.rules.specs.Bytes.{part}
use Rattle.state_trees.proofs.list.remove_bytes.Given as goal

abbrev pub invariant-loop-k : goal.invariant-loop-k
invariant-loop-k l = (l.k ≤ l.more) × (length l.s ≡ length l.initial.s) × (l.s ≡ put l.initial.s l.at (part l.initial.s (l.at + l.n) l.k))
