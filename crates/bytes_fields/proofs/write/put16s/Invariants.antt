use mathlib.Core.Path.{◌≡◌}
use Prim.Native.Nat.{◌≤◌}
use lib.ListN.{length, take}
use Rattle.bytes_fields.specs.Put.{put}
use Rattle.rules.specs.Bytes.{le16, blocks}
use Rattle.bytes_fields.proofs.write.put16s.Given as goal

abbrev pub invariant-loop-k : goal.invariant-loop-k
invariant-loop-k l = (l.k ≤ length l.vs) × (length l.s ≡ length l.initial.s) × (l.s ≡ put l.initial.s l.at (blocks le16 (take l.k l.vs)))
