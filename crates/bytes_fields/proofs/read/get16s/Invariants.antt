use mathlib.Core.Path.{◌≡◌}
use Prim.Native.Nat.{◌≤◌}
use lib.ListN.{length, take, drop}
use Rattle.rules.specs.Bytes.{num16, chunks}
use Rattle.bytes_fields.proofs.read.get16s.Given as goal

abbrev pub invariant-loop-k : goal.invariant-loop-k
invariant-loop-k l = (l.k ≤ length l.out) × (length l.out ≡ length l.initial.out) × (take l.k l.out ≡ chunks num16 2 l.k (drop l.at l.s))
