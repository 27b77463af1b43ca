use Prim.Native.Nat.{◌≤◌}
use Rattle.check_link.specs.BlockSets.{SetOf, among}
use Rattle.check_link.proofs.block_set.Given as goal

abbrev pub invariant-loop-l : goal.invariant-loop-l
invariant-loop-l v = (v.l ≤ v.n) × SetOf (among v.image v.l) v.set
