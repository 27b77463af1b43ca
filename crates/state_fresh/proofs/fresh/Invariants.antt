use mathlib.Core.Path.{◌≡◌}
use Prim.Native.Nat.{◌-◌}
use lib.ListN.{length}
use Rattle.rules.specs.Sizes.{words_size, state_size}
use Rattle.state_fresh.specs.Fresh.{Begun}
use Rattle.state_fresh.proofs.fresh.Given as goal

abbrev pub invariant-loop-t : goal.invariant-loop-t
invariant-loop-t l = (length l.state ≡ state_size) × Begun l.words (state_size - words_size) l.t l.state
