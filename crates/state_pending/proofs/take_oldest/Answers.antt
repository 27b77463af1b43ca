use native.Mathlib.Omega.{arith}
use mathlib.Core.Path.{refl, ◌∙◌}
use Rattle.state_pending.specs.Stored.{pending-byte, pending-few, oldest-taken}
use Rattle.state_pending.proofs.take_oldest.Goals as goal

pub overflow_sub-k : goal.overflow_sub-k
overflow_sub-k c = omega (arith, pending-byte c.requires.0 _ c.requires.1 _ refl)

pub remove-requires : goal.remove-requires
remove-requires c =
    let p = c.requires in
    omega (arith, pending-byte p.0 _ p.1 _ refl, pending-few p.0 _ p.1 _ refl)

pub overflow_sub-k-2 : goal.overflow_sub-k-2
overflow_sub-k-2 c = omega (arith, pending-byte c.requires.0 _ c.requires.1 _ refl)

pub returns : goal.returns
returns c =
    let p = c.requires in
    let r = oldest-taken p.0 _ p.1 _ _ (c.get8-k.ensures.0 ∙ pending-byte p.0 _ p.1 _ refl) p.2 refl c.remove.ensures c.put8.ensures in
    record { canon = r.0; by_index = r.1 }
