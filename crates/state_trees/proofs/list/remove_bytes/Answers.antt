use mathlib.Core.Path.{◌≡◌, refl}
use Prim.Native.Nat.{◌+◌}
use native.Mathlib.Omega.{arith}
use lib.ListN.{length-set}
use Rattle.bytes_fields.specs.Put.{put, put_then, gap_step, length_part}
use Rattle.rules.specs.Bytes.{part}
use Rattle.state_trees.proofs.list.remove_bytes.Goals as goal

pub loop-k-init : goal.loop-k-init
unfolding put part
loop-k-init c = (omega arith, refl, refl)

pub loop-k-preserved : goal.loop-k-preserved
loop-k-preserved c = (omega arith, simp length-set (omega arith), gap_step _ _ _ _ (omega arith) c.loop-k.invariant.2)

pub returns : goal.returns
returns c =
    let l = c.loop-k in
    let a = c.args in
    let e : l.k ≡ a.more = omega arith in
    put_then _ _ _ _ _ (rw e at l.invariant.2) c.clear.ensures
    (rw (length_part a.s.now (a.at + a.n) a.more c.requires))
