use mathlib.Core.Path.{refl, ◌∙◌}
use Prim.Native.Nat.{◌<◌}
use native.Mathlib.Omega.{arith}
use lib.ListN.{length}
use lib.Seq.{take_all, length-take-le}
use Rattle.bytes_fields.specs.Put.{put, put_then}
use Rattle.rules.specs.Bytes.{le16, blocks}
use Rattle.bytes_fields.specs.Blocks.{blocks-take, length-blocks}
use Rattle.bytes_fields.proofs.write.put16s.Goals as goal

pub loop-k-init : goal.loop-k-init
unfolding put blocks
loop-k-init c = (omega arith, refl, refl)

pub loop-k-preserved : goal.loop-k-preserved
loop-k-preserved c =
    let a = c.args in
    let l = c.loop-k in
    let h : l.k < length a.vs.now = omega arith in (
      omega arith,
      omega arith,
      rw (blocks-take le16 a.vs.now l.k 0 h)
          (put_then _ _ _ _ _ l.invariant.2 c.put16.ensures
          (simp (length-blocks le16 2 (λ x. refl), length-take-le l.k a.vs.now l.invariant.0))),
    )

pub shape_of-s : goal.shape_of-s
shape_of-s c = c.loop-k.invariant.1

pub returns : goal.returns
returns c =
    let l = c.loop-k in
    l.invariant.2 ∙ rw (take_all l.k _ c.loop-k-test.false)
