use mathlib.Core.Path.{◌≡◌, refl, sym, ap, ◌∙◌}
use Prim.Native.Nat.{◌*◌}
use native.Mathlib.Omega.{arith}
use lib.ListN.{length, drop, length-set}
use lib.Seq.{take_all, drop-drop}
use Rattle.rules.specs.Bytes.{num16, chunks}
use Rattle.bytes_fields.specs.Blocks.{fill_step}
use Rattle.bytes_fields.proofs.read.get16s.Goals as goal

pub loop-k-init : goal.loop-k-init
unfolding chunks
loop-k-init c = (omega arith, refl, refl)

pub loop-k-preserved : goal.loop-k-preserved
loop-k-preserved c =
    let a = c.args in
    let l = c.loop-k in (
      simp length-set (omega arith),
      simp length-set (omega arith),
      fill_step num16 2 l.out l.k c.get16.result
          (drop a.at a.s.now) (omega (arith, l.invariant.1, c.loop-k-test.true)) l.invariant.2 (c.get16.ensures
          ∙ ap num16 (sym (drop-drop (2 * l.k) a.at a.s.now))),
    )

pub shape_of-out : goal.shape_of-out
shape_of-out c = c.loop-k.invariant.1

pub returns : goal.returns
returns c =
    let l = c.loop-k in
    let e : l.k ≡ length c.args.out.now = omega arith in
    sym (take_all l.k l.out (omega (arith, l.invariant.1, c.loop-k-test.false))) ∙ l.invariant.2 ∙ rw e
