use Rattle.std.specs.Prelude.{◌≡◌, refl}
use Rattle.std.proofs.Common.{◌∙◌, arith}
use Rattle.rules.specs.Bytes.{part}
use Rattle.bytes_fields.specs.Put.{put, set_then, length_part, part-suc}
use Rattle.bytes_fields.proofs.write.copy.Goals as goal

pub loop-k-init : goal.loop-k-init
unfolding put part
loop-k-init c = refl

pub loop-k-preserved : goal.loop-k-preserved
loop-k-preserved c =
    let a = c.args in
    let l = c.loop-k in
    let f = a.from.now in
    set_then _ _ (part f a.start l.k) _ _ l.invariant (rw (length_part f a.start l.k (omega arith)))
    ∙ rw (part-suc f a.start l.k 0 (omega arith))

pub returns : goal.returns
returns c =
    let l = c.loop-k in
    let e : l.k ≡ c.args.n = omega arith in
    l.invariant ∙ rw e
