use mathlib.Core.Path.{◌≡◌, sym, ap, ◌∙◌}
use Prim.Native.Nat.{ℕ, ◌<◌}
use native.Mathlib.Omega.{arith}
use Rattle.rules.specs.Sizes.{block_count, block_place}
use Rattle.rules.specs.Sorts.{block}
use Rattle.rules.specs.Image.{labels, record_at, block_field}
use Rattle.image_record.specs.Records.{labels-small, record-fits, record-byte}
use Rattle.check_link.specs.BlockSets.{none-among, one_more, all_among}
use Rattle.check_link.proofs.block_set.Goals as goal
use Rattle.check_link.proofs.block_set.Goals.{After-from}

pub loop-l-init : goal.loop-l-init
loop-l-init c = (omega arith, none-among _)

pub overflow_mul-l : goal.overflow_mul-l
overflow_mul-l c = omega (arith, labels-small c.args.image.now)

pub overflow_add-l : goal.overflow_add-l
overflow_add-l c = omega (arith, labels-small c.args.image.now)

pub bounds-image-l : goal.bounds-image-l
bounds-image-l c =
    omega (arith, record-fits c.args.image.now c.loop-l.l (omega arith))

-- what is read is the block of record l
own : (c : After-from) →
    let image = c.args.image.now in
    let l = c.loop-l.l in
    (l < labels image) × (c.from.result ≡ block (block_field (record_at image l)))
own c =
    let image = c.args.image.now in
    let l = c.loop-l.l in
    let h : l < labels image = omega arith in
    (h, c.from.ensures ∙ ap (λ (n : ℕ). block n) (sym (record-byte image l h block_place block_count (omega arith))))

pub with_block-set-requires : goal.with_block-set-requires
with_block-set-requires c =
    let o = own (goal.at.with_block-set-requires c).After-from in
    rw o.1 (c.requires.1 c.loop-l.l o.0)

pub loop-l-preserved : goal.loop-l-preserved
loop-l-preserved c =
    let image = c.args.image.now in
    let l = c.loop-l in (
      omega arith,
      rw (c.with_block-set.ensures, (own (goal.at.loop-l-preserved c).After-from).1)
          (one_more image l.l l.set l.invariant.1),
    )

pub returns : goal.returns
returns c =
    all_among c.args.image.now c.loop-l.l c.loop-l.set (omega arith) c.loop-l.invariant.1
