use native.Mathlib.Omega.{arith}
use Rattle.rules.specs.Sizes.{block_count, block_place}
use Rattle.image_record.specs.Records.{record-fits, record-byte}
use Rattle.image_record.proofs.records.block_at.Goals as goal

pub bounds-image-place_of : goal.bounds-image-place_of
bounds-image-place_of c = omega (arith, record-fits c.args.image.now c.args.at.0 c.requires)

pub returns : goal.returns
returns c =
    let a = c.args in
    simp (
      c.from.ensures,
      c.place_of.ensures,
      record-byte a.image.now a.at.0 c.requires block_place block_count (omega arith),
    )
