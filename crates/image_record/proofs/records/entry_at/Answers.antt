use native.Mathlib.Omega.{arith}
use Rattle.rules.specs.Sizes.{entry_place}
use Rattle.image_record.specs.Records.{record-fits, record-byte}
use Rattle.image_record.proofs.records.entry_at.Goals as goal

pub bounds-image-place_of : goal.bounds-image-place_of
bounds-image-place_of c = omega (arith, record-fits c.args.image.now c.args.at.0 c.requires)

pub returns : goal.returns
returns c =
    let a = c.args in
    simp (c.place_of.ensures, record-byte a.image.now a.at.0 c.requires entry_place 0 (omega arith))
