use native.Mathlib.Omega.{arith}
use Rattle.std.proofs.Common.{◌≡◌, ℕ, ◌+◌, ◌*◌, ◌-◌, ◌<◌, List, length, take, drop, refl}
use Rattle.rules.specs.Sizes.{record_size}
use Rattle.rules.specs.Image.{labels, record_at}
use Rattle.image_record.specs.Records.{record-fits, record-taken, length-record}
use Rattle.image_record.proofs.records.record_of.Goals as goal

pub slice_bounds-result-end : goal.slice_bounds-result-end
slice_bounds-result-end c = omega (arith, c.place_of-from.ensures, record-fits c.args.image.now c.args.at.0 c.requires)

-- what is taken from a place is the record, if the place is the record's
taken : (n : ℕ) (s : List ℕ) (l : ℕ) → l < labels s → n ≡ record_size * l
    → (take (n + record_size - n) (drop n s) ≡ record_at s l)
    × (length (take (n + record_size - n) (drop n s)) ≡ record_size)
taken n s l h e = rw (e, record-taken s l h) (refl, length-record s l h)

pub returns : goal.returns
returns c = taken _ c.args.image.now c.args.at.0 c.requires (omega (arith, c.place_of-from.ensures))
