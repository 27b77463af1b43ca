use native.Mathlib.Omega.{arith}
use Rattle.rules.specs.Link.{shift_record}
use Rattle.image_link.specs.Stores.{labels-stored}
use Rattle.image_link.proofs.shift_record.Goals as goal

pub shifted-a-requires : goal.shifted-a-requires
shifted-a-requires c = rw c.label_a.ensures c.requires.3

pub shifted-b-requires : goal.shifted-b-requires
shifted-b-requires c = rw c.label_b.ensures c.requires.4

pub returns : goal.returns
unfolding shift_record
returns c =
    rw (
      c.put16-2.ensures,
      c.put16.ensures,
      c.label_number.ensures,
      c.label_number-2.ensures,
      c.shifted-a.ensures,
      c.shifted-b.ensures,
      c.label_a.ensures,
      c.label_b.ensures,
      c.uses_of-uses.ensures,
    )
    (labels-stored c.args.r.now c.requires.1 _ _ c.args.out.now c.args.at _ _ c.requires.0 c.requires.2
    (omega arith) (omega arith))
