use mathlib.Core.Path.{◌≡◌}
use Prim.Native.Nat.{◌+◌, ◌*◌}
use native.Mathlib.Nat.{add-zero}
use native.Mathlib.Omega.{arith}
use lib.Seq.{get_or-drop}
use Rattle.rules.specs.Sizes.{block_count, block_place, entry_place, record_size}
use Rattle.rules.specs.Bytes.{num16}
use Rattle.image_record.specs.Records.{labels-small, record-fits, record-byte}
use Rattle.check_record.specs.Tests.{agrees}
use Rattle.check_record.proofs.outline.label_ok.Goals as goal

pub overflow_mul-v : goal.overflow_mul-v
overflow_mul-v c = omega (arith, labels-small c.args.image.now)

pub overflow_add-v : goal.overflow_add-v
overflow_add-v c = omega (arith, labels-small c.args.image.now)

pub get16-requires : goal.get16-requires
get16-requires c = omega (arith, record-fits c.args.image.now c.args.v c.requires)

pub returns : goal.returns
unfolding agrees num16
returns c =
    let image = c.args.image.now in
    let v = c.args.v in
    let entry : record_size * v + block_place + 1 ≡ record_size * v + entry_place = omega arith in
    rw (
      c.get16.ensures,
      c.join16.ensures,
      get_or-drop (record_size * v + block_place) image 0 0,
      get_or-drop (record_size * v + block_place) image 1 0,
      add-zero,
      entry,
      record-byte image v c.requires block_place block_count (omega arith),
      record-byte image v c.requires entry_place 0 (omega arith),
    )
