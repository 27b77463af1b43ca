use mathlib.Core.Path.{◌∙◌}
use lib.Bits.{bit_and}
use Rattle.bytes_fields.specs.Tests.{or-none}
use Rattle.image_table.proofs.marked_bits.Goals as goal

pub returns : goal.returns
returns c =
    let marks = c.args.marks in
    or-none (bit_and c.get64.result marks) (bit_and c.get64-2.result marks)
    ∙ rw (c.get64.ensures, c.get64-2.ensures)
