use native.Mathlib.Omega.{arith}
use Rattle.std.proofs.Common.{◌∙◌, ap}
use Rattle.std.specs.Prelude.{not}
use Rattle.rules.specs.Sizes.{block_count}
use Rattle.bytes_fields.specs.Tests.{next, here, none}
use Rattle.image_table.specs.BadRow.{row-found, no-row}
use Rattle.image_table.proofs.first_bad_row.Goals as goal

pub returns-then-not-row_ok : goal.returns-then-not-row_ok
returns-then-not-row_ok c =
    let first = here _ block_count _ c.loop-b.invariant _ c.loop-b-test.true
    (c.row_ok.ensures ∙ rw c.from-block.ensures) (ap not c.if-not-row_ok.true) in
    rw c.from-block.ensures (row-found c.args.table.now _ c.loop-b-test.true first)

pub loop-b-preserved : goal.loop-b-preserved
loop-b-preserved c =
    next _ block_count _ c.loop-b.invariant _ c.loop-b-test.true
    (c.row_ok.ensures ∙ rw c.from-block.ensures) (ap not c.if-not-row_ok.false)

pub returns : goal.returns
returns c = no-row c.args.table.now _ (omega arith) (none _ block_count _ c.loop-b.invariant c.loop-b-test.false)
