use Rattle.rules.specs.Sizes.{block_count}
use Rattle.rules.specs.Check.{row_ok}
use Rattle.bytes_fields.specs.Tests.{Searching}
use Rattle.image_table.proofs.first_bad_row.Given as goal

abbrev pub invariant-loop-b : goal.invariant-loop-b
invariant-loop-b l = Searching (row_ok l.table) block_count l.b
