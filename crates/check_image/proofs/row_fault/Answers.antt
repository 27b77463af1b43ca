use mathlib.Core.Path.{sym}
use Rattle.image_table.specs.BadRow.{found-fault, no-fault}
use Rattle.check_image.proofs.row_fault.Goals as goal

pub returns-in-Some : goal.returns-in-Some
returns-in-Some c = sym (found-fault c.args.table.now _ c.in-Some.ensures)

pub returns-in-None : goal.returns-in-None
returns-in-None c = sym (no-fault c.args.table.now c.in-None.ensures)
