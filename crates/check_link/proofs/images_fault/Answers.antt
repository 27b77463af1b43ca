use Rattle.std.proofs.Common.{sym}
use Rattle.check_image.specs.Faults.{table-length}
use Rattle.check_link.proofs.images_fault.Goals as goal

pub table_fault-requires : goal.table_fault-requires
table_fault-requires c = table-length _ (sym c.in_ok-table_length_fault.ensures)
