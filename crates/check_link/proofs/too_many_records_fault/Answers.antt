use native.Mathlib.Omega.{arith}
use Rattle.image_record.specs.Records.{labels-small}
use Rattle.check_link.proofs.too_many_records_fault.Goals as goal

pub overflow_add-first : goal.overflow_add-first
overflow_add-first c = omega (arith, labels-small c.args.first.now.image.now, labels-small c.args.second.now.image.now)
