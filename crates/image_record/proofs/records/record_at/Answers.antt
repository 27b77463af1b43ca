use mathlib.Core.Path.{sym}
use native.Mathlib.Omega.{arith}
use Rattle.image_record.specs.Records.{no_record}
use Rattle.image_record.proofs.records.record_at.Goals as goal

pub returns-else-from-count_labels : goal.returns-else-from-count_labels
returns-else-from-count_labels c = sym (no_record _ _ (omega (arith, c.if-from-count_labels.false)))
