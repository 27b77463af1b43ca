use Rattle.rules.specs.Image.{labels}
use Rattle.image_record.proofs.records.count_labels.Goals as goal

pub returns-then-image-n : goal.returns-then-image-n
unfolding labels
returns-then-image-n c = simp c.if-image-n.true

pub returns-else-image-n : goal.returns-else-image-n
unfolding labels
returns-else-image-n c = simp c.if-image-n.false
