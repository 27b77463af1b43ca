use mathlib.Core.Path.{refl}
use Rattle.bytes_fields.specs.Put.{put_then}
use Rattle.state_thread_record.proofs.write_labels.Goals as goal

pub returns : goal.returns
returns c =
    let head = c.write_head.ensures in
    put_then _ _ _ _ _ head c.put16s.ensures refl
