use mathlib.Core.Path.{refl}
use Rattle.bytes_fields.specs.Put.{put_then}
use Rattle.state_thread_record.proofs.write_head.Goals as goal

pub returns : goal.returns
returns c =
    let label = rw c.label_number.ensures at c.put16.ensures in
    let locks = put_then _ _ _ _ _ label c.put16-2.ensures refl in
    put_then _ _ _ _ _ locks c.put8.ensures refl
