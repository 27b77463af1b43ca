use native.Mathlib.Omega.{arith}
use mathlib.Core.Path.{refl}
use Rattle.bytes_fields.specs.Put.{put_then}
use Rattle.state_signal.proofs.write_head.Goals as goal

pub returns : goal.returns
returns c =
    let number = c.label_number.ensures in
    let label = rw number at c.put16.ensures in
    put_then _ _ _ _ _ label c.put8.ensures refl
