use mathlib.Core.Path.{refl}
use Rattle.bytes_fields.specs.Put.{put_then}
use Rattle.bytes_fields.proofs.write.put32.Goals as goal

pub returns : goal.returns
returns c = put_then _ _ _ _ _ c.put16.ensures c.put16-2.ensures
    refl
