use mathlib.Core.Path.{refl}
use Rattle.bytes_fields.specs.Put.{put}
use Rattle.bytes_fields.proofs.write.put8.Goals as goal

pub returns : goal.returns
unfolding put
returns c = refl
