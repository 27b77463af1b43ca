use mathlib.Core.Path.{◌≡◌}
use mathlib.Core.List.{◌++◌}
use lib.ListN.{length}
use Rattle.bytes_fields.specs.Put.{put}
use Rattle.image_record.specs.Shifts.{shifted_run}
use Rattle.image_link.proofs.link.Given as goal

-- the first l records of the second image are shifted, and all else is as it was copied
abbrev pub invariant-loop-l : goal.invariant-loop-l
invariant-loop-l l = l.out ≡ put (l.first ++ l.second) (length l.first) (shifted_run l.d l.l l.second)
