use Rattle.std.specs.Prelude.{◌≡◌}
use Rattle.rules.specs.Bytes.{part}
use Rattle.bytes_fields.specs.Put.{put}
use Rattle.bytes_fields.proofs.write.copy.Given as goal

abbrev pub invariant-loop-k : goal.invariant-loop-k
invariant-loop-k l = l.s ≡ put l.initial.s l.at (part l.from l.start l.k)
