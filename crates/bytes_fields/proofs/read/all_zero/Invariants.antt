use Rattle.std.specs.Prelude.{◌*◌, ◌/◌}
use Rattle.bytes_fields.specs.Tests.{Halved, last_sixteen}
use Rattle.bytes_fields.proofs.read.all_zero.Given as goal

abbrev pub invariant-loop-k : goal.invariant-loop-k
invariant-loop-k l = Halved l.s l.at (l.n / 16 * 8) (last_sixteen l.s l.at l.n) l.set (8 * l.k)
