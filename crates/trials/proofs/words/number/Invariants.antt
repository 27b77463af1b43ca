use Rattle.std.proofs.Common.{◌<◌}
use Rattle.trials.proofs.words.number.Given as goal

abbrev pub invariant-loop-byte : goal.invariant-loop-byte
invariant-loop-byte l = l.number < 10000000000000
