use Rattle.bytes_fields.specs.Pieces.{Tested}
use Rattle.check_signals.specs.Signals.{signal_at_good}
use Rattle.check_signals.proofs.signals_good.Given as goal

abbrev pub invariant-loop-j : goal.invariant-loop-j
invariant-loop-j l = Tested l.initial.ok (signal_at_good l.image l.external l.at l.s) l.count l.j l.ok
