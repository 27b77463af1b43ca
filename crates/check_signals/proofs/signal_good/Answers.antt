use Rattle.std.proofs.Common.{sym}
use Rattle.check_signals.specs.Signals.{signal-past, signal-at-label}
use Rattle.check_signals.proofs.signal_good.Goals as goal

pub returns-in_default : goal.returns-in_default
returns-in_default c =
    let a = c.args in
    sym (signal-past a.image.now a.external a.s.now a.at (rw (← c.get16.ensures) (rw c.from.ensures at c.in_default.ensures)))

pub returns : goal.returns
returns c =
    let a = c.args in
    simp (c.signal_tidy.ensures, c.entry_field-entry.ensures, c.in-Some.ensures.1, c.from.ensures, c.get16.ensures)
    (sym (signal-at-label a.image.now a.external a.s.now a.at))
