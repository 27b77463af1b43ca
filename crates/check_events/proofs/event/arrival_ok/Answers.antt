use Rattle.std.proofs.Common.{sym}
use Rattle.check_events.specs.Places.{arrival-past, arrival-at}
use Rattle.check_events.proofs.event.arrival_ok.Goals as goal

pub returns-in_default : goal.returns-in_default
returns-in_default c =
    let a = c.args in
    sym (arrival-past a.image.now a.s.now a.at (rw (← c.get16.ensures) (rw c.from.ensures at c.in_default.ensures)))

pub returns : goal.returns
returns c =
    let a = c.args in
    simp (c.signal_tidy.ensures, c.entry_field.ensures, c.in-Some.ensures.1, c.from.ensures, c.get16.ensures)
    (sym (arrival-at a.image.now a.s.now a.at))
