use mathlib.Core.Path.{sym}
use Rattle.check_events.specs.Places.{turn_at}
use Rattle.check_events.proofs.event.turn_ok.Goals as goal

pub returns : goal.returns
returns c =
    let a = c.args in
    simp (c.all_zero.ensures, c.get8.ensures.0) (sym (turn_at a.s.now a.at))
