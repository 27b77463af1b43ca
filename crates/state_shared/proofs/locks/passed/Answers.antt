use mathlib.Core.Path.{sym}
use Rattle.state_shared.specs.Locks.{passes}
use Rattle.state_shared.proofs.locks.passed.Goals as goal

pub returns-then-eq : goal.returns-then-eq
unfolding passes
returns-then-eq c = rw (sym c.if-eq.ensures)

pub returns : goal.returns
unfolding passes
returns c = rw (sym c.if-eq.ensures, c.holds.ensures, c.get16-locks.ensures, c.wide.ensures.0, c.thread_number.ensures)
