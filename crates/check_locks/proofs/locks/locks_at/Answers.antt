use mathlib.Core.Path.{sym, ◌∙◌}
use Rattle.check_locks.specs.Locks.{idle-locks, running-locks}
use Rattle.check_locks.proofs.locks.locks_at.Goals as goal

pub returns-then-label : goal.returns-then-label
returns-then-label c =
    let a = c.args in
    sym (idle-locks a.s.now a.at (sym c.get16-label.ensures ∙ c.if-label.true))

pub returns-else-label : goal.returns-else-label
returns-else-label c =
    let a = c.args in
    c.get16-locks.ensures ∙ sym (running-locks a.s.now a.at (λ e. c.if-label.false (c.get16-label.ensures ∙ e)))
