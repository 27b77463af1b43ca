use mathlib.Core.Path.{sym}
use Rattle.check_queues.specs.Homes.{homed-none, homed-some}
use Rattle.check_queues.proofs.queues.is_homed.Goals as goal

pub returns-then-s-at-eq0 : goal.returns-then-s-at-eq0
returns-then-s-at-eq0 c =
    let a = c.args in
    sym (homed-none a.image.now a.table.now a.s.now a.at c.if-s-at-eq0.true)

pub returns : goal.returns
returns c =
    let a = c.args in
    simp (
      c.thread_number.ensures,
      c.home.ensures,
      c.from.ensures,
      c.get16.ensures,
    )
    (sym (homed-some a.image.now a.table.now a.s.now a.at c.if-s-at-eq0.false))
