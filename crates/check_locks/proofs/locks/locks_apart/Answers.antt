use Rattle.check_locks.specs.Locks.{scanned-none, scanned-next, scanned-all}
use Rattle.check_locks.proofs.locks.locks_apart.Goals as goal

pub loop-t-init : goal.loop-t-init
loop-t-init c = scanned-none c.args.state.now

pub loop-t-preserved : goal.loop-t-preserved
loop-t-preserved c =
    let l = c.loop-t in
    rw c.none_in_both-ok.ensures
    (scanned-next c.args.state.now l.taken l.ok l.t l.invariant
    c.locks_at-locks.result c.loop-t-test.true c.locks_at-locks.ensures)

pub returns : goal.returns
returns c =
    let l = c.loop-t in
    scanned-all c.args.state.now l.taken l.ok l.t l.invariant c.loop-t-test.false
