use mathlib.Core.Path.{refl}
use Rattle.state_thread.specs.Threads.{running-thread}
use Rattle.state_thread.proofs.thread.ThreadState.hold.Goals as goal

pub returns : goal.returns
returns c =
    let p = c.requires in
    running-thread _ _ _ p.0.label p.0.tidy.returns p.0.tidy.registers p.0.tidy.held
    (rw (c.with.ensures, c.from.ensures, c.lock_number.ensures)) refl
