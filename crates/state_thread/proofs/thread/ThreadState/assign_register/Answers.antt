use mathlib.Core.Path.{refl, ap}
use Rattle.rules.specs.Machine.{job}
use Rattle.state_thread.specs.Registers.{stored-registers, stored-tidy}
use Rattle.state_thread.specs.Threads.{running-thread, returns_of, keeping}
use Rattle.state_thread.proofs.thread.ThreadState.assign_register.Goals as goal

pub returns : goal.returns
returns c =
    let a = c.args in
    let p = c.requires in
    let z = p.0.tidy.registers in
    let w = a.self in
    rw c.with.ensures
    (running-thread _ _ _ p.0.label p.0.tidy.returns (stored-tidy w.present w.registers a.register a.value z.sized
    p.1 z) p.0.tidy.held refl
    (ap (λ l. keeping w (job w.label.0 (returns_of w) l)) (stored-registers w.present w.registers a.register a.value
    z.sized
    p.1)))
