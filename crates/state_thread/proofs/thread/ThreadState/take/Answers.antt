use lib.ListN.{take}
use Rattle.rules.specs.Machine.{fill, job, with_held}
use Rattle.state_thread.specs.Held.{no-signals}
use Rattle.state_thread.specs.Threads.{idle-fields, runs_as}
use Rattle.state_thread.proofs.thread.ThreadState.take.Goals as goal

pub returns : goal.returns
returns c =
    let a = c.args in
    let z = idle-fields a.self c.requires.0 in
    runs_as c.enter.ensures z.0 (λ i. with_held (no-signals a.self.signals z.3 i)
    (job a.label.0 (take (z.1 i) a.self.returns) (fill (take a.count a.values))))
