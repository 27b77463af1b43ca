use borrow.Author.Rules.{rules}
use mathlib.Core.Path.{◌≡◌, refl, ap}
use native.Mathlib.Omega.{arith}
use lib.ListN.{length}
use Rattle.rules.specs.Sizes.{held_size, register_count}
use Rattle.rules.specs.Machine.{with_held}
use Rattle.state_signal.specs.Signals.{signal_of, value-sized}
use Rattle.state_thread.specs.Held.{held-pushed}
use Rattle.state_thread.specs.Threads.{running-thread, job_of}
use Rattle.state_thread.proofs.thread.ThreadState.hold_signal.Goals as goal

pub write_signal-requires : goal.write_signal-requires
write_signal-requires c =
    let long : length c.args.self.signals ≡ held_size = search rules in
    (omega (arith, long), c.requires.2)

pub returns : goal.returns
returns c =
    let w = c.args.self in
    let p = c.requires.0 in
    let g = c.args.g in
    let long : length g.values ≡ register_count = search rules in
    let h = held-pushed w.held w.signals p.tidy.held (signal_of g) c.requires.1 (value-sized g long c.requires.2) in
    rw c.write_signal.ensures
    (running-thread _ _ _ p.label p.tidy.returns p.tidy.registers h.1 refl (ap (λ gs. with_held gs (job_of w)) h.0))
