use mathlib.Core.Path.{refl}
use Rattle.state_thread.specs.Threads.{running-thread}
use Rattle.state_thread.proofs.thread.ThreadState.move_on.Goals as goal

pub returns : goal.returns
returns c = running-thread _ _ _ c.requires.1 c.requires.0.tidy.returns c.requires.0.tidy.registers c.requires.0.tidy.held refl refl
