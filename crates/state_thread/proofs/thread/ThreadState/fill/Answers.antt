use Rattle.state_registers.specs.Filling.{filled_by}
use Rattle.state_thread.specs.Threads.{filled}
use Rattle.state_thread.proofs.thread.ThreadState.fill.Goals as goal

pub returns : goal.returns
unfolding filled filled_by
returns c = rw c.fill-all.ensures
