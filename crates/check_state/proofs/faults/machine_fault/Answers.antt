use Rattle.std.proofs.Common.{sym}
use Rattle.check_state.specs.Faults.{state-length}
use Rattle.check_state.proofs.faults.machine_fault.Goals as goal

pub state_fault-requires : goal.state_fault-requires
state_fault-requires c = (sym c.in_ok-image_fault.ensures, state-length c.args.state.now (sym c.in_ok-state_length_fault.ensures))
