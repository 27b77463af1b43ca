use Rattle.std.proofs.Common.{sym}
use Rattle.check_events.proofs.faults.events_fault.Goals as goal

pub event_fault-requires : goal.event_fault-requires
event_fault-requires c = sym c.in_ok-events_length_fault.ensures
