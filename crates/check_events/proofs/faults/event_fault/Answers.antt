use Rattle.std.proofs.Common.{sym, ◌∙◌}
use Rattle.std.specs.Prelude.{◌/◌, length}
use native.Mathlib.Omega.{arith}
use Rattle.rules.specs.Sizes.{event_size}
use Rattle.rules.specs.Codes.{bad_event_number}
use Rattle.rules.specs.Events.{event_at_ok}
use Rattle.rules.specs.Calls.{event_fault}
use Rattle.bytes_fields.specs.Tests.{within}
use Rattle.check_events.specs.Faults.{counted, index-is, fault-found, fault-none}
use Rattle.check_events.proofs.faults.event_fault.Goals as goal

pub overflow_cast-result : goal.overflow_cast-result
overflow_cast-result c =
    let a = c.args in
    let k = counted a.events.now c.requires in
    omega (
      arith,
      within (event_at_ok a.image.now a.events.now) 0 (length a.events.now / event_size),
      index-is _ _ _ (sym c.first_bad_event.ensures ∙ c.in-Some.is),
    )

pub returns-in-Some : goal.returns-in-Some
unfolding event_fault
returns-in-Some c = fault-found _ _ bad_event_number _ (sym c.first_bad_event.ensures ∙ c.in-Some.is)

pub returns-in-None : goal.returns-in-None
unfolding event_fault
returns-in-None c = fault-none _ _ bad_event_number (sym c.first_bad_event.ensures ∙ c.in-None.is)
