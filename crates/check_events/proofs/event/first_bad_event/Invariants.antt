use Rattle.std.specs.Prelude.{◌≡◌, ◌-◌, ◌/◌, ◌%◌}
use Rattle.rules.specs.Sizes.{event_size}
use Rattle.rules.specs.Events.{event_at_ok}
use Rattle.bytes_fields.specs.Tests.{Searching}
use Rattle.check_events.proofs.event.first_bad_event.Given as goal

abbrev pub invariant-loop-at : goal.invariant-loop-at
invariant-loop-at l = (l.at % event_size ≡ 0) × Searching (event_at_ok l.image l.events) l.m (l.at / event_size)

abbrev pub decreases-loop-at : goal.decreases-loop-at
decreases-loop-at l = l.at-end - l.at
