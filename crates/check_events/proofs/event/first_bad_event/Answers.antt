use Rattle.std.proofs.Common.{ap, ◌∙◌}
use Rattle.std.specs.Prelude.{◌≡◌, ◌+◌, ◌/◌, not}
use native.Mathlib.Omega.{arith}
use Rattle.rules.specs.Sizes.{event_size}
use Rattle.rules.specs.Events.{event_at_ok}
use Rattle.bytes_fields.specs.Tests.{Searching, next, here, none}
use Rattle.check_events.specs.Faults.{index-found, index-none}
use Rattle.check_events.specs.Places.{event-here}
use Rattle.check_events.proofs.event.first_bad_event.Goals as goal
use Rattle.check_events.proofs.event.first_bad_event.Goals.{Else-not-event_ok}

-- no event to the next place breaks a rule
one-more : (c : Else-not-event_ok) → Searching (event_at_ok c.args.image.now c.args.events.now) c.args.m (c.loop-at.at / event_size + 1)
one-more c =
    let a = c.args in
    let l = c.loop-at in
    next (event_at_ok a.image.now a.events.now) a.m (l.at / event_size) l.invariant.1 c.event_ok.result (omega arith)
    (c.event_ok.ensures ∙ event-here a.image.now a.events.now l.at l.invariant.0) (ap not c.if-not-event_ok.false)

pub returns-then-not-event_ok : goal.returns-then-not-event_ok
returns-then-not-event_ok c =
    let a = c.args in
    let l = c.loop-at in
    index-found _ _ (l.at / event_size) (omega arith)
    (here (event_at_ok a.image.now a.events.now) a.m (l.at / event_size) l.invariant.1 c.event_ok.result (omega arith)
    (c.event_ok.ensures ∙ event-here a.image.now a.events.now l.at l.invariant.0) (ap not c.if-not-event_ok.true))

pub loop-at-preserved : goal.loop-at-preserved
loop-at-preserved c =
    let l = c.loop-at in
    let e : (l.at + event_size) / event_size ≡ l.at / event_size + 1 = omega arith in
    (omega arith, rw e (one-more (goal.at.loop-at-preserved c).Else-not-event_ok))

pub returns-else-not-event_ok : goal.returns-else-not-event_ok
returns-else-not-event_ok c =
    let a = c.args in
    let k = c.loop-at.at / event_size + 1 in
    index-none _ _ k (omega arith)
    (none (event_at_ok a.image.now a.events.now) a.m k (one-more (goal.at.returns-else-not-event_ok c).Else-not-event_ok) (omega arith))

pub returns : goal.returns
returns c =
    let a = c.args in
    let k = c.loop-at.at / event_size in
    index-none _ _ k (omega arith) (none (event_at_ok a.image.now a.events.now) a.m k c.loop-at.invariant.1 (omega arith))
