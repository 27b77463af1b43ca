use mathlib.Core.Path.{◌≡◌, ap, ◌∙◌, subst}
use Prim.Native.Nat.{ℕ, ◌-◌, ◌≤◌}
use native.Mathlib.Omega.{arith}
use lib.ListN.{length}
use Rattle.rules.specs.Events.{events_in}
use Rattle.bytes_fields.specs.Put.{length-put}
use Rattle.run_events.specs.Runs.{event-at, Ran, ran-none, ran-more, ran-state, ran-answers}
use Rattle.run_events.proofs.run.Given as goal

abbrev pub invariant-loop-i : goal.invariant-loop-i
invariant-loop-i l = Ran l.image l.table l.events l.initial.state l.initial.space l.i l.state l.space
