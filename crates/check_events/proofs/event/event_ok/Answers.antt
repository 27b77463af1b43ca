use Rattle.std.proofs.Common.{sym, ◌∙◌}
use Rattle.std.specs.Prelude.{◌≡◌, Ok, Bool, cond, refl}
use denote.Enum.Bare.{sameb}
use Rattle.rules.specs.contracts.kinds.EventKind.{the_type}
use Rattle.rules.specs.declared.kinds.EventKind.{EventKind}
use Rattle.rules.specs.declared.kinds.EventKind.TheVariants.{Arrival, Step, Cut}
use Rattle.check_events.specs.Places.{event-of, of_kind}
use Rattle.check_events.proofs.event.event_ok.Goals as goal

-- an event of a kind, by the question whether it is an arrival
asked : (k : EventKind) (b a t : Bool) → b ≡ sameb the_type k Arrival → cond b a t ≡ of_kind (Ok k) a t
asked Arrival b a t e = rw e refl
asked Step b a t e = rw e refl
asked Cut b a t e = rw e refl

pub returns-in_default : goal.returns-in_default
returns-in_default c =
    let a = c.args in
    event-of a.image.now a.events.now a.at _ (sym c.in_default.is ∙ c.try_from.ensures)

pub returns-then-eq : goal.returns-then-eq
returns-then-eq c =
    let a = c.args in
    c.arrival_ok.ensures ∙ asked c.in-Ok.kind _ _ _ (sym c.if-eq.true ∙ c.eq.ensures)
    ∙ event-of a.image.now a.events.now a.at _ (sym c.in-Ok.is ∙ c.try_from.ensures)

pub returns : goal.returns
returns c =
    let a = c.args in
    c.turn_ok.ensures ∙ asked c.in-Ok.kind _ _ _ (sym c.if-eq.false ∙ c.eq.ensures)
    ∙ event-of a.image.now a.events.now a.at _ (sym c.in-Ok.is ∙ c.try_from.ensures)
