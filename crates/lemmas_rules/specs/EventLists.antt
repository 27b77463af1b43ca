-- Lists of events carried out: their log, and one list after another.
use Rattle.std.specs.Prelude.{◌≡◌}
use Rattle.std.proofs.Math.Path.{refl, ap}
use mathlib.Core.List.{List, [], ◌∷◌, ◌++◌, map}
use Rattle.rules.specs.Machine.{Machine}
use Rattle.rules.specs.Events.{Event}
use Rattle.rules.specs.Steps.{Rules, react, answers, final}
use Rattle.rules.specs.Order.{Entry, events, log, lost_by}
use Rattle.rules.specs.declared.answer.Answer.{Answer}

module _ (R : Rules) where
  -- a call's log is its events with the answers that it writes
  pub log-events : (s : Machine) (l : List Event) → events (log R s l) ≡ l
  unfolding log
  log-events s [] = refl
  log-events s (e ∷ l) = ap (λ (z : List Event). e ∷ z) (log-events (react R s e).state l)

  pub log-answers : (s : Machine) (l : List Event) → map (λ (n : Entry). n.answer) (log R s l) ≡ answers R s l
  unfolding log answers
  log-answers s [] = refl
  log-answers s (e ∷ l) = ap (λ (z : List Answer). (react R s e).answer ∷ z) (log-answers (react R s e).state l)

  pub log-append : (s : Machine) (a b : List Event) → log R s (a ++ b) ≡ log R s a ++ log R (final R s a) b
  unfolding log final
  log-append s [] b = refl
  log-append s (e ∷ a) b =
      ap (λ (z : List Entry). record { event = e; answer = (react R s e).answer; lost = lost_by R s e } ∷ z)
      (log-append (react R s e).state a b)

  pub final-append : (s : Machine) (a b : List Event) → final R s (a ++ b) ≡ final R (final R s a) b
  unfolding final
  final-append s [] b = refl
  final-append s (e ∷ a) b = final-append (react R s e).state a b
