-- The events of call after call, joined in call order, are one event list: the one-by-one reading of a list of calls.
use Rattle.std.specs.Prelude.{◌≡◌, ℕ}
use Rattle.std.proofs.Math.Path.{refl, sym, ap}
use Rattle.std.proofs.Common.{◌∙◌}
use mathlib.Core.List.{List, [], ◌∷◌, ◌++◌, flatten}
use Rattle.rules.specs.Machine.{Machine, fresh}
use Rattle.rules.specs.Events.{Event}
use Rattle.rules.specs.Steps.{Rules, final}
use Rattle.rules.specs.Order.{Entry, order, events, log}
use Rattle.lemmas_rules.specs.EventLists.{log-append, final-append}

module _ (R : Rules) where
  -- each call goes on from the machine that the one before it left: their events and answers, joined, and the machine that the last one
  -- left
  unfoldable pub logs : Machine → List (List Event) → List Entry
  logs s [] = []
  logs s (a ∷ l) = log R s a ++ logs (final R s a) l

  unfoldable pub finals : Machine → List (List Event) → Machine
  finals s [] = s
  finals s (a ∷ l) = finals (final R s a) l

  pub logs-flatten : (s : Machine) (l : List (List Event)) → logs s l ≡ log R s (flatten l)
  unfolding logs flatten log
  logs-flatten s [] = refl
  logs-flatten s (a ∷ l) = ap (λ (z : List Entry). log R s a ++ z) (logs-flatten (final R s a) l) ∙ sym (log-append R s a (flatten l))

  pub finals-flatten : (s : Machine) (l : List (List Event)) → finals s l ≡ final R s (flatten l)
  unfolding finals flatten final
  finals-flatten s [] = refl
  finals-flatten s (a ∷ l) = finals-flatten (final R s a) l ∙ sym (final-append R s a (flatten l))

  -- the reading of a list of calls: the second order of all their events, carried out from the state that Fresh left, gets the same
  -- answers and leaves what the last call left
  pub record OneByOneCalls (words : List ℕ) (l : List (List Event)) : Type 0 where
    pub answers : log R (fresh words) (events (order (logs (fresh words) l))) ≡ order (logs (fresh words) l)
    pub state : final R (fresh words) (events (order (logs (fresh words) l))) ≡ finals (fresh words) l
