-- "The one-by-one reading", for any rules that keep the law of Laws.antt and event lists of any length: `one_by_one`, at the end.
use Rattle.std.specs.Prelude.{◌≡◌, ℕ}
use Rattle.std.proofs.Common.{sym, ap, ◌∙◌}
use Rattle.std.proofs.Math.Option.{some}
use mathlib.Core.List.{List, [], ◌∷◌}
use Rattle.rules.specs.Machine.{fresh}
use Rattle.rules.specs.Events.{Event, arrive, turn, thread_of, Valid}
use Rattle.rules.specs.Answers.{Sort, sort}
use Rattle.rules.specs.Steps.{Rules, final}
use Rattle.rules.specs.Order.{Entry, row_of, order, events, log}
use Rattle.lemmas_rules.specs.Logic.{never}

module _ (R : Rules) where
  -- the second order of the event list l, carried out by the rules from the same fresh machine: each of its events gets the answer that
  -- it has in the event list and loses the very signals that it loses there, and it leaves the machine that the event list leaves
  pub record OneByOne (words : List ℕ) (l : List Event) : Type 0 where
    pub answers : log R (fresh words) (events (order (log R (fresh words) l))) ≡ order (log R (fresh words) l)
    pub state : final R (fresh words) (events (order (log R (fresh words) l))) ≡ final R (fresh words) l

-- every event names a thread 0 to 7, if it names one
abbrev pub AllValid : List Event → Type 0
AllValid [] = Unit {0}
AllValid (e ∷ l) = Valid e × AllValid l

-- what the second order goes by
abbrev pub by_sort : Entry → Sort
by_sort n = sort n.answer

abbrev pub by_row : Entry → ℕ
by_row n = row_of n.event

-- ---- what an answer says of its event

pub row_is : (e : Event) (t : ℕ) → thread_of e ≡ some t → row_of e ≡ t
row_is (arrive g) t h = never (cc)
row_is (turn k u) t h = cc

pub row-of : (e : Event) (t : ℕ) → thread_of e ≡ some t → thread_of e ≡ some (row_of e)
row-of e t h = h ∙ ap some (sym (row_is e t h))
