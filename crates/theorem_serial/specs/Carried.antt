-- Lists of events with answers that are right from a given machine, and what may be moved within them.
use Rattle.std.specs.Prelude.{◌≡◌, ◌≢◌}
use mathlib.Core.List.{List, [], ◌∷◌, Memᴰ}
use Rattle.rules.specs.Machine.{Machine}
use Rattle.rules.specs.Events.{thread_of, Valid}
use Rattle.rules.specs.Answers.{out, join, sort}
use Rattle.rules.specs.Steps.{Rules, react}
use Rattle.rules.specs.Order.{Entry, lost_by}

module _ (R : Rules) where
  -- an event that names a thread 0 to 7, if it names one, and gets this answer
  pub record Answered (s : Machine) (n : Entry) : Type 0 where
    pub valid : Valid n.event
    pub same : (react R s n.event).answer ≡ n.answer
    pub loses : lost_by R s n.event ≡ n.lost

  -- carried out from s, the events of the list get the answers of the list, and leave s'
  abbrev pub Carried : Machine → List Entry → Machine → Type 0
  Carried s [] s' = s ≡ s'
  Carried s (n ∷ l) s' = Answered s n × Carried (react R s n.event).state l s'

-- x only moves its job on, and y, which is not left out, is of another thread or an arrival
pub record Apart (x y : Entry) : Type 0 where
  pub joins : sort x.answer ≡ join
  pub kept : ¬ (sort y.answer ≡ out)
  pub other : thread_of x.event ≢ thread_of y.event

abbrev pub AllApart : List Entry → List Entry → Type 0
AllApart X Y = (x y : Entry) → Memᴰ x X → Memᴰ y Y → Apart x y
