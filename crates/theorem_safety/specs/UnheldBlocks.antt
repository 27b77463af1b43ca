-- Blocks whose lock the threads of a list of events do not hold when these come, whatever other locks they hold.
use Rattle.std.specs.Prelude.{◌≡◌, false, ℕ}
use Rattle.std.proofs.Math.Option.{some}
use mathlib.Core.List.{List, [], ◌∷◌}
use Rattle.rules.specs.Bytes.{has}
use Rattle.rules.specs.Image.{row_at}
use Rattle.rules.specs.Machine.{Machine, thread_at, locks_of}
use Rattle.rules.specs.Events.{Event, thread_of}
use Rattle.rules.specs.Steps.{rules_by, react}

module _ (image table : List ℕ) (b : ℕ) where
  -- the thread of no event of the list holds the lock of block b when the event comes
  abbrev pub Unheld : Machine → List Event → Type 0
  Unheld s [] = Unit {0}
  Unheld s (e ∷ l) =
      ((t : ℕ) → thread_of e ≡ some t → has (row_at table b).lock (locks_of (thread_at s t)) ≡ false)
      × Unheld (react (rules_by image table) s e).state l
