-- What is claimed of the counterpart of a guest's calls: a list of calls on the linked image, each accepted, of the guest's events with
-- their labels shifted.
use Rattle.std.specs.Prelude.{◌≡◌}
use mathlib.Core.List.{List}
use Prim.Native.Nat.{ℕ}
use Rattle.rules.specs.Calls.{fresh_state}
use Rattle.bytes_fields.specs.Each.{Each}
use Rattle.theorem_serial_calls.specs.CallList.{Run, returned, Calls}
use Rattle.theorem_guests_calls.specs.Guests.{SameEvents}
use Rattle.theorem_guests_calls.specs.Counterparts.{counterparts}

-- the counterparts of a guest's Runs, after the Fresh of the linked image
abbrev pub linked_runs : ℕ → List ℕ → List ℕ → List ℕ → List ℕ → List Run → List Run
linked_runs d L table words state runs = counterparts d L (fresh_state L table words state) runs

pub record HasCounterparts (d : ℕ) (L table words state : List ℕ) (runs : List Run) : Type 0 where
  pub calls : Calls L table words state (linked_runs d L table words state runs)
  pub accepted : Each (λ r. returned r ≡ 0) (linked_runs d L table words state runs)
  pub same : SameEvents d runs (linked_runs d L table words state runs)
