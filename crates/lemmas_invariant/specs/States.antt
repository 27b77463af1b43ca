-- What a Run is given: a state to which numbers 5 and 6 do not apply, and events that the image accepts.
use Rattle.std.specs.Prelude.{◌≡◌, true, List, ℕ, length}
use Rattle.rules.specs.Sizes.{state_size}
use Rattle.rules.specs.Check.{Checked}
use Rattle.rules.specs.Events.{events_from}
use Rattle.rules.specs.WellFormed.{well_formed}
use Rattle.rules.specs.Calls.{state_length_fault, state_fault}
use Rattle.bytes_fields.specs.Each.{Each}
use Rattle.lemmas_invariant.specs.StaysWellFormed.{Accepted}

-- numbers 5 and 6 do not apply to a state
pub record Ready (image table state : List ℕ) : Type 0 where
  pub size : state_length_fault state ≡ 0
  pub formed : state_fault image table state ≡ 0

-- what an accepted Run was given
pub record Given (image table state events : List ℕ) : Type 0 where
  pub checked : Checked image table
  pub size : length state ≡ state_size
  pub formed : well_formed image table state ≡ true
  pub accepted : Each (Accepted image) (events_from events)
