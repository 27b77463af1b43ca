-- The two guests of a linked image. What holds of a guest is said once, over the shift of its labels: 0 for the first, the first's record
-- count for the second.
use Rattle.std.specs.Prelude.{◌≡◌, false, List, map, ℕ}
use Rattle.std.proofs.Math.Bool.{true}
use Rattle.rules.specs.Check.{Checked}
use Rattle.rules.specs.Machine.{fresh, window}
use Rattle.rules.specs.Events.{Event}
use Rattle.rules.specs.Steps.{rules_by, final}
use Rattle.rules.specs.Link.{names, shift_event}
use Rattle.theorem_guests.specs.Parts.{Part}
use Rattle.theorem_guests.specs.OtherBlocks.{NotOwn, Free}

-- the guest G stands in L, d labels in, beside the guest H; both over one block table
pub record Guest (d : ℕ) (G H L table : List ℕ) : Type 0 where
  pub part : Part d G L
  pub checked : Checked G table
  pub apart : (b : ℕ) → names H b ≡ true → names G b ≡ false

-- nothing of the other guest is touched by the events l of the guest, from a fresh machine: the words of its blocks are the initial ones,
-- and no thread holds a lock that none of the guest's own blocks has
pub record OthersUntouched (d : ℕ) (G H L table initial : List ℕ) (l : List Event) : Type 0 where
  pub other-words-stay : (b : ℕ) → names H b ≡ true
      → window b (final (rules_by L table) (fresh initial) (map (shift_event d) l)).words ≡ window b initial
  pub other-locks-free : (lock : ℕ) → NotOwn G table lock → Free lock (final (rules_by L table) (fresh initial) (map (shift_event d) l))
