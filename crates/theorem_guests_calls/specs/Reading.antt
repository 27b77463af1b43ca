-- Nothing of the other guest is touched by a guest's calls on the linked image.
use Rattle.std.specs.Prelude.{◌≡◌, true, ℕ}
use mathlib.Core.List.{List}
use Rattle.rules.specs.Machine.{window}
use Rattle.rules.specs.Encoding.{words_from, machine_from}
use Rattle.rules.specs.Link.{names}
use Rattle.rules.specs.Calls.{fresh_state, link_out}
use Rattle.theorem_serial_calls.specs.CallList.{Run, last_left}
use Rattle.theorem_guests.specs.OtherBlocks.{NotOwn, Free}

module _ (first second table out : List ℕ) where
  abbrev L : List ℕ
  L = link_out first second table out

  -- the words of the other guest's blocks are those that Fresh was lent, and no thread holds a lock that none of the guest's own blocks has
  pub record OthersUntouched (own other words state' : List ℕ) (runs' : List Run) : Type 0 where
    pub other-words-stay : (b : ℕ) → names other b ≡ true
        → window b (words_from (last_left (fresh_state L table words state') runs')) ≡ window b (words_from words)
    pub other-locks-free : (lock : ℕ) → NotOwn own table lock
        → Free lock (machine_from (last_left (fresh_state L table words state') runs'))
