-- What is claimed of a guest's calls. The calls are those of the law, which the exported calls promise.
use Rattle.std.specs.Prelude.{◌≡◌, List, map, ℕ, take}
use Rattle.rules.specs.Sizes.{words_size}
use Rattle.rules.specs.Image.{labels}
use Rattle.rules.specs.Order.{ByteEntry}
use Rattle.rules.specs.Link.{shift_state, shift_events}
use Rattle.theorem_serial_calls.specs.CallList.{Run, last_left, event_list, answers_of}

-- a guest of two linked images, the shift of its labels, and the other guest: the first, whose labels stay, or the second, whose labels
-- are higher by the first's record count
pub data IsGuest (first second : List ℕ) : ℕ → List ℕ → List ℕ → Type 0 where
  the-first : IsGuest first second 0 first second
  the_second : IsGuest first second (labels first) second first

-- the event list of two lists of calls, of any number of Runs each: that of the second list is that of the first, with its labels shifted
abbrev pub SameEvents : ℕ → List Run → List Run → Type 0
SameEvents d runs runs' =
    map (λ (n : ByteEntry). n.event) (event_list runs') ≡ map (λ (n : ByteEntry). shift_events d n.event) (event_list runs)

-- the guest's list of calls on its own image, from the state that its Fresh left, and a list of calls on the linked image: each event gets
-- the same two answer bytes; the shared words left are the same bytes; and the state left is the guest's with its labels shifted
pub record GuestReading (d : ℕ) (start start' : List ℕ) (runs runs' : List Run) : Type 0 where
  pub answers : answers_of (event_list runs') ≡ answers_of (event_list runs)
  pub words : take words_size (last_left start' runs') ≡ take words_size (last_left start runs)
  pub state : last_left start' runs' ≡ shift_state d (last_left start runs)
