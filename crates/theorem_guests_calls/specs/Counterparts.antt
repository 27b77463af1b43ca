-- The calls on the linked image that go with a guest's calls: each accepted Run of the guest has its counterpart there, with its labels
-- shifted in state and events alike.
use Rattle.std.specs.Prelude.{cond, ℕ}
use mathlib.Core.List.{List, [], ◌∷◌}
use Rattle.rules.specs.Link.{shift_events}
use Rattle.theorem_serial_calls.specs.CallList.{Run, state_left, accepted}

-- ---- the counterpart of a Run, and of Runs, where s is the state that the call before left on the linked image

abbrev pub counterpart : ℕ → List ℕ → List ℕ → Run → Run
counterpart d L s r = record {
  image = L;
  table = r.table;
  state = s;
  events = shift_events d r.events;
  space = r.space;
}

-- a refused Run has none
unfoldable pub counterparts : ℕ → List ℕ → List ℕ → List Run → List Run
counterparts d L s [] = []
counterparts d L s (r ∷ l) =
    cond (accepted r) (counterpart d L s r ∷ counterparts d L (state_left (counterpart d L s r)) l) (counterparts d L s l)
