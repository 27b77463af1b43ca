-- The way back: the calls on a guest's own image that go with calls on the linked image whose arrivals are all the guest's. Each accepted
-- Run has its counterpart there, with the labels taken back in state and events alike.
use Rattle.std.specs.Prelude.{◌≡◌, cond, map, ℕ}
use mathlib.Core.List.{List, [], ◌∷◌}
use Rattle.rules.specs.Order.{ByteEntry}
use Rattle.rules.specs.Calls.{fresh_state}
use Rattle.bytes_fields.specs.Each.{Each}
use Rattle.theorem_serial_calls.specs.CallList.{Run, returned, state_left, accepted, Calls, event_list, events_of}
use Rattle.theorem_guests.specs.Inverse.{unshift_events, OfGuest}

-- every arrival of a list of calls on the linked image is at a label of the guest, which stands d labels in
abbrev pub OnlyGuest : ℕ → List ℕ → List Run → Type 0
OnlyGuest d own runs = Each (OfGuest d own) (events_of (event_list runs))

-- ---- the counterpart of a Run, and of Runs, where s is the state that the call before left on the guest's own image

abbrev pub own_counterpart : ℕ → List ℕ → List ℕ → Run → Run
own_counterpart d own s r = record {
  image = own;
  table = r.table;
  state = s;
  events = unshift_events d r.events;
  space = r.space;
}

-- a refused Run has none
unfoldable pub own_counterparts : ℕ → List ℕ → List ℕ → List Run → List Run
own_counterparts d own s [] = []
own_counterparts d own s (r ∷ l) =
    cond (accepted r) (own_counterpart d own s r ∷ own_counterparts d own (state_left (own_counterpart d own s r)) l)
    (own_counterparts d own s l)

-- the counterparts of Runs on the linked image, after the Fresh of the guest's own
abbrev pub own_runs : ℕ → List ℕ → List ℕ → List ℕ → List ℕ → List Run → List Run
own_runs d own table words state runs = own_counterparts d own (fresh_state own table words state) runs

-- what is claimed of them: they are calls on the guest's own image, each accepted, and their event list is that of the calls on the linked
-- image with the labels taken back
pub record HasOwnCalls (d : ℕ) (own table words state : List ℕ) (runs : List Run) : Type 0 where
  pub calls : Calls own table words state (own_runs d own table words state runs)
  pub accepted : Each (λ r. returned r ≡ 0) (own_runs d own table words state runs)
  pub same : map (λ (n : ByteEntry). n.event) (event_list (own_runs d own table words state runs))
      ≡ map (λ (n : ByteEntry). unshift_events d n.event) (event_list runs)
