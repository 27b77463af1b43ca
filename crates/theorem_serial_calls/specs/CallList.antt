-- "The one-by-one reading" of docs/MACHINE.md: an accepted Fresh and any number of Runs, the event list that they make, and what is
-- claimed of its second order. The calls are those of the law, which the exported calls promise: `fresh_return`, `fresh_state`,
-- `run_return`, `run_state` and `run_answers`.
use Rattle.std.specs.Prelude.{◌≡◌, Bool, cond, List, [], ◌∷◌, ◌++◌, map, ℕ}
use Rattle.rules.specs.Machine.{Signal}
use Rattle.rules.specs.Encoding.{encode, machine_from}
use Rattle.rules.specs.Events.{Event, event_from, events_in}
use Rattle.rules.specs.Answers.{answer_bytes}
use Rattle.rules.specs.Steps.{rules_by, answers, final}
use Rattle.rules.specs.Order.{ByteEntry, byte_entries, byte_order, Entry, order, log}
use Rattle.rules.specs.Calls.{accepts, fresh_return, fresh_state, run_return, run_state, run_answers}
use Rattle.bytes_fields.specs.Each.{Each}
use Rattle.lemmas_encoding.specs.Numbers.{AreBytes}

-- ---- a Run

-- what it is handed: image, block table, state, events, and the bytes lent for the answers
pub record Run : Type 0 where
  pub image : List ℕ
  pub table : List ℕ
  pub state : List ℕ
  pub events : List ℕ
  pub space : List ℕ

-- what it returns, and what it leaves in the state and in the answers
abbrev pub returned : Run → ℕ
returned r = run_return r.image r.table r.state r.events r.space

abbrev pub state_left : Run → List ℕ
state_left r = run_state r.image r.table r.state r.events r.space

abbrev pub answers_left : Run → List ℕ
answers_left r = run_answers r.image r.table r.state r.events r.space

abbrev pub accepted : Run → Bool
accepted r = accepts (returned r)

-- ---- Runs, one after the other

-- the state that the last accepted call left, where s is what the accepted call before this Run left. A refused Run, whatever it was
-- handed, is passed over
abbrev pub next : List ℕ → Run → List ℕ
next s r = cond (accepted r) (state_left r) s

-- the same of any number of Runs
unfoldable pub last_left : List ℕ → List Run → List ℕ
last_left s [] = s
last_left s (r ∷ l) = last_left (next s r) l

-- a Run has Fresh's image and block table, and the state that the accepted call before it left; its events and answers are its own
pub record GoesOn (image table s : List ℕ) (r : Run) : Type 0 where
  pub same_image : r.image ≡ image
  pub same_table : r.table ≡ table
  pub same_state : r.state ≡ s

-- each accepted Run does; of a refused one nothing is asked
unfoldable pub Follow : List ℕ → List ℕ → List ℕ → List Run → Type 0
Follow image table s [] = Unit {0}
Follow image table s (r ∷ l) = (returned r ≡ 0 → GoesOn image table s r) × Follow image table (next s r) l

-- what is lent for events is bytes. (Of the other numbers lent nothing is asked.)
abbrev pub EventsAreBytes : Run → Type 0
EventsAreBytes r = AreBytes r.events

-- a list of calls: an accepted Fresh, then any number of Runs
pub record Calls (image table words state : List ℕ) (runs : List Run) : Type 0 where
  pub fresh : fresh_return image table words state ≡ 0
  pub follow : Follow image table (fresh_state image table words state) runs
  pub bytes : Each EventsAreBytes runs

-- ---- the event list and its answers

-- a refused Run counts no event
unfoldable pub entries_of : Run → List ByteEntry
entries_of r = cond (accepted r) (byte_entries (events_in r.events) r.events (answers_left r)) []

-- the events of the accepted Runs, joined in call order, each with its answer
unfoldable pub event_list : List Run → List ByteEntry
event_list [] = []
event_list (r ∷ l) = entries_of r ++ event_list l

-- ---- the claim

-- the events of entries, and their two answer bytes
abbrev pub events_of : List ByteEntry → List Event
events_of l = map (λ (n : ByteEntry). event_from n.event) l

abbrev pub answers_of : List ByteEntry → List (List ℕ)
answers_of l = map (λ (n : ByteEntry). n.answer) l

-- what each of the events of a log lost
abbrev pub losses_of : List Entry → List (List Signal)
losses_of l = map (λ (n : Entry). n.lost) l

-- the second order's events, carried out by the rules from the state that Fresh left, leave the very state bytes that the last accepted
-- call left, each gets the same two answer bytes as in the event list, and each loses the very signals that it loses there
pub record OneByOneCalls (image table start : List ℕ) (runs : List Run) : Type 0 where
  pub state : encode (final (rules_by image table) (machine_from start) (events_of (byte_order (event_list runs)))) ≡ last_left start runs
  pub answers : map answer_bytes (answers (rules_by image table) (machine_from start) (events_of (byte_order (event_list runs))))
      ≡ answers_of (byte_order (event_list runs))
  pub lost : losses_of (log (rules_by image table) (machine_from start) (events_of (byte_order (event_list runs))))
      ≡ losses_of (order (log (rules_by image table) (machine_from start) (events_of (event_list runs))))

-- without events both are Fresh's state
pub record NoChange (image table start : List ℕ) (runs : List Run) : Type 0 where
  pub called : last_left start runs ≡ start
  pub ordered : encode (final (rules_by image table) (machine_from start) (events_of (byte_order (event_list runs)))) ≡ start
