-- "The one-by-one reading": the second order of an event list, made from the events and their answers, and from nothing else. In the
-- field's terms it is a serial order of the jobs, and demand 3 is serializability: the serial order leaves the same state and answers.
use mathlib.Core.List.{List, [], ◌∷◌, ◌++◌, flatten}
use Rattle.std.specs.Prelude.{ℕ, zero, suc, get_or, set, replicate, take, drop}
use Rattle.rules.specs.Sizes.{thread_count, event_thread_place, event_size, answer_size}
use Rattle.rules.specs.Machine.{Signal, Machine}
use Rattle.rules.specs.Events.{Event, arrive, turn}
use Rattle.rules.specs.Answers.{Sort, out, now, join, close, sort, sort_of_code}
use Rattle.rules.specs.Steps.{Rules, Plan, stay, grow, move, finish, exiting, finished, lost, plan, react}
use Rattle.rules.specs.declared.answer.Answer.{Answer}

-- what is written out, and a row for each thread
pub record Sheet (A : Type 0) : Type 0 where
  pub written : List A
  pub rows : List (List A)

-- over anything that has the sort of an answer and the thread of an event: values and bytes alike
module _ {A : Type 0} where
  -- an event answered 3, 4 or 10 is left out; an arrival is written out at once; any other joins its thread's row, and if a job ended the
  -- row is
  -- written out in its order and is empty again
  unfoldable pub note_as : Sort → ℕ → Sheet A → A → Sheet A
  note_as out t h n = h
  note_as now t h n = record { written = h.written ++ n ∷ []; rows = h.rows }
  note_as join t h n = record { written = h.written; rows = set h.rows t (get_or h.rows t [] ++ n ∷ []) }
  note_as close t h n = record { written = h.written ++ (get_or h.rows t [] ++ n ∷ []); rows = set h.rows t [] }

  unfoldable pub notes_by : (A → Sort) → (A → ℕ) → Sheet A → List A → Sheet A
  notes_by f g h [] = h
  notes_by f g h (n ∷ l) = notes_by f g (note_as (f n) (g n) h n) l

  -- each thread has a row of events, at first empty
  abbrev pub blank : Sheet A
  blank = record { written = []; rows = replicate thread_count [] }

  -- after the last event the rows left are written out, thread 0 to thread 7
  abbrev pub spread : Sheet A → List A
  spread h = h.written ++ flatten h.rows

  unfoldable pub order_by : (A → Sort) → (A → ℕ) → List A → List A
  order_by f g l = spread (notes_by f g blank l)

-- ---- of values

-- an event, its answer, and the signals that it lost: none but at an EXIT. The second order goes by the event and the answer alone
pub record Entry : Type 0 where
  pub event : Event
  pub answer : Answer
  pub lost : List Signal

-- the thread whose row an event joins (an arrival joins none)
abbrev pub row_of : Event → ℕ
row_of (arrive g) = 0
row_of (turn k t) = t

unfoldable pub order : List Entry → List Entry
order l = order_by (λ (n : Entry). sort n.answer) (λ (n : Entry). row_of n.event) l

abbrev pub events : List Entry → List Event
events [] = []
events (n ∷ l) = n.event ∷ events l

-- events carried out from a machine, each with its answer and what it lost
module _ (R : Rules) where
  abbrev pub lost_in : Machine → Plan → List Signal
  lost_in s (stay a) = []
  lost_in s (grow x) = []
  lost_in s (move t m) = []
  lost_in s (finish t a) = []
  lost_in s (exiting t gs) = lost R gs (finished R t s)

  abbrev pub lost_by : Machine → Event → List Signal
  lost_by s e = lost_in s (plan R s e)

  unfoldable pub log : Machine → List Event → List Entry
  log s [] = []
  log s (e ∷ l) = record { event = e; answer = (react R s e).answer; lost = lost_by s e } ∷ log (react R s e).state l

-- ---- of bytes

-- an event's 55 bytes and its answer's 2
pub record ByteEntry : Type 0 where
  pub event : List ℕ
  pub answer : List ℕ

-- m events with their answers
unfoldable pub byte_entries : ℕ → List ℕ → List ℕ → List ByteEntry
byte_entries zero events answers = []
byte_entries (suc m) events answers =
    record { event = take event_size events; answer = take answer_size answers } ∷ byte_entries m (drop event_size events)
    (drop answer_size answers)

unfoldable pub byte_order : List ByteEntry → List ByteEntry
byte_order l = order_by (λ (n : ByteEntry). sort_of_code (get_or n.answer 0 0)) (λ (n : ByteEntry). get_or n.event event_thread_place 0) l
