-- A row is one job: it begins with an event answered 5, goes on with events answered 6, and is written out with the next event of its
-- thread answered 7, 8 or 9, or is unfinished: `one-job-a-row`, at the end.
use Rattle.std.specs.Prelude.{◌≡◌, ◌≢◌, ◌⊎◌, ℕ, length, get_or}
use Rattle.std.proofs.Math.Option.{none, some}
use mathlib.Core.List.{List, [], ◌∷◌, ◌++◌}
use Rattle.rules.specs.Sizes.{thread_count}
use Rattle.rules.specs.Machine.{ThreadState, idle, running, Machine, thread_at}
use Rattle.rules.specs.Events.{Event, thread_of}
use Rattle.rules.specs.Answers.{Sort, out, now, join, close, sort}
use Rattle.rules.specs.Order.{Sheet, Entry}
use Rattle.rules.specs.declared.answer.Answer.{Answer}
use Rattle.rules.specs.declared.answer.Answer.TheVariants.{Started, Moved}

-- events of thread t, all answered 6
abbrev pub AllMoved : ℕ → List Entry → Type 0
AllMoved t [] = Unit {0}
AllMoved t (n ∷ r) = (n.answer ≡ Moved) × (thread_of n.event ≡ some t) × AllMoved t r

-- the events of a job that runs on thread t: the first is answered 5, the others 6
abbrev pub Open : ℕ → List Entry → Type 0
Open t [] = ⊥
Open t (n ∷ r) = (n.answer ≡ Started) × (thread_of n.event ≡ some t) × AllMoved t r

-- what is written out: arrivals, answered 1 or 2, and whole jobs, ended by an event of their thread answered 7, 8 or 9
pub data Jobs : List Entry → Type 0 where
  nothing : Jobs []
  arrival : (l : List Entry) (n : Entry) → Jobs l → sort n.answer ≡ now → thread_of n.event ≡ none → Jobs (l ++ n ∷ [])
  job : (t : ℕ) (l r : List Entry) (n : Entry) → Jobs l → Open t r → sort n.answer ≡ close → thread_of n.event ≡ some t
      → Jobs (l ++ (r ++ n ∷ []))

-- thread t's row: empty if the thread is idle, else the events of its job
abbrev pub Row : ℕ → ThreadState → List Entry → Type 0
Row t idle r = r ≡ []
Row t (running locks j) r = Open t r

pub record JobRows (h : Sheet Entry) (s : Machine) : Type 0 where
  pub written : Jobs h.written
  pub eight : length h.rows ≡ thread_count
  pub rows : (t : ℕ) → Row t (thread_at s t) (get_or h.rows t [])

-- ---- what an event does to its thread

abbrev pub Running : ThreadState → Type 0
Running idle = ⊥
Running (running locks j) = Unit {0}

-- answer 5 goes to an idle thread, answer 6 to a running one
abbrev pub Continues : Answer → ThreadState → Type 0
Continues a w = ((a ≡ Started) × (w ≡ idle)) ⊎ ((a ≡ Moved) × Running w)

-- thread t alone has changed
abbrev pub Others : Machine → ℕ → Machine → Type 0
Others s t s' = (k : ℕ) → k ≢ t → thread_at s' k ≡ thread_at s k

-- by what the reading does with the answer to an event e that joins row t
abbrev pub Turn : Machine → Event → ℕ → Machine → Answer → Sort → Type 0
Turn s e t s' a out = (k : ℕ) → thread_at s' k ≡ thread_at s k
Turn s e t s' a now = ((k : ℕ) → thread_at s' k ≡ thread_at s k) × (thread_of e ≡ none)
Turn s e t s' a join = Continues a (thread_at s t) × Running (thread_at s' t) × Others s t s' × (thread_of e ≡ some t)
Turn s e t s' a close = Running (thread_at s t) × (thread_at s' t ≡ idle) × Others s t s' × (thread_of e ≡ some t)
