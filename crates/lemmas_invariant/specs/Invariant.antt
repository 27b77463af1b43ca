-- What holds of every machine that events make of a fresh one, and what is then known of an event's plan.
use Rattle.std.specs.Prelude.{◌≡◌, ◌≢◌, ◌⊎◌, List, ℕ, length}
use Rattle.std.proofs.Math.Bool.{true, false}
use Rattle.std.proofs.Math.Option.{Option, none, some}
use Rattle.rules.specs.Sizes.{thread_count}
use Rattle.rules.specs.Bytes.{has}
use Rattle.rules.specs.Machine.{Signal, Job, Machine, thread_at, locks_of, job_of, first}
use Rattle.rules.specs.Answers.{out, now, join, close, sort}
use Rattle.rules.specs.Steps.{Rules, Move, Plan, stay, grow, move, finish, exiting}
use Rattle.lemmas_invariant.specs.Laws.{Needs}

module _ (R : Rules) where
  -- eight threads; no lock in two sets; a running thread holds the locks of its label's and return labels' blocks; and it has a tree
  pub record Invariant (s : Machine) : Type 0 where
    pub size : length s.threads ≡ thread_count
    pub apart : (t u l : ℕ) → t ≢ u → has l (locks_of (thread_at s t)) ≡ true → has l (locks_of (thread_at s u)) ≡ false
    pub keeps : (t : ℕ) (j : Job) → job_of (thread_at s t) ≡ some j → (b : ℕ) → Needs R j b
        → has (R.lock b) (locks_of (thread_at s t)) ≡ true
    pub rooted : (t : ℕ) (j : Job) → job_of (thread_at s t) ≡ some j → (p : List Signal) × (first t s.trees ≡ some p)

  -- what is known of a move that thread t's plan asks for: it has the locks of the blocks that its job needs, or wants them; it holds
  -- the lock of the block that it writes to; and the thread has a tree
  pub record Sound (s : Machine) (t : ℕ) (m : Move) : Type 0 where
    pub owns : (b : ℕ) → Needs R m.job b → (has (R.lock b) (locks_of (thread_at s t)) ≡ true) ⊎ (m.want ≡ some b)
    pub writes : (p : ℕ × List ℕ) → m.write ≡ some p → has (R.lock p.0) (locks_of (thread_at s t)) ≡ true
    pub root : (p : List Signal) × (first t s.trees ≡ some p)

  -- what is known of the plan of an event that names this thread, if it names one, by what the reading does with its answer
  abbrev pub Good : Machine → Option ℕ → Plan → Type 0
  Good s o (stay a) = (sort a ≡ out) ⊎ ((sort a ≡ now) × (o ≡ none))
  Good s o (grow x) = o ≡ none
  Good s o (move t m) = Sound s t m × (o ≡ some t) × (sort m.answer ≡ join)
  Good s o (finish t a) = (o ≡ some t) × (sort a ≡ close)
  Good s o (exiting t gs) = o ≡ some t
