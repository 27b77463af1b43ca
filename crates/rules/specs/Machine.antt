-- "The state", as values: shared words, threads and job trees.
use Rattle.std.proofs.Math.Logic.{ite}
use Rattle.std.proofs.Math.Option.{Option, none, some}
use Rattle.std.specs.Prelude.{List, [], ◌∷◌, ◌++◌, map, ℕ, zero, suc, ◌*◌, ◌-◌, length, get_or, set, replicate}
use Rattle.std.proofs.Math.Decide.{ℕ_discrete}
use Rattle.rules.specs.Sizes.{thread_count, lock_count, word_count, register_count}
use Rattle.rules.specs.Bytes.{has, count_from, first_from}

-- a signal: the label that it goes to, and its values
pub record Signal : Type 0 where
  pub label : ℕ
  pub values : List ℕ

-- a job tree: its thread, and its pending signals, oldest first
pub record Tree : Type 0 where
  pub thread : ℕ
  pub pending : List Signal

-- a job that runs: its label, its return labels, oldest first, its registers, of which some are absent, and the signals that it holds
-- for new trees, oldest first
pub record Job : Type 0 where
  pub label : ℕ
  pub returns : List ℕ
  pub registers : List (Option ℕ)
  pub held : List Signal

-- a job that holds no signal, and a job with other signals held
abbrev pub job : ℕ → List ℕ → List (Option ℕ) → Job
job label returns registers = record { label = label; returns = returns; registers = registers; held = [] }

abbrev pub with_held : List Signal → Job → Job
with_held gs j = record { label = j.label; returns = j.returns; registers = j.registers; held = gs }

-- a thread is idle, or runs a job and holds a set of locks
pub data ThreadState : Type 0 where
  idle : ThreadState
  running : ℕ → Job → ThreadState

-- word w of block b is number 16 × b + w of the words; thread t is number t of the threads; the trees stand in list order
pub record Machine : Type 0 where
  pub words : List ℕ
  pub threads : List ThreadState
  pub trees : List Tree

-- a machine with another state of thread t
abbrev pub with_thread : Machine → ℕ → ThreadState → Machine
with_thread s t w = record { words = s.words; threads = set s.threads t w; trees = s.trees }

abbrev pub thread_at : Machine → ℕ → ThreadState
thread_at s t = get_or s.threads t idle

-- the signals that a thread's job holds; an idle thread holds none
abbrev pub held_of : ThreadState → List Signal
held_of idle = []
held_of (running locks j) = j.held

abbrev pub locks_of : ThreadState → ℕ
locks_of idle = 0
locks_of (running locks j) = locks

abbrev pub job_of : ThreadState → Option Job
job_of idle = none
job_of (running locks j) = some j

-- the number of locks held is the ones in the lock set; the lowest lock held is the first of them
unfoldable pub locks_held : ℕ → ℕ
locks_held locks = count_from (λ l. has l locks) 0 lock_count

unfoldable pub lowest_held : ℕ → Option ℕ
lowest_held locks = first_from (λ l. has l locks) 0 lock_count

-- a fresh machine has all threads idle, no trees, and the initial words
unfoldable pub fresh : List ℕ → Machine
fresh words = record { words = words; threads = replicate thread_count idle; trees = [] }

-- ---- registers

-- the k values in registers 0 to k - 1; the rest absent
abbrev pub fill : List ℕ → List (Option ℕ)
fill values = map some values ++ replicate (register_count - length values) none

-- ---- a thread's queue: the trees with its number, in list order

unfoldable pub queue : ℕ → List Tree → List Tree
queue t [] = []
queue t (x ∷ l) = ite (ℕ_discrete x.thread t) (x ∷ queue t l) (queue t l)

-- the pending signals of thread t's first tree, if there is one
unfoldable pub first : ℕ → List Tree → Option (List Signal)
first t [] = none
first t (x ∷ l) = ite (ℕ_discrete x.thread t) (some x.pending) (first t l)

-- thread t's first tree gets these pending signals, or leaves the list
abbrev pub refit : ℕ → Option (List Signal) → List Tree → List Tree
refit t none l = l
refit t (some p) l = record { thread = t; pending = p } ∷ l

unfoldable pub put : ℕ → Option (List Signal) → List Tree → List Tree
put t p [] = []
put t p (x ∷ l) = ite (ℕ_discrete x.thread t) (refit t p l) (x ∷ put t p l)

-- the threads of the trees, in list order
abbrev pub tree_threads : List Tree → List ℕ
tree_threads l = map (λ (x : Tree). x.thread) l

-- ---- the 16 shared words of one block, read and written

unfoldable pub cells : ℕ → ℕ → List ℕ → List ℕ
cells zero i words = []
cells (suc n) i words = get_or words i 0 ∷ cells n (suc i) words

unfoldable pub stores : ℕ → ℕ → List ℕ → List ℕ → List ℕ
stores zero i values words = words
stores (suc n) i [] words = words
stores (suc n) i (v ∷ values) words = set (stores n (suc i) values words) i v

unfoldable pub window : ℕ → List ℕ → List ℕ
window b words = cells word_count (word_count * b) words

unfoldable pub keep : ℕ → List ℕ → List ℕ → List ℕ
keep b values words = stores word_count (word_count * b) values words
