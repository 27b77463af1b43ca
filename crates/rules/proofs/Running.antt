-- What a step of a running thread comes to, once the statement at its label and the values that it reads are known.
use mathlib.Core.Path.{◌≡◌, refl}
use mathlib.Core.Bool.{false≢true}
use mathlib.Core.Option.{Option, none, some}
use mathlib.Core.List.{List, [], ◌∷◌, ◌++◌}
use Prim.Native.Nat.{ℕ, zero, suc, ◌<◌}
use native.Mathlib.Nat.{zero-lt-suc}
use native.Mathlib.Omega.{arith}
use lib.ListN.{length, get_or}
use lib.Seq.{get_or-set_same}
use Rattle.rules.specs.Image.{record_at, label_a, label_b, row_at}
use Rattle.rules.specs.Statements.{statement_of, reads, data_of}
use Rattle.rules.specs.Machine.{Signal, Job, ThreadState, idle, running, Machine, thread_at, first, put, window, keep}
use Rattle.rules.specs.Answers.{code, detail, answer_bytes}
use Rattle.rules.specs.Events.{step}
use Rattle.rules.specs.Effects.{trap, got, Cells, read_all, perform, outcome}
use Rattle.rules.specs.Steps.{Effect, traps, exits, moves, resolve, view, block_at, act_by, rules_by, Reply, added, pending_of}
use Rattle.rules.specs.Steps.{exiting, plan_running, plan_step, plan, blocked, grant, applied, attempt, carry}
use Rattle.rules.specs.Steps.{react}
use Rattle.rules.specs.declared.statement.Statement.{Statement}
use Rattle.rules.specs.declared.answer.Answer.{Answer}
use Rattle.rules.specs.declared.answer.Answer.TheVariants.{Moved, Trapped}

-- the words of the block that a job is in, and its registers beside them
abbrev pub words_of : List ℕ → Machine → Job → List ℕ
words_of image s j = window (block_at image j.label) s.words

abbrev pub cells_of : List ℕ → Machine → Job → Cells
cells_of image s j = record { registers = j.registers; words = words_of image s j }

-- thread t holds these locks and runs this job, at whose label this statement stands; the statement reads these values
pub record Runs (image : List ℕ) (s : Machine) (t locks : ℕ) (j : Job) (x : Statement) (values : List ℕ) : Type 0 where
  pub thread : thread_at s t ≡ running locks j
  pub statement : statement_of (record_at image j.label) ≡ x
  pub reading : read_all (cells_of image s j) (reads x (data_of (record_at image j.label))) ≡ got values

-- the two bytes of an answer
abbrev pub Answered : Reply → ℕ → ℕ → Type 0
Answered reply c d = answer_bytes reply.answer ≡ c ∷ d ∷ []

pub answered : (reply : Reply) (a : Answer) → reply.answer ≡ a → Answered reply (code a) (detail a)
unfolding answer_bytes
answered reply a e = rw e

-- an answer of 6, 0, after which thread t holds these locks and runs this job
pub record MovesOn (reply : Reply) (t locks : ℕ) (j : Job) : Type 0 where
  pub answer : Answered reply 6 0
  pub thread : thread_at reply.state t ≡ running locks j

-- a thread that runs is one of the list
in-range : (ws : List ThreadState) (t : ℕ) {locks : ℕ} {j : Job} → get_or ws t idle ≡ running locks j → t < length ws
in-range [] t e = absurd (false≢true (cc))
in-range (w ∷ ws) zero e = zero-lt-suc (length ws)
in-range (w ∷ ws) (suc t) e = let h : t < length ws = in-range ws t e in omega arith

module _ (image table : List ℕ) (s : Machine) (t : ℕ) (j : Job) where
  -- what a statement that read these values asks for, of the job j on thread t
  abbrev pub effect : Statement → List ℕ → Effect
  effect x values =
      let r = record_at image j.label in
      resolve (block_at image) (row_at table) t j.returns j.held (label_a r) (label_b r)
      (perform (view j (words_of image s j) (length (pending_of (first t s.trees)))) x values)

-- a statement of which an operand cannot be read
pub unread : (image table : List ℕ) (s : Machine) (t locks : ℕ) (j : Job) (x : Statement) (reason : ℕ) → thread_at s t ≡ running locks j
    → statement_of (record_at image j.label) ≡ x
    → read_all (cells_of image s j) (reads x (data_of (record_at image j.label))) ≡ trap reason
    → (react (rules_by image table) s (step t)).answer ≡ Trapped reason
unfolding react plan plan_step plan_running carry act_by outcome
unread image table s t locks j x reason runs statement e = rw (runs, statement, e)

module _ (image table : List ℕ) {s : Machine} {t locks : ℕ} {j : Job} {x : Statement} {values : List ℕ}
    (r : Runs image s t locks j x values) where
  acts : act_by image table t j (words_of image s j) (length (pending_of (first t s.trees))) ≡ effect image table s t j x values
  unfolding act_by outcome
  acts = rw (r.statement, r.reading)

  stepped : react (rules_by image table) s (step t)
      ≡ carry (rules_by image table) s
      (plan_running t (block_at image j.label) (pending_of (first t s.trees)) j.held (effect image table s t j x values))
  unfolding react plan plan_step
  stepped = rw (r.thread, acts)

  -- a trap, and an end
  pub trapped : (reason : ℕ) → effect image table s t j x values ≡ traps reason
      → (react (rules_by image table) s (step t)).answer ≡ Trapped reason
  unfolding plan_running carry
  trapped reason e = rw (stepped, e)

  pub exited : effect image table s t j x values ≡ exits
      → react (rules_by image table) s (step t) ≡ carry (rules_by image table) s (exiting t j.held)
  unfolding plan_running
  exited e = rw (stepped, e)

  -- the job goes on as k, and no other thread holds the lock that it wants
  module _ (k : Job) (words : List ℕ) (g : Option Signal) (want : Option ℕ) (e : effect image table s t j x values ≡ moves k words g want)
      (free : blocked (rules_by image table) t s.threads want ≡ none) where
    moved : react (rules_by image table) s (step t)
        ≡ record {
          state =
              applied (rules_by image table) t
              (record {
                job = k;
                write = some (block_at image j.label, words);
                pending = pending_of (first t s.trees) ++ added g;
                want = want;
                answer = Moved;
              }) s;
          answer = Moved;
        }
    unfolding plan_running carry attempt
    moved = rw (stepped, e, free)

    pub moves-on : MovesOn (react (rules_by image table) s (step t)) t (grant (rules_by image table) want locks) k
    unfolding answer_bytes code detail
    moves-on =
        rw moved
        (record { answer = refl; thread = rw r.thread (get_or-set_same s.threads t _ idle (in-range s.threads t r.thread)) })

    pub own-tree : (react (rules_by image table) s (step t)).state.trees
        ≡ put t (some (pending_of (first t s.trees) ++ added g)) s.trees
    own-tree = rw moved

    pub own-words : (react (rules_by image table) s (step t)).state.words ≡ keep (block_at image j.label) words s.words
    own-words = rw moved
