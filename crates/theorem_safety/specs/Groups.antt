-- One lock guards several blocks, a group. A thread that holds the lock, through whatever block of the group, enters each of them without
-- waiting, and its lock set stays as it is: `enters-with-its-lock`, `lock-set-stays`. Any other thread that wants one of them waits for
-- the lock, and nothing changes: `waits-for-the-lock`. A job holds the lock of a group as long as it needs one of its blocks:
-- `holds-the-group`.
use Rattle.std.specs.Prelude.{◌≡◌, ◌≢◌, true, List, ℕ, ◌<◌}
use Rattle.std.proofs.Math.Path.{refl}
use Rattle.std.proofs.Common.{sym, ap, ◌∙◌}
use Rattle.std.proofs.Math.Option.{none, some}
use Rattle.rules.specs.Sorts
use Rattle.rules.specs.Sizes.{thread_count}
use Rattle.rules.specs.Bytes.{has}
use Rattle.rules.specs.Machine.{Signal, Job, running, Machine, thread_at, locks_of, job_of, first}
use Rattle.rules.specs.Events.{step}
use Rattle.rules.specs.Steps.{Rules, Effect, traps, exits, moves, Move, move, pending_of, Reply, plan_running, plan_step, plan, blocked}
use Rattle.rules.specs.Steps.{applied, attempt, carry, react}
use Rattle.rules.specs.declared.answer.Answer.TheVariants.{Waiting, Moved}
use Rattle.lemmas_rules.specs.Logic.{never}
use Rattle.lemmas_rules.specs.Locks.{grant-again, clear-blocked, blocked-by}
use Rattle.lemmas_invariant.specs.Happens.{effect_of}
use Rattle.lemmas_invariant.specs.Laws.{Needs, Laws}
use Rattle.lemmas_invariant.specs.Invariant.{Invariant}
use Rattle.lemmas_invariant.proofs.Invariant.{at-mover}

-- the next step of thread t makes this move, once it has the lock of block b
pub record Wants (R : Rules) (s : Machine) (t b : ℕ) (m : Move) : Type 0 where
  pub planned : plan R s (step t) ≡ move t m
  pub block : m.want ≡ some b

-- the move of a running thread's step is answered 6
moved : (t b : ℕ) (p gs : List Signal) (e : Effect) (m : Move) → plan_running t b p gs e ≡ move t m → m.answer ≡ Moved
unfolding plan_running
moved t b p gs (traps r) m h = never (cc)
moved t b p gs exits m h = never (cc)
moved t b p gs (moves j words g want) m h = cc

module _ (R : Rules) (L : Laws R) (s : Machine) (i : Invariant R s) where
  -- A JOB HOLDS THE LOCK OF A GROUP AS LONG AS IT NEEDS ONE OF ITS BLOCKS: its label or a return label is in that block
  pub holds-the-group : (t b c locks : ℕ) (j : Job) → thread_at s t ≡ running locks j → Needs R j b → R.lock b ≡ R.lock c
      → has (R.lock c) locks ≡ true
  holds-the-group t b c locks j runs needs group =
      rw (← group) (ap (λ k. has (R.lock b) k) (sym (ap locks_of runs)) ∙ i.keeps t j (ap job_of runs) b needs)

  mine : (t c locks : ℕ) (j : Job) → thread_at s t ≡ running locks j → has (R.lock c) locks ≡ true
      → has (R.lock c) (locks_of (thread_at s t)) ≡ true
  mine t c locks j runs own = ap (λ k. has (R.lock c) k) (ap locks_of runs) ∙ own

  -- a thread that holds the lock of the block that it wants moves on
  enters : (t c locks : ℕ) (j : Job) (m : Move) → thread_at s t ≡ running locks j → has (R.lock c) locks ≡ true → Wants R s t c m
      → react R s (step t) ≡ record { state = applied R t m s; answer = Moved }
  unfolding react carry attempt plan plan_step
  enters t c locks j m runs own wants =
      let answer : m.answer ≡ Moved = moved t (R.block j.label) (pending_of (first t s.trees)) j.held (effect_of R s t j) m
      (rw runs at wants.planned) in
      let free : blocked R t s.threads (some c) ≡ none =
      clear-blocked R s.threads t (some c) (λ d e k n.
      let g : c ≡ d = cc in rw (← g) (i.apart t k (R.lock c) (λ f. n (sym f)) (mine t c locks j runs own))) in
      rw (wants.planned, wants.block, free, answer) refl

  module _ (t c locks : ℕ) (j : Job) (m : Move) (inside : t < thread_count) (runs : thread_at s t ≡ running locks j)
      (own : has (R.lock c) locks ≡ true) (wants : Wants R s t c m) where
    -- A BLOCK WHOSE LOCK THE THREAD HOLDS, BE IT THROUGH ANOTHER BLOCK OF THE GROUP, IS ENTERED WITHOUT WAITING
    pub enters-with-its-lock : react R s (step t) ≡ record { state = applied R t m s; answer = Moved }
    enters-with-its-lock = enters t c locks j m runs own wants

    -- AND ITS LOCK SET STAYS AS IT IS
    pub lock-set-stays : locks_of (thread_at (react R s (step t)).state t) ≡ locks
    lock-set-stays =
        ap (λ (r : Reply). locks_of (thread_at r.state t)) (enters t c locks j m runs own wants)
        ∙ ap locks_of (at-mover R L s t m i inside)
        ∙ rw wants.block (grant-again R c (locks_of (thread_at s t)) (mine t c locks j runs own))
        ∙ ap locks_of runs

  -- A THREAD THAT WANTS A BLOCK WHOSE LOCK ANOTHER HOLDS, THROUGH WHATEVER BLOCK OF THE GROUP, WAITS FOR THE LOCK
  pub waits-for-the-lock : (t u c : ℕ) (m : Move) → u ≢ t → has (R.lock c) (locks_of (thread_at s u)) ≡ true → Wants R s t c m
      → react R s (step t) ≡ record { state = s; answer = Waiting (Sorts.lock (R.lock c)) }
  unfolding react carry attempt
  waits-for-the-lock t u c m n held w = rw (w.planned, w.block, blocked-by R s.threads t u c n held) refl
