-- What a step of a running thread comes to, from the effect of its statement.
use Rattle.std.specs.Prelude.{◌≡◌, true, false, ℕ, ◌^◌, length, set}
use Rattle.std.proofs.Math.Path.{refl}
use Rattle.std.proofs.Common.{◌∙◌}
use Rattle.std.proofs.Math.Option.{Option, none, some}
use mathlib.Core.List.{List, ◌++◌, append-nil}
use Rattle.std.specs.Int.Bits.{bit_or}
use Rattle.rules.specs.Sorts
use Rattle.rules.specs.Machine.{Signal, Job, idle, running, Machine, thread_at, first, put, window, keep, with_thread}
use Rattle.rules.specs.Events.{step}
use Rattle.rules.specs.Steps.{Rules, Effect, traps, exits, moves, added, plan_running, plan_step, plan, held, blocked, finished}
use Rattle.rules.specs.Steps.{admitted, lost, attempt, carry, react}
use Rattle.rules.specs.declared.answer.Answer.TheVariants.{Waiting, Moved, Exited, Trapped}
use Rattle.lemmas_step.specs.Same.{keep-window, put_same}
use Rattle.lemmas_step.specs.Events.{reply}

module _ (R : Rules) (s : Machine) (t l : ℕ) (j : Job) (p : List Signal) (runs : thread_at s t ≡ running l j)
    (tree : first t s.trees ≡ some p) where
  abbrev pub block : ℕ
  block = R.block j.label

  -- the effect of the statement at the job's label
  abbrev pub effect : Effect
  effect = R.act t j (window block s.words) (length p)

  by-effect : (e : Effect) → effect ≡ e → react R s (step t) ≡ carry R s (plan_running t block p j.held e)
  unfolding react plan plan_step
  by-effect e h = rw (runs, tree, h) refl

  pub traps-by : (r : ℕ) → effect ≡ traps r → react R s (step t) ≡ reply (finished R t s) (Trapped r)
  traps-by r h = by-effect (traps r) h ∙ unfold carry plan_running in refl

  pub exits_by : effect ≡ exits
      → react R s (step t) ≡ reply (admitted R j.held (finished R t s)) (Exited (length (lost R j.held (finished R t s))))
  exits_by h = by-effect exits h ∙ unfold carry plan_running in refl

  -- the machine after a move: the block's words, the thread with these locks, and its tree's signals
  abbrev moved : ℕ → Job → List ℕ → Option Signal → Machine
  moved locks k ws g = record {
    words = keep block ws s.words;
    threads = set s.threads t (running locks k);
    trees = put t (some (p ++ added g)) s.trees;
  }

  pub moves-by : (k : Job) (ws : List ℕ) (g : Option Signal) → effect ≡ moves k ws g none
      → react R s (step t) ≡ reply (moved l k ws g) Moved
  moves-by k ws g h = by-effect (moves k ws g none) h ∙ unfold carry plan_running blocked attempt in rw runs refl

  -- no word of the block and no signal changes
  pub moves-on : (k : Job) → effect ≡ moves k (window block s.words) none none
      → react R s (step t) ≡ reply (with_thread s t (running l k)) Moved
  moves-on k h =
      moves-by k (window block s.words) none h
      ∙ rw (keep-window block s.words, append-nil p, put_same t p s.trees tree) refl

  module _ (k : Job) (c : ℕ) (h : effect ≡ moves k (window block s.words) none (some c)) where
    pub waits-for : held (R.lock c) (set s.threads t idle) ≡ true → react R s (step t) ≡ reply s (Waiting (Sorts.lock (R.lock c)))
    waits-for e = by-effect (moves k (window block s.words) none (some c)) h ∙ unfold carry plan_running blocked attempt in rw e refl

    pub enters : held (R.lock c) (set s.threads t idle) ≡ false
        → react R s (step t) ≡ reply (with_thread s t (running (bit_or l (2 ^ R.lock c)) k)) Moved
    enters e =
        by-effect (moves k (window block s.words) none (some c)) h
        ∙ unfold carry plan_running blocked attempt in rw
        (e, runs, keep-window block s.words, append-nil p, put_same t p s.trees tree) refl
