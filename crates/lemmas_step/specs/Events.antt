-- What an arrival, a cut, and a step of an idle thread come to.
use Rattle.std.specs.Prelude.{◌≡◌, true, false, cond, List, ◌∷◌, ℕ, ◌^◌, set}
use Rattle.std.proofs.Math.Path.{refl}
use Rattle.std.proofs.Common.{◌∙◌}
use Rattle.std.proofs.Math.Option.{none, some}
use Rattle.std.specs.Int.Bits.{bit_or}
use Rattle.rules.specs.Sorts
use Rattle.rules.specs.Machine.{Signal, Job, idle, running, Machine, thread_at, first, put, tree_threads}
use Rattle.rules.specs.Events.{arrive, step, cut}
use Rattle.rules.specs.Steps.{Rules, Reply, Move, begin, home, founded, plan_arrive, plan_idle, plan_step, plan_cut, plan, held, blocked}
use Rattle.rules.specs.Steps.{finished, grown, attempt, carry, react}
use Rattle.rules.specs.declared.answer.Answer.{Answer}
use Rattle.rules.specs.declared.answer.Answer.TheVariants.{Taken, ListFull, NoWork, Waiting, Started, WasCut, NothingToCut}

abbrev pub reply : Machine → Answer → Reply
reply s a = record { state = s; answer = a }

module _ (R : Rules) (s : Machine) where
  -- ---- arrival

  pub arrives : (g : Signal) → R.room (tree_threads s.trees) (home R g) ≡ true
      → react R s (arrive g) ≡ reply (grown (founded R g) s) Taken
  unfolding react plan plan_arrive carry
  arrives g e = rw e refl

  pub turned-away : (g : Signal) → R.room (tree_threads s.trees) (home R g) ≡ false → react R s (arrive g) ≡ reply s ListFull
  unfolding react plan plan_arrive carry
  turned-away g e = rw e refl

  module _ (t : ℕ) where
    -- ---- cut

    pub cut-idle : thread_at s t ≡ idle → react R s (cut t) ≡ reply s NothingToCut
    unfolding react plan plan_cut carry
    cut-idle e = rw e refl

    pub cut-running : (l : ℕ) (j : Job) → thread_at s t ≡ running l j → react R s (cut t) ≡ reply (finished R t s) WasCut
    unfolding react plan plan_cut carry
    cut-running l j e = rw e refl

    -- ---- step, idle thread

    pub no-tree : thread_at s t ≡ idle → first t s.trees ≡ none → react R s (step t) ≡ reply s NoWork
    unfolding react plan plan_step plan_idle carry
    no-tree e f = rw (e, f) refl

    module _ (g : Signal) (p : List Signal) (rests : thread_at s t ≡ idle) (tree : first t s.trees ≡ some (g ∷ p)) where
      abbrev lock : ℕ
      lock = R.lock (R.block g.label)

      start : Move
      start = record { job = begin g; write = none; pending = p; want = some (R.block g.label); answer = Started }

      starts : react R s (step t) ≡ attempt R t start s (cond (held lock (set s.threads t idle)) (some lock) none)
      unfolding react plan plan_step plan_idle carry start blocked
      starts = rw (rests, tree) refl

      pub start-waits : held lock (set s.threads t idle) ≡ true → react R s (step t) ≡ reply s (Waiting (Sorts.lock lock))
      start-waits h = starts ∙ unfold attempt in rw h refl

      pub start-runs : held lock (set s.threads t idle) ≡ false
          → react R s (step t) ≡ reply
          (record {
            words = s.words;
            threads = set s.threads t (running (bit_or 0 (2 ^ lock)) (begin g));
            trees = put t (some p) s.trees;
          }) Started
      start-runs h = starts ∙ unfold attempt start in rw (h, rests) refl
