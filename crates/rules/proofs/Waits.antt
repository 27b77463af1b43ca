-- What hinders a thread, and the walk along waits, of small examples over any rules.
use mathlib.Core.Path.{◌≡◌, refl}
use mathlib.Core.Bool.{Bool, true, false, ◌||◌, false≢true}
use mathlib.Core.Option.{Option, none, some, Option-elim}
use mathlib.Core.List.{List, [], ◌∷◌, ◌++◌}
use Prim.Native.Nat.{ℕ}
use native.Mathlib.Nat.{div-eq_of_lt}
use native.Mathlib.Decide.{ℕ_discrete}
use lib.ListN.{length, set}
use lib.Pow.{pow_pos}
use Rattle.rules.specs.Sizes.{thread_count}
use Rattle.rules.specs.Bytes.{has}
use Rattle.rules.specs.Sorts
use Rattle.rules.specs.Machine.{Job, ThreadState, idle, running, Machine, locks_of}
use Rattle.rules.specs.Steps.{Rules, Move, move, held, blocked, attempt, carry}
use Rattle.rules.specs.Walk.{mem?, walk_on, walk}
use Rattle.rules.specs.declared.answer.Answer.TheVariants.{Waiting}

-- where no other thread holds a lock, nobody does once the thread between them is idle
free : (l : ℕ) (before after : List ThreadState) (w : ThreadState) → held l before ≡ false → held l after ≡ false
    → held l (set (before ++ w ∷ after) (length before) idle) ≡ false
unfolding held
free l [] after w h k = rw (div-eq_of_lt (pow_pos l)) k
free l (x ∷ before) after w h k = go (has l (locks_of x)) h (λ e. free l before after w e k)
  where
    go : (b : Bool) → b || held l before ≡ false
        → (held l before ≡ false → held l (set (before ++ w ∷ after) (length before) idle) ≡ false)
        → b || held l (set (before ++ w ∷ after) (length before) idle) ≡ false
    go true e f = absurd (false≢true (cc))
    go false e f = f e

pub own-lock : (R : Rules) (b locks : ℕ) (j : Job) (before after : List ThreadState) → held (R.lock b) before ≡ false
    → held (R.lock b) after ≡ false → blocked R (length before) (before ++ running locks j ∷ after) (some b) ≡ none
unfolding blocked
own-lock R b locks j before after h k = rw (free (R.lock b) before after (running locks j) h k)

-- what another thread holds is waited for by its lock, whatever the block's number
pub waits : (R : Rules) (s : Machine) (t b : ℕ) (m : Move) → m.want ≡ some b → held (R.lock b) (set s.threads t idle) ≡ true
    → carry R s (move t m) ≡ record { state = s; answer = Waiting (Sorts.lock (R.lock b)) }
unfolding blocked carry attempt
waits R s t b m e h = rw (e, h)

module _ (next : ℕ → Option ℕ) where
  pub ring : next 1 ≡ some 0 → next 0 ≡ some 1 → walk next thread_count 1 ≡ record { threads = 1 ∷ 0 ∷ []; ring = true }
  unfolding walk walk_on mem? Option-elim ℕ_discrete
  ring e f = rw (e, f) refl

  pub alone : next 2 ≡ none → walk next thread_count 2 ≡ record { threads = 2 ∷ []; ring = false }
  unfolding walk walk_on mem? Option-elim ℕ_discrete
  alone e = rw e refl
