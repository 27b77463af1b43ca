-- What an accepted walk returns and writes, told of the number returned, of the eight bytes and of whom a thread waits for, and of
-- nothing else: `WalkCall`. proofs/WalkCall has the proof, `walk_call`.
use Rattle.std.specs.Prelude.{◌≡◌, ◌≢◌, ℕ, suc, ◌-◌, ◌%◌, ◌≤◌, ◌<◌, length}
use Rattle.std.proofs.Math.Option.{Option, none, some}
use mathlib.Core.List.{List}
use Rattle.std.proofs.Math.ListN.{get_or}
use Rattle.rules.specs.Sizes.{thread_count}
use Rattle.lemmas_walk.specs.Met.{written}

-- the last thread written waits for one already written
pub record Ring (next : ℕ → Option ℕ) (met : List ℕ) : Type 0 where
  pub place : ℕ
  pub before : place < written met
  pub closes : next (get_or met (written met - 1) 0) ≡ some (get_or met place 0)

-- from thread t, with this number returned and these bytes written
pub record WalkCall (next : ℕ → Option ℕ) (t returned : ℕ) (met : List ℕ) : Type 0 where
  pub size : length met ≡ thread_count
  -- the count is the number of bytes below 255; the others are behind them
  pub count : returned % 256 ≡ written met
  pub threads : (i : ℕ) → i < written met → get_or met i 0 < thread_count
  pub unused : (i : ℕ) → written met ≤ i → i < thread_count → get_or met i 0 ≡ 255
  -- first to last: t, and then each time the thread that the one before it waits for
  pub some_written : 0 < written met
  pub first : get_or met 0 0 ≡ t
  pub follows : (i : ℕ) → suc i < written met → next (get_or met i 0) ≡ some (get_or met (suc i) 0)
  -- no thread is written twice
  pub once : (i k : ℕ) → i < written met → k < written met → i ≢ k → get_or met i 0 ≢ get_or met k 0
  -- 256 more exactly if a ring closed; otherwise the last does not wait
  pub reported : 256 ≤ returned → Ring next met
  pub closed : Ring next met → 256 ≤ returned
  pub ends : returned < 256 → next (get_or met (written met - 1) 0) ≡ none
