-- A walk written into bytes, one thread at a time.
use Rattle.std.specs.Prelude.{cond, List, ◌++◌, ℕ, ◌+◌, ◌-◌, length, take, drop}
use Rattle.std.proofs.Math.Option.{Option}
use Rattle.rules.specs.Sizes.{thread_count}
use Rattle.rules.specs.Walk.{Walk, walk_on}

-- what a closed ring adds to the count
abbrev pub ring_count : ℕ
ring_count = 256

-- n threads are in the bytes already, and the rest of the walk is laid behind them
abbrev pub laid_behind : ℕ → List ℕ → Walk → List ℕ
laid_behind n out w = take n out ++ (w.threads ++ drop (n + length w.threads) out)

abbrev pub counted : ℕ → Walk → ℕ
counted n w = n + length w.threads + cond w.ring ring_count 0

-- the rest of the walk, with n threads in the bytes
abbrev pub walk_rest : (ℕ → Option ℕ) → ℕ → List ℕ → ℕ → Walk
walk_rest next n out t = walk_on next (thread_count - n) (take n out) t
