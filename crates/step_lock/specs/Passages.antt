-- What a direct SEND or a CALL comes to once its data have been read: a trap, or its lock.
use Rattle.std.specs.Prelude.{◌≡◌, refl, Bool, cond, ℕ, ltb, set, Result, Ok, Err}
use Rattle.rules.specs.Sorts.{lock, thread}
use Rattle.rules.specs.Sizes.{thread_count}
use Rattle.rules.specs.Bytes.{has}
use Rattle.rules.specs.Image.{Row}
use Rattle.rules.specs.Machine.{Machine, idle}
use Rattle.rules.specs.Steps.{alien}
use Rattle.rules.specs.Walk.{holder}
use Rattle.rules.specs.declared.sorts.Lock.{Lock}
use Rattle.rules.specs.declared.trap.Trap.{Trap}
use Rattle.rules.specs.declared.trap.Trap.TheVariants.{ForeignFdBlock}
use Rattle.step_lock.specs.declared.Passage.{Passage}
use Rattle.step_lock.specs.declared.Passage.TheVariants.{Wait, Go, Own}

-- the other thread that holds the lock of a row, by its number
abbrev pub other_holder : Machine → Row → ℕ → ℕ
other_holder s row t = holder row.lock (set s.threads t idle)

-- by whether the thread itself has the lock, and whether another one, u, holds it
abbrev pub by_lock : Bool → Bool → Lock → ℕ → Passage
by_lock o h l u = cond o Own (cond h (Wait l (thread u)) (Go l))

-- of thread t with the locks `own`: an FD block of another thread, or the block's lock
unfoldable pub passage_to : Machine → Row → ℕ → ℕ → Result Passage Trap
passage_to s row t own =
    cond (alien row t) (Err ForeignFdBlock)
    (Ok (by_lock (has row.lock own) (ltb (other_holder s row t) thread_count) (lock row.lock) (other_holder s row t)))

-- by what its three tests say
pub passage-on : (s : Machine) (row : Row) (t own : ℕ) (a o h : Bool) → alien row t ≡ a → has row.lock own ≡ o
    → ltb (other_holder s row t) thread_count ≡ h
    → passage_to s row t own ≡ cond a (Err ForeignFdBlock) (Ok (by_lock o h (lock row.lock) (other_holder s row t)))
unfolding passage_to
passage-on s row t own a o h e f g = rw (e, f, g)
