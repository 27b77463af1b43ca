-- The number of locks in a set is the count of its ones, and the lowest lock the count of the zeros below them.
use Rattle.std.specs.Prelude.{◌≡◌, refl, Bool, true, false, cond, ℕ, zero, suc, ◌+◌, ◌/◌, ◌%◌, ◌^◌, ◌≤◌, ◌<◌, eqb, ltb}
use Rattle.std.proofs.Common.{sym, ◌∙◌, pow-suc, add-zero, zero-add, div-one, arith, shr-shr}
use Rattle.std.proofs.Math.Option.{none, some}
use Rattle.std.proofs.Math.Arith.{bin_ind}
use Rattle.std.specs.Int.Count.{ones, ones_step, count_trailing_zeros, trailing_of_zero, under}
use Rattle.std.proofs.Math.Dec.{leb-zero, leb-suc-suc}
use borrow.Author.Tests.{lt-ltb, le-ltb}
use Rattle.rules.specs.Sizes.{lock_count}
use Rattle.rules.specs.Bytes.{has, count_from, first_from}
use Rattle.rules.specs.Machine.{locks_held, lowest_held}

half : (set i : ℕ) → set / 2 ^ i / 2 ≡ set / 2 ^ (i + 1)
half set i = shr-shr set i 1

none-counted : ones 0 ≡ 0
unfolding ones
none-counted = refl

digit : (d : ℕ) → d < 2 → cond (eqb d 1) 1 0 ≡ d
digit zero h = refl
digit (suc zero) h = refl
digit (suc (suc d)) h = absurd (omega arith)

-- the locks from i on, of which there are at most k
counted : (set k i : ℕ) → set / 2 ^ i < 2 ^ k → count_from (λ l. has l set) i k ≡ ones (set / 2 ^ i)
unfolding count_from
counted set zero i h =
    let e : set / 2 ^ i ≡ 0 = omega arith in
    rw e (sym none-counted)
counted set (suc k) i h =
    let below : set / 2 ^ (i + 1) < 2 ^ k = rw (← half set i) (omega (arith, rw pow-suc at h)) in
    rw (digit (set / 2 ^ i % 2) (omega arith), counted set k (i + 1) below, ← half set i) (sym (ones_step (set / 2 ^ i)))

pub ones-held : (set : ℕ) → set < 65536 → ones set ≡ locks_held set
unfolding locks_held
ones-held set h = sym (counted set lock_count 0 (rw div-one h) ∙ rw div-one)

found : (set k i : ℕ) → first_from (λ l. has l set) i k ≡ cond (ltb (count_trailing_zeros k (set / 2 ^ i)) k)
    (some (i + count_trailing_zeros k (set / 2 ^ i))) none
unfolding first_from count_trailing_zeros
found set zero i = refl
found set (suc k) i = go (set / 2 ^ i % 2) (omega arith) (count_trailing_zeros k (set / 2 ^ i / 2))
    (rw (← half set i) at (found set k (i + 1)))
  where
    go : (d : ℕ) → d < 2 → (t : ℕ) → first_from (λ l. has l set) (i + 1) k ≡ cond (ltb t k) (some (i + 1 + t)) none
        → cond (eqb d 1) (some i) (first_from (λ l. has l set) (i + 1) k) ≡ cond (ltb (under d t) (suc k)) (some (i + under d t)) none
    go zero h t e = let n : i + 1 + t ≡ i + suc t = omega arith in e ∙ rw (n, leb-suc-suc (suc t) k)
    go (suc zero) h t e = rw (leb-suc-suc 0 k, leb-zero k, add-zero)
    go (suc (suc d)) h t e = absurd (omega arith)

-- the zeros below the lowest lock are fewer than the locks, or there is no lock
module _ (set : ℕ) where
  pub zeros-lowest : count_trailing_zeros lock_count set < lock_count → lowest_held set ≡ some (count_trailing_zeros lock_count set)
  unfolding lowest_held
  zeros-lowest h = found set lock_count 0 ∙ rw (div-one, lt-ltb _ _ h, zero-add)

  pub zeros-none : lock_count ≤ count_trailing_zeros lock_count set → lowest_held set ≡ none
  unfolding lowest_held
  zeros-none h = found set lock_count 0 ∙ rw (div-one, le-ltb _ _ h)

-- a set without a lock is empty
empty : (set : ℕ) → ones set ≡ 0 → set ≡ 0
empty = bin_ind (λ set. ones set ≡ 0 → set ≡ 0) (λ e. refl)
    (λ set rest e. omega (arith, ones_step set, rest (omega (arith, ones_step set))))

pub none-held : (set : ℕ) → set < 65536 → locks_held set ≡ 0 → set ≡ 0
none-held set h e = empty set (ones-held set h ∙ e)

none_first : (f : ℕ → Bool) (i k : ℕ) → first_from f i k ≡ none → count_from f i k ≡ 0
unfolding first_from count_from
none_first f i zero e = refl
none_first f i (suc k) e = go (f i) (none_first f (i + 1) k) e
  where
    go : (b : Bool) → (first_from f (i + 1) k ≡ none → count_from f (i + 1) k ≡ 0) → cond b (some i) (first_from f (i + 1) k) ≡ none
        → cond b 1 0 + count_from f (i + 1) k ≡ 0
    go true rest e = absurd (let z : ◌≡◌ {A = ℕ} 0 1 = cc in omega arith)
    go false rest e = rw (rest e)

pub none-lowest : (set : ℕ) → set < 65536 → lowest_held set ≡ none → set ≡ 0
unfolding lowest_held locks_held
none-lowest set h e = none-held set h (none_first (λ l. has l set) 0 lock_count e)

pub empty-lowest : lowest_held 0 ≡ none
empty-lowest = zeros-none 0 (rw (trailing_of_zero lock_count) (omega arith))
