-- The laws of tests that are joined, and of tests over runs of numbers.
use Rattle.std.specs.Prelude.{◌≡◌, refl, Bool, true, false, cond, ◌&&◌, ◌||◌, ℕ, zero, suc, ◌+◌, ◌*◌, ◌≤◌, ◌<◌, eqb}
use Rattle.std.proofs.Common.{sym, ap, ◌∙◌, ⊎_elim, add-zero, zero-add, suc-add, eq-or-lt_of_le, arith, eq-eqb, ne_eqb}
use Rattle.std.proofs.Math.Bool.{and_assoc, or_assoc, or-true, or-false}
use Rattle.rules.specs.Bytes.{all_from, any_from, first_bad}
use Rattle.rules.specs.Check.{first_fault}

left : (a b : Bool) → (a && b) ≡ true → a ≡ true
left true b e = refl
left false b e = e

right : (a b : Bool) → (a && b) ≡ true → b ≡ true
right true b e = e
right false b e = absurd (let z : ◌≡◌ {A = ℕ} 0 1 = cc in omega arith)

pub and-swap : (a b c : Bool) → (a && (b && c)) ≡ (b && (a && c))
and-swap true true c = refl
and-swap true false c = refl
and-swap false true c = refl
and-swap false false c = refl

-- two pairs of tests, taken crosswise
pub exchange : (a b c d : Bool) → (a && b && (c && d)) ≡ (a && c && (b && d))
exchange true b c d = and-swap b c d
exchange false b c d = refl

-- a test that holds of a run holds of each number of it, and the other way round
pub all-at : (f : ℕ → Bool) (i n k : ℕ) → all_from f i n ≡ true → i ≤ k → k < i + n → f k ≡ true
unfolding all_from
all-at f i zero k e h l = absurd (omega arith)
all-at f i (suc n) k e h l =
    ⊎_elim (λ p. rw (← p) (left (f i) _ e)) (λ q. all-at f (i + 1) n k (right (f i) _ e) (omega arith) (omega arith)) (eq-or-lt_of_le h)

pub all-holds : (f : ℕ → Bool) (i n : ℕ) → ((k : ℕ) → i ≤ k → k < i + n → f k ≡ true) → all_from f i n ≡ true
unfolding all_from
all-holds f i zero h = refl
all-holds f i (suc n) h = rw (h i (omega arith) (omega arith), all-holds f (i + 1) n (λ k p q. h k (omega arith) (omega arith)))

-- two tests that agree on each number of a run agree on the run
pub all_same : (f g : ℕ → Bool) (i n : ℕ) → ((k : ℕ) → i ≤ k → k < i + n → f k ≡ g k) → all_from f i n ≡ all_from g i n
unfolding all_from
all_same f g i zero h = refl
all_same f g i (suc n) h = rw (h i (omega arith) (omega arith), all_same f g (i + 1) n (λ k p q. h k (omega arith) (omega arith)))

pub all_both : (f g : ℕ → Bool) (i n : ℕ) → all_from (λ k. f k && g k) i n ≡ (all_from f i n && all_from g i n)
unfolding all_from
all_both f g i zero = refl
all_both f g i (suc n) = rw (all_both f g (i + 1) n) (exchange (f i) (g i) (all_from f (i + 1) n) (all_from g (i + 1) n))

pub all_split : (f : ℕ → Bool) (i a b : ℕ) → all_from f i (a + b) ≡ (all_from f i a && all_from f (i + a) b)
unfolding all_from
all_split f i zero b = rw (zero-add, add-zero)
all_split f i (suc a) b =
    let e : i + 1 + a ≡ i + suc a = omega arith in
    rw (suc-add, all_split f (i + 1) a b, and_assoc, e)

pub all-threes : (f : ℕ → Bool) (i n : ℕ) → all_from f (3 * i) (3 * n) ≡ all_from (λ k. f (3 * k) && f (3 * k + 1) && f (3 * k + 2)) i n
unfolding all_from
all-threes f i zero = refl
all-threes f i (suc n) =
    let e : 3 * suc n ≡ suc (suc (suc (3 * n))) = omega arith in
    let two : 3 * i + 1 + 1 ≡ 3 * i + 2 = omega arith in
    let three : 3 * i + 2 + 1 ≡ 3 * (i + 1) = omega arith in
    rw (e, two, three, all-threes f (i + 1) n, and_assoc, and_assoc)

-- a test holds of a run exactly if the search for where it fails comes to the run's end
pub none-bad : (ok : ℕ → Bool) (i n : ℕ) → eqb (first_bad ok i n) (i + n) ≡ all_from ok i n
unfolding first_bad all_from
none-bad ok i zero = eq-eqb i (i + 0) (omega arith)
none-bad ok i (suc n) = go (ok i) (none-bad ok (i + 1) n)
  where
    go : (t : Bool) → eqb (first_bad ok (i + 1) n) (i + 1 + n) ≡ all_from ok (i + 1) n → eqb (cond t (first_bad ok (i + 1) n) i) (i + suc n)
        ≡ (t && all_from ok (i + 1) n)
    go true e = let f : i + suc n ≡ i + 1 + n = omega arith in rw f e
    go false e = ne_eqb i (i + suc n) (λ z. omega arith)

-- a test holds of one of a run's numbers, or of the next
pub any-more : (f : ℕ → Bool) (i n : ℕ) → any_from f i (n + 1) ≡ (any_from f i n || f (i + n))
unfolding any_from
any-more f i zero = rw (add-zero i) (or-false (f i))
any-more f i (suc n) =
    let e : i + 1 + n ≡ i + suc n = omega arith in
    rw (suc-add, any-more f (i + 1) n, e) (sym (or_assoc (f i) (any_from f (i + 1) n) (f (i + suc n))))

-- it holds of one exactly if it does not fail at each
pub any_at : (f : ℕ → Bool) (i n k : ℕ) → f k ≡ true → i ≤ k → k < i + n → any_from f i n ≡ true
unfolding any_from
any_at f i zero k e h l = absurd (omega arith)
any_at f i (suc n) k e h l =
    ⊎_elim (λ p. let g : f i ≡ true = ap f p ∙ e in rw g)
    (λ q. rw (any_at f (i + 1) n k e (omega arith) (omega arith)) (or-true (f i))) (eq-or-lt_of_le h)

pub any_none : (f : ℕ → Bool) (i n : ℕ) → ((k : ℕ) → i ≤ k → k < i + n → f k ≡ false) → any_from f i n ≡ false
unfolding any_from
any_none f i zero h = refl
any_none f i (suc n) h = rw (h i (omega arith) (omega arith), any_none f (i + 1) n (λ k p q. h k (omega arith) (omega arith)))

-- a test that holds at each of n places finds no fault
pub no-fault : (ok : ℕ → Bool) (n number : ℕ) → ((i : ℕ) → i < n → ok i ≡ true) → first_fault ok n number ≡ 0
no-fault ok n number h =
    let e : eqb (first_bad ok 0 n) n ≡ true =
    rw zero-add at (none-bad ok 0 n ∙ all-holds ok 0 n (λ k p q. h k (omega arith)))
    in
    rw e refl
