-- Lists of numbers with none twice.
use Rattle.std.specs.Prelude.{◌≡◌, ◌⊎◌, ◌≢◌, Bool, false, length}
use Rattle.std.proofs.Math.Path.{refl}
use Rattle.std.proofs.Common.{sym, ◌∙◌, subst, inl, inr, arith}
use Rattle.std.proofs.Math.Logic.{ite, if_neg, if_pos}
use Rattle.std.proofs.Math.Bool.{true, cond}
use mathlib.Core.List.Memᴰ
use mathlib.Core.List.{List, [], ◌∷◌, ◌++◌, Memᴰ}
use Prim.Native.Nat.{ℕ, zero, suc, ◌+◌, ◌<◌, ◌≤◌}
use Rattle.std.proofs.Math.Decide.{ℕ_discrete}

abbrev pub Distinct : List ℕ → Type 0
Distinct [] = Unit {0}
Distinct (x ∷ l) = (Memᴰ x l → ⊥) × Distinct l

-- how many numbers below n pass a test
unfoldable pub count : (ℕ → Bool) → ℕ → ℕ
count p zero = 0
count p (suc n) = cond (p n) 1 0 + count p n

-- the test, failed by x too
abbrev without : ℕ → (ℕ → Bool) → ℕ → Bool
without x p k = ite (ℕ_discrete k x) false (p k)

module _ (x : ℕ) (p : ℕ → Bool) where
  without_other : (k : ℕ) → k ≢ x → without x p k ≡ p k
  without_other k h = if_neg (ℕ_discrete k x) h _ _

  without-same : (k : ℕ) → k ≡ x → without x p k ≡ false
  without-same k h = if_pos (ℕ_discrete k x) h _ _

  count-below : (n : ℕ) → n ≤ x → count (without x p) n ≡ count p n
  unfolding count
  count-below zero h = refl
  count-below (suc n) h = rw (without_other n (omega arith), count-below n (omega arith)) refl

  count-without : (n : ℕ) → x < n → p x ≡ true → count p n ≡ suc (count (without x p) n)
  unfolding count
  count-without zero h e = absurd (omega arith)
  count-without (suc n) h e = go (ℕ_discrete n x) (count-without n)
    where
      go : Dec (n ≡ x) → (x < n → p x ≡ true → count p n ≡ suc (count (without x p) n))
          → cond (p n) 1 0 + count p n ≡ suc (cond (without x p n) 1 0 + count (without x p) n)
      go (yes q) ih = rw (without-same n q, q, e, count-below x (omega arith)) (omega arith)
      go (no q) ih = rw (without_other n q, ih (omega arith) e) (omega arith)

-- so many different numbers pass the test
pub distinct-count : (p : ℕ → Bool) (n : ℕ) (l : List ℕ) → Distinct l → ((x : ℕ) → Memᴰ x l → (x < n) × (p x ≡ true))
    → length l ≤ count p n
distinct-count p n [] d h = omega arith
distinct-count p n (x ∷ l) d h =
    let k = h x (Memᴰ.head refl) in
    let e : count p n ≡ suc (count (without x p) n) = count-without x p n k.0 k.1 in
    let i : length l ≤ count (without x p) n =
    distinct-count (without x p) n l d.1
    (λ y m. (
      (h y (Memᴰ.tail m)).0,
      without_other x p y (λ q. d.0 (subst (λ (z : ℕ). Memᴰ z l) q m))
          ∙ (h y (Memᴰ.tail m)).1,
    ))
    in
    omega arith

unfoldable all : ℕ → Bool
all k = true

count-all : (n : ℕ) → count all n ≡ n
unfolding count all
count-all zero = refl
count-all (suc n) = rw (count-all n) (omega arith)

pub distinct-short : (n : ℕ) (l : List ℕ) → Distinct l → ((x : ℕ) → Memᴰ x l → x < n) → length l ≤ n
unfolding all
distinct-short n l d h = omega (arith, distinct-count all n l d (λ x m. (h x m, refl)), count-all n)

pub cons-cases : {P : ℕ → Type 0} (t : ℕ) (l : List ℕ) → P t → ((x : ℕ) → Memᴰ x l → P x) → (x : ℕ) → Memᴰ x (t ∷ l) → P x
cons-cases {P} t l h k x m = go (Memᴰ.cases_cons m)
  where
    go : (x ≡ t) ⊎ Memᴰ x l → P x
    go (inl e) = subst P (sym e) h
    go (inr q) = k x q

pub snoc-cases : {P : ℕ → Type 0} (t : ℕ) (l : List ℕ) → P t → ((x : ℕ) → Memᴰ x l → P x) → (x : ℕ) → Memᴰ x (l ++ t ∷ []) → P x
snoc-cases {P} t l h k x m = go (Memᴰ.append_cases l m)
  where
    go : Memᴰ x l ⊎ Memᴰ x (t ∷ []) → P x
    go (inl q) = k x q
    go (inr q) = subst P (sym (Memᴰ.eq_of_singleton q)) h

pub distinct_snoc : (l : List ℕ) (t : ℕ) → Distinct l → (Memᴰ t l → ⊥) → Distinct (l ++ t ∷ [])
distinct_snoc [] t d h = (λ k. Memᴰ.not-nil k, tt)
distinct_snoc (x ∷ l) t d h = (λ k. go (Memᴰ.append_cases l k), distinct_snoc l t d.1 (λ k. h (Memᴰ.tail k)))
  where
    go : Memᴰ x l ⊎ Memᴰ x (t ∷ []) → ⊥
    go (inl q) = d.0 q
    go (inr q) = h (Memᴰ.head (sym (Memᴰ.eq_of_singleton q)))
