-- A sum of operand count and four times the operator stands for one count and one operator, where other bits are zero.
use mathlib.Core.Path.{◌≡◌, refl}
use mathlib.Core.Bool.{Bool, true, false, cond, not, ◌&&◌, and-true, and-false}
use Prim.Native.Nat.{ℕ, ◌+◌, ◌*◌, ◌%◌, ◌<◌}
use native.Mathlib.Omega.{arith}
use lib.Dec.{eqb, ltb}
use borrow.Author.Tests.{eqb-true, ltb-true, ltb-false}
use Rattle.rules.specs.Bytes.{has, all_from}
use Rattle.bytes_fields.specs.Bits.{all-bits, below_power}
use Rattle.bytes_fields.specs.Marked.{clear}
use Rattle.bytes_fields.specs.Runs.{all-at}
use Rattle.lemmas_rules.specs.Logic.{not-true}

abbrev pub same : Bool → Bool → Bool
same a b = cond a b (not b)

same_true : (a b : Bool) → same a b ≡ true → a ≡ b
same_true true true e = refl
same_true true false e = absurd (let z : ◌≡◌ {A = ℕ} 0 1 = cc in omega arith)
same_true false true e = absurd (let z : ◌≡◌ {A = ℕ} 0 1 = cc in omega arith)
same_true false false e = refl

-- the operator is 0 and a count below 32: the test of a set of counts, of every byte
pub plain : (sums : ℕ) (count : ℕ → Bool) → all_from (λ c. same (has (c % 32) sums && clear c 224) (count c)) 0 256 ≡ true → (o c : ℕ)
    → o < 256 → c < 256 → (has ((c + 4 * o) % 32) sums && (clear o 255 && clear c 224)) ≡ (eqb o 0 && count c)
plain sums count test o c h l = rw (all-bits o h) (go (eqb o 0) refl)
  where
    go : (t : Bool) → eqb o 0 ≡ t → (has ((c + 4 * o) % 32) sums && (t && clear c 224)) ≡ (t && count c)
    go true e =
        let z : c + 4 * o ≡ c = omega (arith, eqb-true o 0 e) in
        let here = all-at (λ c. same (has (c % 32) sums && clear c 224) (count c)) 0 256 c test (omega arith) (omega arith) in
        rw z (same_true (has (c % 32) sums && clear c 224) (count c) here)
    go false e = and-false (has ((c + 4 * o) % 32) sums)

-- an operator below 8 and a count below 4: the test of a set of pairs, of every such pair
abbrev pub pairs : ℕ → (ℕ → ℕ → Bool) → ℕ → Bool
pairs sums pair o = all_from (λ c. same (has ((c + 4 * o) % 32) sums) (pair o c)) 0 4

pub chosen : (sums : ℕ) (pair : ℕ → ℕ → Bool) → all_from (pairs sums pair) 0 8 ≡ true
    → ((o c : ℕ) → pair o c ≡ true → (o < 8) × (c < 4)) → (o c : ℕ) → o < 256 → c < 256
    → (has ((c + 4 * o) % 32) sums && (clear o 248 && clear c 252)) ≡ pair o c
chosen sums pair test few o c h l = rw (below_power 5 3 o h, below_power 6 2 c l) (go (ltb o 8) (ltb c 4) refl refl)
  where
    go : (t u : Bool) → ltb o 8 ≡ t → ltb c 4 ≡ u → (has ((c + 4 * o) % 32) sums && (t && u)) ≡ pair o c
    go true true p q =
        let small = ltb-true o 8 p in
        let short = ltb-true c 4 q in
        let row = all-at (pairs sums pair) 0 8 o test (omega arith) (omega arith) in
        let here = all-at (λ c. same (has ((c + 4 * o) % 32) sums) (pair o c)) 0 4 c row (omega arith) (omega arith) in
        rw and-true (same_true (has ((c + 4 * o) % 32) sums) (pair o c) here)
    go true false p q = rw (and-false, not-true (pair o c) (λ e. omega (arith, (few o c e).1, ltb-false c 4 q))) refl
    go false u p q = rw (and-false, not-true (pair o c) (λ e. omega (arith, (few o c e).0, ltb-false o 8 p))) refl
