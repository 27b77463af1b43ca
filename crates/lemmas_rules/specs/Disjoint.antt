-- Two sets of bits have none in common exactly if their intersection is 0.
use Rattle.std.specs.Prelude.{◌≡◌, refl, Bool, true, false, ℕ, zero, suc, ◌/◌, ◌%◌, ◌^◌, ◌≤◌, min, eqb}
use Rattle.std.proofs.Common.{sym, ap, ◌∙◌, true≢false, add-one, arith, eqb-true, eq-eqb, ne_eqb}
use Rattle.std.proofs.Math.Decide.{ℕ_discrete}
use lib.Pow.{shr-shr}
use Rattle.std.specs.Int.Bits.{bit_and, and_step, and_zero_l}
use Rattle.std.proofs.lemmas.Nat.{and_shr}
use Rattle.rules.specs.Bytes.{has}

-- no number is in both
abbrev pub Disjoint : ℕ → ℕ → Type 0
Disjoint a b = (l : ℕ) → has l a ≡ true → has l b ≡ false

pub zero_disjoint : (a b : ℕ) → bit_and a b ≡ 0 → Disjoint a b
zero_disjoint a b z l h =
    let e : bit_and (a / 2 ^ l) (b / 2 ^ l) ≡ 0 = sym (and_shr a b l) ∙ rw z (shift l) in
    let p : a / 2 ^ l % 2 ≡ 1 = eqb-true _ 1 h in
    ne_eqb (b / 2 ^ l % 2) 1 (λ q. absurd (omega (arith, and_step (a / 2 ^ l) (b / 2 ^ l))))
  where
    shift : (k : ℕ) → 0 / 2 ^ k ≡ 0
    shift k = omega (arith, lib.Pow.shr_le 0 k)

-- bit l of the half is bit l + 1
half : (a l : ℕ) → a / 2 / 2 ^ l ≡ a / 2 ^ suc l
half a l = rw (← add-one l) (shr-shr a 1 l ∙ ap (λ k. a / 2 ^ k) (omega arith))

disjoint-half : (a b : ℕ) → Disjoint a b → Disjoint (a / 2) (b / 2)
disjoint-half a b d l h = ap (λ n. eqb (n % 2) 1) (half b l) ∙ d (suc l) (sym (ap (λ n. eqb (n % 2) 1) (half a l)) ∙ h)

low : (a b : ℕ) → Disjoint a b → min (a % 2) (b % 2) ≡ 0
low a b d = case (ℕ_discrete (a % 2) 1) (ℕ_discrete (b % 2) 1)
  where
    case : Dec (a % 2 ≡ 1) → Dec (b % 2 ≡ 1) → min (a % 2) (b % 2) ≡ 0
    case (yes p) (yes q) =
        absurd (true≢false (sym (eq-eqb _ 1 (ap (λ n. n % 2) (one b) ∙ q)) ∙ d 0 (eq-eqb _ 1 (ap (λ n. n % 2) (one a) ∙ p))))
      where
        one : (n : ℕ) → n / 2 ^ 0 ≡ n
        one n = omega arith
    case (yes p) (no q) = omega arith
    case (no p) q = omega arith

pub disjoint-zero : (n a b : ℕ) → a ≤ n → Disjoint a b → bit_and a b ≡ 0
disjoint-zero zero a b h d = let e : a ≡ 0 = omega arith in rw e (and_zero_l b)
disjoint-zero (suc n) a b h d = omega (arith, and_step a b, low a b d, disjoint-zero n (a / 2) (b / 2) (omega arith) (disjoint-half a b d))

pub turned : (a b : ℕ) → Disjoint a b → Disjoint b a
turned a b d l h = case (has l a) refl
  where
    case : (c : Bool) → has l a ≡ c → has l a ≡ false
    case true e = absurd (true≢false (sym h ∙ d l e))
    case false e = e
