-- The marks of the digits above 9, digit by digit: none is found exactly if every digit is at most 9.
use Rattle.std.specs.Prelude.{◌≡◌, refl, ◌⊎◌, ℕ, zero, suc, ◌+◌, ◌*◌, ◌/◌, ◌%◌, ◌<◌, ◌≤◌, eqb}
use Rattle.std.proofs.Common.{sym, ap, ap₂, ◌∙◌, inl, inr, arith, lt-ltb, le-ltb, ne_eqb}
use Rattle.std.specs.Int.Bits.{bit_and, bit_or, and_zero_r}
use Rattle.std.proofs.lemmas.Nat.{and_shr, or_shr, and_mod, or_mod}
use Rattle.rules_decimal.specs.Digits.{digits, below}
use Rattle.rules_decimal.specs.Masks.{ones, under_one}
use Rattle.rules_decimal.specs.AboveNine.{marks, above, mark}

lowest : (x : ℕ) → marks x % 2 ≡ mark x
lowest x = and_mod (x / 8) (bit_or (x / 4) (x / 2)) 1 ∙ ap (bit_and (x / 8 % 2)) (or_mod (x / 4) (x / 2) 1)

others : (x : ℕ) → marks x / 16 ≡ marks (x / 16)
others x =
    let eight : x / 8 / 16 ≡ x / 16 / 8 = omega arith in
    let four : x / 4 / 16 ≡ x / 16 / 4 = omega arith in
    let two : x / 2 / 16 ≡ x / 16 / 2 = omega arith in
    and_shr (x / 8) (bit_or (x / 4) (x / 2)) 4 ∙ ap₂ bit_and eight (or_shr (x / 4) (x / 2) 4 ∙ ap₂ bit_or four two)

by-digit : (n x : ℕ) → above (suc n) x ≡ above n (x / 16) * 16 + mark x
by-digit n x = under_one (marks x) (ones n) ∙ ap₂ (λ (k m : ℕ). bit_and k (ones n) * 16 + m) (others x) (lowest x)

digit : (x : ℕ) → ((mark x ≡ 0) × (x % 16 < 10)) ⊎ ((mark x ≡ 1) × (10 ≤ x % 16))
digit x = case (x / 8 % 2) (x / 4 % 2) (x / 2 % 2) refl refl refl
  where
    -- the digit is its bits
    bits : x % 16 ≡ x / 8 % 2 * 8 + x / 4 % 2 * 4 + x / 2 % 2 * 2 + x % 2
    bits =
        let p : x / 2 / 2 ≡ x / 4 = omega arith in
        let q : x / 4 / 2 ≡ x / 8 = omega arith in
        let r : x / 8 / 2 ≡ x / 16 = omega arith in
        omega arith

    four : x / 4 % 2 < 2
    four = omega arith

    two : x / 2 % 2 < 2
    two = omega arith

    case : (p q r : ℕ) → x / 8 % 2 ≡ p → x / 4 % 2 ≡ q → x / 2 % 2 ≡ r
        → ((bit_and p (bit_or q r) ≡ 0) × (x % 16 < 10)) ⊎ ((bit_and p (bit_or q r) ≡ 1) × (10 ≤ x % 16))
    case zero q r e f g = inl (refl, omega (arith, bits, four, two))
    case (suc zero) zero zero e f g = inl (refl, omega (arith, bits))
    case (suc zero) zero (suc zero) e f g = inr (refl, omega (arith, bits))
    case (suc zero) (suc zero) zero e f g = inr (refl, omega (arith, bits))
    case (suc zero) (suc zero) (suc zero) e f g = inr (refl, omega (arith, bits))
    case (suc zero) zero (suc (suc r)) e f g = absurd (omega arith)
    case (suc zero) (suc zero) (suc (suc r)) e f g = absurd (omega arith)
    case (suc zero) (suc (suc q)) r e f g = absurd (omega arith)
    case (suc (suc p)) q r e f g = absurd (omega arith)

-- NONE IS FOUND EXACTLY IF EVERY DIGIT IS AT MOST 9
pub none_above : (n x : ℕ) → eqb (above n x) 0 ≡ below 10 (digits 16 n x)
none_above zero x = rw (and_zero_r (marks x)) refl
none_above (suc n) x = case (digit x) (none_above n (x / 16))
  where
    none : (k : ℕ) → eqb (k * 16 + 0) 0 ≡ eqb k 0
    none zero = refl
    none (suc k) = ne_eqb (suc k * 16 + 0) 0 (λ e. absurd (omega arith)) ∙ sym (ne_eqb (suc k) 0 (λ e. absurd (omega arith)))

    case : ((mark x ≡ 0) × (x % 16 < 10)) ⊎ ((mark x ≡ 1) × (10 ≤ x % 16)) → eqb (above n (x / 16)) 0 ≡ below 10 (digits 16 n (x / 16))
        → eqb (above (suc n) x) 0 ≡ below 10 (digits 16 (suc n) x)
    case (inl d) h = rw (by-digit n x, d.0, lt-ltb (x % 16) 10 d.1) (none (above n (x / 16)) ∙ h)
    case (inr d) h =
        rw (by-digit n x, d.0, le-ltb (x % 16) 10 d.1) (ne_eqb (above n (x / 16) * 16 + 1) 0 (λ e. absurd (omega arith)))
