-- Packed numbers added all digits at once. With 6 more in each digit, a digit of the sum in base 16 carries exactly if the decimal digit
-- does; where it does not, the 6 is taken away again. A carry is seen by the bit above its digit: there the sum is not what the bits alone
-- give.
use Rattle.std.specs.Prelude.{◌≡◌, refl, true, ℕ, zero, suc, ◌+◌, ◌*◌, ◌/◌, ◌%◌, ◌^◌, ◌<◌}
use Rattle.std.proofs.Common.{sym, ap, ap₂, ◌∙◌, pow-suc, mul_right_comm, arith}
use Rattle.std.proofs.Math.Nat.{pow-zero}
use Rattle.std.specs.Int.Bits.{bit_and, bit_xor, and_zero_r}
use Rattle.std.proofs.lemmas.Nat.{xor_shr, xor_mod}
use Rattle.rules_decimal.specs.Digits.{digits, number, below, sums}
use Rattle.rules_decimal.specs.DigitLaws.{parts}
use Rattle.rules_decimal.specs.Masks.{ones, under_one, under-zero}

-- the sum in base 16, with 6 more in each of n digits and the carry c into the lowest
abbrev pub total : ℕ → ℕ → ℕ → ℕ → ℕ
total n x y c = x + y + 6 * ones n + c

-- where its bits are not those of the three numbers alone
abbrev changed : ℕ → ℕ → ℕ → ℕ → ℕ
changed n x y c = bit_xor (bit_xor (total n x y c) x) y

-- a one above each of n digits that carries
abbrev pub carries : ℕ → ℕ → ℕ → ℕ → ℕ
carries n x y c = bit_and (changed n x y c) (ones n * 16)

-- the bit of 1 is changed by the carry alone: all the sixes are even
three-bits : (p q r : ℕ) → p < 2 → q < 2 → r < 2 → bit_xor (bit_xor ((p + q + r) % 2) p) q ≡ r
three-bits zero zero zero h k l = refl
three-bits zero zero (suc zero) h k l = refl
three-bits zero (suc zero) zero h k l = refl
three-bits zero (suc zero) (suc zero) h k l = refl
three-bits (suc zero) zero zero h k l = refl
three-bits (suc zero) zero (suc zero) h k l = refl
three-bits (suc zero) (suc zero) zero h k l = refl
three-bits (suc zero) (suc zero) (suc zero) h k l = refl
three-bits zero zero (suc (suc r)) h k l = absurd (omega arith)
three-bits zero (suc zero) (suc (suc r)) h k l = absurd (omega arith)
three-bits (suc zero) zero (suc (suc r)) h k l = absurd (omega arith)
three-bits (suc zero) (suc zero) (suc (suc r)) h k l = absurd (omega arith)
three-bits zero (suc (suc q)) r h k l = absurd (omega arith)
three-bits (suc zero) (suc (suc q)) r h k l = absurd (omega arith)
three-bits (suc (suc p)) q r h k l = absurd (omega arith)

lowest : (n x y c : ℕ) → c < 2 → changed n x y c % 2 ≡ c
lowest n x y c small =
    let parity : total n x y c % 2 ≡ (x % 2 + y % 2 + c) % 2 = omega arith in
    xor_mod (bit_xor (total n x y c) x) y 1
    ∙ ap (λ (m : ℕ). bit_xor m (y % 2)) (xor_mod (total n x y c) x 1)
    ∙ ap (λ (m : ℕ). bit_xor (bit_xor m (x % 2)) (y % 2)) parity
    ∙ three-bits (x % 2) (y % 2) c (omega arith) (omega arith) small

-- the carries of one digit more: that out of the lowest, and those of the others, into which it goes
module _ (n x y c : ℕ) (first : x % 16 < 10) (second : y % 16 < 10) (small : c < 2) where
  abbrev next : ℕ
  next = (x % 16 + y % 16 + c) / 10

  total-above : total (suc n) x y c / 16 ≡ total n (x / 16) (y / 16) next
  total-above = omega arith

  changed-above : changed (suc n) x y c / 16 ≡ changed n (x / 16) (y / 16) next
  changed-above =
      xor_shr (bit_xor (total (suc n) x y c) x) y 4
      ∙ ap (λ (m : ℕ). bit_xor m (y / 16)) (xor_shr (total (suc n) x y c) x 4)
      ∙ ap (λ (m : ℕ). bit_xor (bit_xor m (x / 16)) (y / 16)) total-above

  carries-above : carries (suc n) x y c / 16 ≡ carries n (x / 16) (y / 16) next + next
  carries-above =
      let m = changed n (x / 16) (y / 16) next in
      let shifted : (k : ℕ) → k * 16 / 16 ≡ k = λ k. omega arith in
      ap (λ (k : ℕ). k / 16) (under-zero (changed (suc n) x y c) (ones n * 16 + 1))
      ∙ shifted (bit_and (changed (suc n) x y c / 16) (ones n * 16 + 1))
      ∙ ap (λ (k : ℕ). bit_and k (ones n * 16 + 1)) changed-above
      ∙ under_one m (ones n)
      ∙ ap₂ ◌+◌ (sym (under-zero m (ones n))) (lowest n (x / 16) (y / 16) next (omega arith))

-- the sum, with the 6 taken away where no carry is; the carry out of the highest digit is above all digits
pub record Summed (n x y c : ℕ) : Type 0 where
  pub out : ℕ
  pub equal : total n x y c + 6 * (carries n x y c / 16)
      ≡ number 16 (sums 10 c (digits 16 n x) (digits 16 n y)) + 6 * ones n + 16 ^ n * out

-- each number by its lowest digit; the carries have none
lowest-digits : (x y k w c carry b : ℕ) → k ≡ b * 16 → x + y + w + c + 6 * (k + carry)
    ≡ x / 16 * 16 + x % 16 + (y / 16 * 16 + y % 16) + w + c + 6 * (k / 16 * 16 + carry)
lowest-digits x y k w c carry b e = omega arith

-- one digit more, where a and b are the digits above d and e, w the ones, k the carries, and m the sum of the digits above
digit-more : (a b c d e w k m out : ℕ) → a + b + 6 * w + (d + e + c) / 10 + 6 * k ≡ m + 6 * w + out
    → a * 16 + d + (b * 16 + e) + 6 * (w * 16 + 1) + c + 6 * (k * 16 + (d + e + c) / 10)
    ≡ m * 16 + (d + e + c) % 10 + 6 * (w * 16 + 1) + out * 16
digit-more a b c d e w k m out h = omega arith

module _ (n x y c : ℕ) (first : x % 16 < 10) (second : y % 16 < 10) (small : c < 2) where
  one_more : (h : Summed n (x / 16) (y / 16) (next n x y c first second small)) → total (suc n) x y c + 6 * (carries (suc n) x y c / 16)
      ≡ number 16 (sums 10 c (digits 16 (suc n) x) (digits 16 (suc n) y)) + 6 * ones (suc n) + 16 ^ suc n * h.out
  one_more h =
      let carry = (x % 16 + y % 16 + c) / 10 in
      let k = carries n (x / 16) (y / 16) carry in
      let m = number 16 (sums 10 carry (digits 16 n (x / 16)) (digits 16 n (y / 16))) in
      let highest : 16 ^ n * h.out * 16 ≡ 16 ^ suc n * h.out =
      sym (ap (λ (p : ℕ). p * h.out) (pow-suc 16 n) ∙ mul_right_comm (16 ^ n) 16 h.out) in
      ap (λ (p : ℕ). total (suc n) x y c + 6 * p) (carries-above n x y c first second small)
      ∙ lowest-digits x y k (6 * (ones n * 16 + 1)) c carry _ (under-zero (changed n (x / 16) (y / 16) carry) (ones n))
      ∙ digit-more (x / 16) (y / 16) c (x % 16) (y % 16) (ones n) (k / 16) m (16 ^ n * h.out) h.equal
      ∙ ap (λ (p : ℕ). m * 16 + (x % 16 + y % 16 + c) % 10 + 6 * (ones n * 16 + 1) + p) highest

pub summed : (n x y c : ℕ) → x < 16 ^ n → y < 16 ^ n → below 10 (digits 16 n x) ≡ true → below 10 (digits 16 n y) ≡ true → c < 2
    → Summed n x y c
summed zero x y c h k f g small =
    let nothing : carries 0 x y c ≡ 0 = and_zero_r (changed 0 x y c) in
    let p : x < 1 = rw pow-zero at h in
    let q : y < 1 = rw pow-zero at k in
    record { out = c; equal = rw (nothing, pow-zero) (omega arith) }
summed (suc n) x y c h k f g small =
    let first = parts 10 (x % 16) (digits 16 n (x / 16)) f in
    let second = parts 10 (y % 16) (digits 16 n (y / 16)) g in
    let d = first.0 in
    let e = second.0 in
    let p : x < 16 ^ n * 16 = rw pow-suc at h in
    let q : y < 16 ^ n * 16 = rw pow-suc at k in
    let above = summed n (x / 16) (y / 16) (next n x y c d e small) (omega arith) (omega arith) first.1 second.1 (omega arith) in
    record { out = above.out; equal = one_more n x y c d e small above }
