-- The four digits of a packed number, as the code has them.
use Rattle.std.specs.Prelude.{◌≡◌, true, ℕ, ◌+◌, ◌-◌, ◌*◌, ◌/◌, ◌%◌, ◌<◌, ◌≤◌, eqb}
use Rattle.std.proofs.Common.{ap, ◌∙◌, subst, lt-ltb}
use native.Mathlib.Omega.{arith}
use Rattle.std.proofs.Math.Arith.{digits_mod}
use Rattle.std.specs.Int.Bits.{bit_and, bit_xor}
use Rattle.std.proofs.lemmas.Nat.{and_le_r}
use Rattle.rules_decimal.specs.Digits.{digits, number, sums}
use Rattle.rules_decimal.specs.DigitLaws.{below-larger, number-below, sums-below}
use Rattle.rules_decimal.proofs.PackedLaws.{decimal, fits}
use Rattle.rules_decimal.specs.AboveNine.{above}
use Rattle.rules_decimal.proofs.AboveNine.{none_above}
use Rattle.rules_decimal.proofs.AllAtOnce.{total, summed}
use Rattle.rules_decimal.specs.Packed.{pack, packed, unpack, sum}

module _ (x : ℕ) where
  -- all digits are tested at once
  pub none-above-nine : x < 65536 → eqb (above 4 x) 0 ≡ packed 4 x
  unfolding packed
  none-above-nine h = rw (lt-ltb x 65536 h) (none_above 4 x)

  -- a digit is worth 16 of the place below it, and not 10, which is 6 more; and the other way
  pub four-packed : x < 10000 → x + (6 * (x / 10) + 96 * (x / 10 / 10) + 1536 * (x / 10 / 10 / 10)) ≡ pack 4 x
  unfolding pack
  four-packed h = omega arith

  pub four-unpacked : x < 65536 → x - (6 * (x / 16) + 60 * (x / 16 / 16) + 600 * (x / 16 / 16 / 16)) ≡ unpack 4 x
  unfolding unpack
  four-unpacked h = omega arith

-- all digits are added at once: of t, with k carries, 6 is taken away for each digit that has none
trimmed : (t k m out : ℕ) → 26214 ≤ t → k ≤ 4369 → m < 65536 → t + 6 * k ≡ m + 26214 + 65536 * out
    → (t - 6 * (4369 - k)) % 65536 ≡ m
trimmed t k m out h l s e =
    let whole : t - 6 * (4369 - k) ≡ out * 65536 + m = omega arith in
    ap (λ (n : ℕ). n % 65536) whole ∙ digits_mod out s

module _ (x y : ℕ) where
  abbrev carried : ℕ
  carried = bit_and (bit_xor (bit_xor (x + y + 26214) x) y) 69904 / 16

  pub four-carries : carried ≤ 4369
  four-carries = let h = and_le_r (bit_xor (bit_xor (x + y + 26214) x) y) 69904 in omega arith

  pub four-added : packed 4 x ≡ true → packed 4 y ≡ true → (x + y + 26214 - 6 * (4369 - carried)) % 65536 ≡ sum 4 x y
  unfolding sum
  four-added first second =
      let s = summed 4 x y 0 (fits 4 x first) (fits 4 y second) (decimal 4 x first) (decimal 4 y second) (omega arith) in
      let digits-of-sum = sums 10 0 (digits 16 4 x) (digits 16 4 y) in
      let start : total 4 x y 0 ≡ x + y + 26214 = omega arith in
      trimmed (x + y + 26214) carried (number 16 digits-of-sum) s.out (omega arith) four-carries
      (number-below 16 digits-of-sum
      (below-larger (omega arith) digits-of-sum (sums-below 10 (omega arith) 0 (digits 16 4 x) (digits 16 4 y))))
      (subst
      (λ (t : ℕ). t + 6 * (bit_and (bit_xor (bit_xor t x) y) 69904 / 16) ≡ number 16 digits-of-sum + 26214 + 65536 * s.out)
      start s.equal)
