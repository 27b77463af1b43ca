-- The three laws of packed decimal numbers, over the count of their digits: unpack undoes pack, pack undoes unpack, and a decimal sum,
-- unpacked, is the sum of the unpacked numbers modulo 10 ^ n.
use Rattle.std.specs.Prelude.{◌≡◌, true, List, ℕ, ◌+◌, ◌%◌, ◌^◌, ◌<◌, ltb}
use Rattle.std.proofs.Common.{sym, ◌∙◌, arith}
use Rattle.std.proofs.Math.Path.{ap}
use Rattle.std.proofs.Math.Nat.{mod-eq_of_lt}
use Rattle.std.proofs.Math.ListN.{length}
use borrow.Author.Tests.{lt-ltb, ltb-true}
use Rattle.rules_decimal.specs.Digits.{digits, number, below, sums}
use Rattle.rules_decimal.specs.DigitLaws.{and_both, below-larger, digits-of-number, number-below, length_digits, digits-below}
use Rattle.rules_decimal.specs.DigitLaws.{number-of-digits, length-sums, sums-below, number-of-sums}
use Rattle.rules_decimal.specs.Packed.{pack, packed, unpack, sum}

-- digits written as a number in one base are packed, and unpacked, as the same digits in the other
module _ (ds : List ℕ) where
  pub packs-digits : below 10 ds ≡ true → pack (length ds) (number 10 ds) ≡ number 16 ds
  unfolding pack
  packs-digits h = ap (number 16) (digits-of-number 10 ds h)

  pub unpacks-digits : below 16 ds ≡ true → unpack (length ds) (number 16 ds) ≡ number 10 ds
  unfolding unpack
  unpacks-digits h = ap (number 10) (digits-of-number 16 ds h)

  pub packed-digits : below 16 ds ≡ true → packed (length ds) (number 16 ds) ≡ below 10 ds
  unfolding packed
  packed-digits h = rw (lt-ltb (number 16 ds) (16 ^ length ds) (number-below 16 ds h), digits-of-number 16 ds h)

-- n decimal digits are found again in the number that has them packed
module _ (n : ℕ) (ds : List ℕ) (count : length ds ≡ n) (decimal : below 10 ds ≡ true) where
  bits : below 16 ds ≡ true
  bits = below-larger (omega arith) ds decimal

  found : digits 16 n (number 16 ds) ≡ ds
  found = rw (← count) (digits-of-number 16 ds bits)

  found-packed : packed n (number 16 ds) ≡ true
  found-packed = rw (← count) (packed-digits ds bits ∙ decimal)

module _ (n x : ℕ) where
  -- UNPACK UNDOES PACK ON 0 TO 10 ^ N - 1
  pub unpack-pack : x < 10 ^ n → unpack n (pack n x) ≡ x
  unfolding pack unpack
  unpack-pack h =
      ap (number 10) (found n (digits 10 n x) (length_digits 10 n x) (digits-below 10 (omega arith) n x))
      ∙ number-of-digits 10 (omega arith) n x
      ∙ mod-eq_of_lt h

  pub pack-packed : packed n (pack n x) ≡ true
  unfolding pack
  pack-packed = found-packed n (digits 10 n x) (length_digits 10 n x) (digits-below 10 (omega arith) n x)

  module _ (h : packed n x ≡ true) where
    pub decimal : below 10 (digits 16 n x) ≡ true
    unfolding packed
    decimal = (and_both (ltb x (16 ^ n)) (below 10 (digits 16 n x)) h).1

    pub fits : x < 16 ^ n
    unfolding packed
    fits = ltb-true x (16 ^ n) (and_both (ltb x (16 ^ n)) (below 10 (digits 16 n x)) h).0

    -- PACK UNDOES UNPACK ON PACKED NUMBERS OF N DIGITS
    pub pack-unpack : pack n (unpack n x) ≡ x
    unfolding pack unpack
    pack-unpack =
        let same : digits 10 n (number 10 (digits 16 n x)) ≡ digits 16 n x =
        ap (λ (k : ℕ). digits 10 k (number 10 (digits 16 n x))) (sym (length_digits 16 n x))
        ∙ digits-of-number 10 (digits 16 n x) decimal in
        ap (number 16) same ∙ number-of-digits 16 (omega arith) n x ∙ mod-eq_of_lt fits

    pub unpack-below : unpack n x < 10 ^ n
    unfolding unpack
    unpack-below = rw length_digits at (number-below 10 (digits 16 n x) decimal)

module _ (n x y : ℕ) where
  equal-counts : length (digits 16 n x) ≡ length (digits 16 n y)
  equal-counts = length_digits 16 n x ∙ sym (length_digits 16 n y)

  count : length (sums 10 0 (digits 16 n x) (digits 16 n y)) ≡ n
  count = length-sums 10 0 (digits 16 n x) (digits 16 n y) equal-counts ∙ length_digits 16 n x

  -- A DECIMAL SUM, UNPACKED, IS THE SUM OF THE UNPACKED NUMBERS MODULO 10 ^ N
  pub unpack-sum : unpack n (sum n x y) ≡ (unpack n x + unpack n y) % 10 ^ n
  unfolding unpack sum
  unpack-sum =
      ap (number 10)
      (found n (sums 10 0 (digits 16 n x) (digits 16 n y)) count (sums-below 10 (omega arith) 0 (digits 16 n x) (digits 16 n y)))
      ∙ number-of-sums 10 (omega arith) 0 (digits 16 n x) (digits 16 n y) equal-counts
      ∙ rw (length_digits 16 n x) (ap (λ (k : ℕ). k % 10 ^ n) (omega arith))

  pub sum-packed : packed n (sum n x y) ≡ true
  unfolding sum
  sum-packed =
      found-packed n (sums 10 0 (digits 16 n x) (digits 16 n y)) count (sums-below 10 (omega arith) 0 (digits 16 n x) (digits 16 n y))

-- so it is that sum, packed, and nothing else
pub sum-packs : (n x y : ℕ) → sum n x y ≡ pack n ((unpack n x + unpack n y) % 10 ^ n)
sum-packs n x y = sym (pack-unpack n (sum n x y) (sum-packed n x y)) ∙ ap (pack n) (unpack-sum n x y)
