-- Packed decimal numbers: n decimal digits, four bits each, the highest first.
use Rattle.std.specs.Prelude.{Bool, ◌&&◌, ℕ, ◌^◌, ltb}
use Rattle.rules_decimal.specs.Digits.{digits, number, below, sums}

-- the n lowest decimal digits of a number, packed
unfoldable pub pack : ℕ → ℕ → ℕ
pack n x = number 16 (digits 10 n x)

-- n digits of four bits, each of them at most 9
unfoldable pub packed : ℕ → ℕ → Bool
packed n x = ltb x (16 ^ n) && below 10 (digits 16 n x)

-- the number of n packed digits
unfoldable pub unpack : ℕ → ℕ → ℕ
unpack n x = number 10 (digits 16 n x)

-- n packed digits and n others, added digit by digit with a carry
unfoldable pub sum : ℕ → ℕ → ℕ → ℕ
sum n x y = number 16 (sums 10 0 (digits 16 n x) (digits 16 n y))
