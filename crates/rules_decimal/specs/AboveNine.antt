-- A digit of four bits is above 9 exactly if it has the bit of 8 and that of 4 or that of 2. So the digits of a number that are above 9 are
-- found all at once: over their count, `above` has a one for each, and is 0 exactly if there is none.
use Rattle.std.specs.Prelude.{ℕ, ◌/◌, ◌%◌}
use Rattle.std.specs.Int.Bits.{bit_and, bit_or}
use Rattle.rules_decimal.specs.Masks.{ones}

-- the bits of 8 with those of 4 or of 2, at the places of the bits of 1
abbrev pub marks : ℕ → ℕ
marks x = bit_and (x / 8) (bit_or (x / 4) (x / 2))

abbrev pub above : ℕ → ℕ → ℕ
above n x = bit_and (marks x) (ones n)

-- that of the lowest digit, by its bits
abbrev pub mark : ℕ → ℕ
mark x = bit_and (x / 8 % 2) (bit_or (x / 4 % 2) (x / 2 % 2))
