-- The places for operands, tested byte by byte in runs of sixteen: the byte before five places, and their bytes.
use Rattle.std.specs.Prelude.{ℕ, ◌+◌, ◌-◌, ◌%◌, Bool, cond, List, [], ◌∷◌, ◌==◌, bit_and, bit_or, bit_xor, nat_le, nat_lt, slice_index}
use Rattle.rules.specs.Sizes.{operand_count, operand_count_place}
use Rattle.rules.specs.Codes.{number_operand_code, word_operand_code}
use Rattle.rules.specs.Bytes.{all_from}
use Rattle.rules.specs.Check.{operand_slot_ok}

-- all places for operands of a record
abbrev pub slots_ok : List ℕ → Bool
slots_ok r = all_from (operand_slot_ok r) 0 operand_count

-- the bytes of five places, and of a run
abbrev pub run_step : ℕ
run_step = 15

abbrev pub run_size : ℕ
run_size = 16

-- their numbers; all bits of the low bytes of the values, and of the high bytes; the least kind; and the greatest kind, less the least, and
-- the greatest number of a register in two bytes. The first byte is free
abbrev pub numbers_of : List ℕ
numbers_of = 0 ∷ 1 ∷ 2 ∷ 3 ∷ 4 ∷ 5 ∷ 6 ∷ 7 ∷ 8 ∷ 9 ∷ 10 ∷ 11 ∷ 12 ∷ 13 ∷ 14 ∷ 15 ∷ []

abbrev pub low_of : List ℕ
low_of = 0 ∷ 0 ∷ 255 ∷ 0 ∷ 0 ∷ 255 ∷ 0 ∷ 0 ∷ 255 ∷ 0 ∷ 0 ∷ 255 ∷ 0 ∷ 0 ∷ 255 ∷ 0 ∷ []

abbrev pub high_of : List ℕ
high_of = 0 ∷ 0 ∷ 0 ∷ 255 ∷ 0 ∷ 0 ∷ 255 ∷ 0 ∷ 0 ∷ 255 ∷ 0 ∷ 0 ∷ 255 ∷ 0 ∷ 0 ∷ 255 ∷ []

abbrev pub least_of : List ℕ
least_of = 0 ∷ 1 ∷ 0 ∷ 0 ∷ 1 ∷ 0 ∷ 0 ∷ 1 ∷ 0 ∷ 0 ∷ 1 ∷ 0 ∷ 0 ∷ 1 ∷ 0 ∷ 0 ∷ []

abbrev pub limit_of : List ℕ
limit_of = 255 ∷ 2 ∷ 24 ∷ 0 ∷ 2 ∷ 24 ∷ 0 ∷ 2 ∷ 24 ∷ 0 ∷ 2 ∷ 24 ∷ 0 ∷ 2 ∷ 24 ∷ 0 ∷ []

-- the bits in which the greatest number of a shared word differs from that of a register
abbrev pub fewer : ℕ
fewer = 23

-- the limit of a byte of an operand of this kind
abbrev pub most_of : ℕ → ℕ → ℕ
most_of k l = cond (k == number_operand_code) 255 l

abbrev pub less_of : ℕ → ℕ → ℕ
less_of k f = cond (k == word_operand_code) f 0

abbrev pub bound_of : ℕ → ℕ → ℕ → ℕ
bound_of k l f = bit_xor (most_of k l) (less_of k f)

-- where its place is used a byte, less the least, is up to its limit, round from 0 to 255; and else it is zero
unfoldable pub byte_ok : ℕ → ℕ → ℕ → Bool → Bool
byte_ok x m b used = cond used (nat_le ((x + (256 - m)) % 256) b) (x == 0)

-- byte i of the run at a byte, of a record whose places are used up to another: its kind stands one byte before the low byte of a value,
-- and two before the high one
abbrev pub kind_at : List ℕ → ℕ → ℕ → ℕ
kind_at r at i =
    bit_or (bit_and (slice_index r (operand_count_place + at + i - 1)) (slice_index low_of i))
    (bit_and (slice_index r (operand_count_place + at + i - 2)) (slice_index high_of i))

unfoldable pub run_ok : List ℕ → ℕ → ℕ → ℕ → Bool
run_ok r at end i =
    byte_ok (slice_index r (operand_count_place + at + i)) (slice_index least_of i)
    (bound_of (kind_at r at i) (slice_index limit_of i) (bit_and fewer (slice_index low_of i))) (nat_lt (slice_index numbers_of i + at) end)
