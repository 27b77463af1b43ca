-- The tests of a record's head and labels by a row of bits.
use Rattle.std.specs.Prelude.{◌≡◌, Bool, true, cond, not, ◌&&◌, List, ℕ, ◌+◌, ◌*◌, ◌%◌, ◌<◌, eqb, leb, get_or, drop}
use Rattle.std.specs.Int.Bits.{bit_and}
use Rattle.rules.specs.Sizes.{block_place}
use Rattle.rules.specs.Codes.{divide_code, register_operand_code}
use Rattle.rules.specs.Bytes.{has}
use Rattle.rules.specs.Image.{record_at, block_field, entry, operator, label_a, label_b, operands, kind, value}
use Rattle.bytes_fields.specs.Marked.{clear}
use Rattle.bytes_fields.specs.Numbers.{num64}
use Rattle.check_record.specs.declared.rows.Row.{Row}

-- the sum that stands for operator and operand count
abbrev pub summed : List ℕ → ℕ
summed r = (operands r + 4 * operator r) % 32

-- a record has this block and this entry, in the bits that are given
unfoldable pub agrees : List ℕ → ℕ → ℕ → ℕ → Bool
agrees q b e g = eqb (bit_and (block_field q + 256 * entry q) g) (bit_and (b + 256 * e) g)

-- the second destination is no number, and not the first
abbrev pub second_ok : List ℕ → Bool
second_ok r = leb register_operand_code (kind r 1) && not (eqb (kind r 0) (kind r 1) && eqb (value r 0) (value r 1))

-- the first operand is of this kind or a greater one, and DIVIDE has two destinations
unfoldable pub stores_ok : List ℕ → ℕ → ℕ → Bool
stores_ok r k op = leb k (kind r 0) && cond (eqb op divide_code) (second_ok r) true

-- where there is no operand, and where there are more than five, nothing is to be asked of what the record stores to
abbrev pub Stores : List ℕ → ℕ → ℕ → Type 0
Stores r k op = (operands r ≡ 0 → stores_ok r k op ≡ true) × (5 < operands r → stores_ok r k op ≡ true)

-- the tests of a row, of a record whose labels the image has
unfoldable pub allows : List ℕ → List ℕ → Row → Bool
allows image r row =
    has (summed r) row.sums
    && (clear (num64 (drop block_place r)) row.zeros
    && (agrees (record_at image (label_a r)) (get_or r block_place 0) row.entry row.given
    && agrees (record_at image (label_b r)) (get_or r block_place 0) 0 row.inner))
