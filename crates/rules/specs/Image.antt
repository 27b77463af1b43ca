-- "Image and block table": the fields of the image's records and of the block table.
use Rattle.std.specs.Prelude.{cond, ◌&&◌, List, [], ◌∷◌, ℕ, ◌+◌, ◌*◌, ◌/◌, length, get_or, take, drop, eqb, leb, ltb}
use Rattle.rules.specs.Sizes.{thread_count, block_kind_count, lock_count, block_count, record_count, opcode_place, block_place, entry_place}
use Rattle.rules.specs.Sizes.{operator_place, label_a_place, label_b_place, operand_count_place, operands_place, operand_size, record_size}
use Rattle.rules.specs.Sizes.{row_thread_place, row_kind_place, row_lock_place, row_size}
use Rattle.rules.specs.Bytes.{num16}

-- the number of records: n where the length is 84 × n, n 1 to 512; otherwise 0
unfoldable pub labels : List ℕ → ℕ
labels image =
    let n = length image / record_size in
    cond (eqb (length image) (record_size * n) && leb n record_count) n 0

-- the record at a label is that part of the image; the part is empty if the image's length is bad or the label is not below n
unfoldable pub record_at : List ℕ → ℕ → List ℕ
record_at image l = cond (ltb l (labels image)) (take record_size (drop (record_size * l) image)) []

-- a record's fields. Where there is no record the block is one that no block table has
abbrev pub opcode : List ℕ → ℕ
opcode r = get_or r opcode_place 0

abbrev pub block_field : List ℕ → ℕ
block_field r = get_or r block_place block_count

abbrev pub entry : List ℕ → ℕ
entry r = get_or r entry_place 0

abbrev pub operator : List ℕ → ℕ
operator r = get_or r operator_place 0

abbrev pub label_a : List ℕ → ℕ
label_a r = num16 (drop label_a_place r)

abbrev pub label_b : List ℕ → ℕ
label_b r = num16 (drop label_b_place r)

abbrev pub operands : List ℕ → ℕ
operands r = get_or r operand_count_place 0

abbrev pub kind : List ℕ → ℕ → ℕ
kind r k = get_or r (operands_place + operand_size * k) 0

abbrev pub value : List ℕ → ℕ → ℕ
value r k = num16 (drop (operands_place + 1 + operand_size * k) r)

-- a field of a row of the block table: its place in the row, and how many values it can have
pub record Field : Type 0 where
  pub place : ℕ
  pub limit : ℕ

abbrev pub thread_field : Field
thread_field = record { place = row_thread_place; limit = thread_count }

abbrev pub kind_field : Field
kind_field = record { place = row_kind_place; limit = block_kind_count }

abbrev pub lock_field : Field
lock_field = record { place = row_lock_place; limit = lock_count }

abbrev pub row_fields : List Field
row_fields = thread_field ∷ kind_field ∷ lock_field ∷ []

-- past the table a field has a value that none can have
abbrev pub field_at : List ℕ → ℕ → Field → ℕ
field_at table b f = get_or table (row_size * b + f.place) f.limit

-- what the block table says of a block: its thread, its kind (0 FD, 1 CMX), and its lock, which guards every block that has it
pub record Row : Type 0 where
  pub thread : ℕ
  pub kind : ℕ
  pub lock : ℕ

unfoldable pub row_at : List ℕ → ℕ → Row
row_at table b = record { thread = field_at table b thread_field; kind = field_at table b kind_field; lock = field_at table b lock_field }
