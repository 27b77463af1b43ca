-- The rows of the block table, eight at a time: the bits that no field may have, tested in words of eight bytes.
use Rattle.std.specs.Prelude.{◌≡◌, refl, Bool, ◌&&◌, List, [], ◌∷◌, ℕ, zero, suc, ◌+◌, ◌*◌, ◌-◌, ◌%◌, ◌<◌, ◌≤◌, eqb, length, get_or, drop}
use Rattle.std.proofs.Common.{sym, ap, ap₂, ◌∙◌, add_assoc}
use Rattle.std.proofs.Math.Bool.{and-true, and_assoc}
use Rattle.std.proofs.Math.Nat.{add-zero}
use native.Mathlib.Omega.{arith}
use Rattle.std.specs.Int.Bits.{bit_or}
use Rattle.rules.specs.Sizes.{thread_count, block_count, block_kind_count, lock_count, row_size, table_size}
use Rattle.rules.specs.Bytes.{all_from, every}
use Rattle.rules.specs.Image.{Field, field_at}
use Rattle.rules.specs.Check.{row_ok}
use Rattle.bytes_fields.specs.Bits.{below_power}
use Rattle.bytes_fields.specs.Marked.{clear, two, four, eight, eight-of, eight-clear}
use Rattle.bytes_fields.specs.Numbers.{num64}
use Rattle.bytes_fields.specs.Runs.{exchange, all_same, all_split, all-threes}
use Rattle.bytes_fields.specs.Tests.{or-none}
use Rattle.image_record.specs.Records.{get_d_any}

-- a field of a row, read from a whole table
pub field_is : (table : List ℕ) (b : ℕ) (f : Field) → length table ≡ table_size → b < block_count → f.place < row_size
    → get_or table (row_size * b + f.place) 0 ≡ field_at table b f
field_is table b f size h p = get_d_any table (row_size * b + f.place) 0 f.limit (omega arith)

-- the bits that a byte of the table may not have: byte i is of the field i % 3, and every limit is a power of two
abbrev marks : List ℕ
marks = (256 - thread_count) ∷ (256 - block_kind_count) ∷ (256 - lock_count) ∷ []

abbrev pub mark : ℕ → ℕ
mark i = get_or marks (i % row_size) 0

mark-short : (i : ℕ) → mark i < 256
mark-short i = go (i % row_size)
  where
    go : (r : ℕ) → get_or marks r 0 < 256
    go zero = omega arith
    go (suc zero) = omega arith
    go (suc (suc zero)) = omega arith
    go (suc (suc (suc r))) = omega arith

-- they come again in every row
module _ (b : ℕ) where
  mark-again : (i : ℕ) → mark (row_size * b + i) ≡ mark i
  mark-again i = let e : (row_size * b + i) % row_size ≡ i % row_size = omega arith in rw e

  two-again : (i : ℕ) → two mark (row_size * b + i) ≡ two mark i
  two-again i = rw (add_assoc (row_size * b) i 1, mark-again i, mark-again (i + 1))

  four-again : (i : ℕ) → four mark (row_size * b + i) ≡ four mark i
  four-again i = rw (add_assoc (row_size * b) i 2, two-again i, two-again (i + 2))

  eight-again : (i : ℕ) → eight mark (row_size * b + i) ≡ eight mark i
  eight-again i = rw (add_assoc (row_size * b) i 4, four-again i, four-again (i + 4))

module _ (table : List ℕ) (size : length table ≡ table_size) (bytes : (i : ℕ) → get_or table i 0 < 256) where
  -- byte i of the table has none of these bits
  abbrev byte_ok : ℕ → Bool
  byte_ok i = clear (get_or table i 0) (mark i)

  row-bytes : (b : ℕ) → b < block_count → (byte_ok (3 * b) && byte_ok (3 * b + 1) && byte_ok (3 * b + 2)) ≡ row_ok table b
  unfolding row_ok every
  row-bytes b h =
      let first : 3 * b % row_size ≡ 0 = omega arith in
      let second : (3 * b + 1) % row_size ≡ 1 = omega arith in
      let third : (3 * b + 2) % row_size ≡ 2 = omega arith in
      rw (
        first,
        second,
        third,
        below_power 5 3 (get_or table (3 * b) 0) (bytes (3 * b)),
        below_power 7 1 (get_or table (3 * b + 1) 0) (bytes (3 * b + 1)),
        below_power 4 4 (get_or table (3 * b + 2) 0) (bytes (3 * b + 2)),
        add-zero (3 * b),
        and-true,
        get_d_any table (3 * b) 0 thread_count (omega arith),
        get_d_any table (3 * b + 1) 0 block_kind_count (omega arith),
        get_d_any table (3 * b + 2) 0 lock_count (omega arith),
        and_assoc,
      )

  -- a word of the rows from block b on has none of the marks of its eight bytes
  word-clear : (b i x : ℕ) → x ≡ num64 (drop (row_size * b + i) table) → clear x (eight mark i) ≡ all_from byte_ok (row_size * b + i) 8
  word-clear b i x e =
      rw (e, eight-of table (row_size * b + i), ← eight-again b i)
      (eight-clear (λ j. get_or table j 0) mark bytes mark-short (row_size * b + i))

  -- eight rows are three words
  eight-rows : (b x y z : ℕ) → b + 8 ≤ block_count → x ≡ num64 (drop (row_size * b + 0) table) → y ≡ num64 (drop (row_size * b + 8) table)
      → z ≡ num64 (drop (row_size * b + 16) table)
      → (clear x (eight mark 0) && clear y (eight mark 8) && clear z (eight mark 16)) ≡ all_from (row_ok table) b 8
  eight-rows b x y z h e f g =
      rw (word-clear b 0 x e, word-clear b 8 y f, word-clear b 16 z g, add-zero (row_size * b))
      (sym (ap (λ w. w && all_from byte_ok (row_size * b + 16) 8) (all_split byte_ok (row_size * b) 8 8))
      ∙ sym (all_split byte_ok (row_size * b) 16 8)
      ∙ all-threes byte_ok b 8
      ∙ all_same _ (row_ok table) b 8 (λ k p q. row-bytes k (omega arith)))

  -- the word at byte i of the first eight rows, and of the last eight, has none of its marks
  abbrev first_clear : ℕ → Bool
  first_clear i = clear (num64 (drop i table)) (eight mark i)

  abbrev last_clear : ℕ → Bool
  last_clear i = clear (num64 (drop (8 * row_size + i) table)) (eight mark i)

  -- all rows are three words of the first eight and three of the last eight
  pub all-rows : (x y z : ℕ) → eqb x 0 ≡ (first_clear 0 && last_clear 0) → eqb y 0 ≡ (first_clear 8 && last_clear 8)
      → eqb z 0 ≡ (first_clear 16 && last_clear 16)
      → eqb (bit_or (bit_or x y) z) 0 ≡ all_from (row_ok table) 0 block_count
  all-rows x y z e f g =
      or-none (bit_or x y) z
      ∙ rw (
        or-none x y,
        e,
        f,
        g,
        exchange (first_clear 0) (last_clear 0) (first_clear 8) (last_clear 8),
        exchange (first_clear 0 && first_clear 8) (last_clear 0 && last_clear 8) (first_clear 16) (last_clear 16),
      )
      (ap₂ ◌&&◌ (eight-rows 0 _ _ _ (omega arith) refl refl refl) (eight-rows 8 _ _ _ (omega arith) refl refl refl)
      ∙ sym (all_split (row_ok table) 0 8 8))
