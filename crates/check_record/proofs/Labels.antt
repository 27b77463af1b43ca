-- The test of a label by bits is the rule of its role.
use mathlib.Core.Path.{◌≡◌, refl, sym, ◌∙◌}
use mathlib.Core.Bool.{Bool, true, false, ◌&&◌, and-true}
use mathlib.Core.List.{List}
use Prim.Native.Nat.{ℕ, ◌+◌, ◌*◌, ◌≤◌, ◌<◌}
use native.Mathlib.Nat.{zero-add}
use native.Mathlib.Omega.{arith}
use lib.Bits.{bit_and, and_zero_r, and_mask, and_high}
use lib.Dec.{eqb}
use lib.ListN.{get_or}
use borrow.Author.Tests.{eqb-true, eqb-false, eq-eqb, ne_eqb, lt-ltb, le-ltb}
use Rattle.rules.specs.Sizes.{block_count, block_place, entry_place, record_size}
use Rattle.rules.specs.Image.{labels, record_at, block_field, entry}
use Rattle.rules.specs.Check.{label_ok}
use Rattle.rules.specs.declared.statement.Role.{Role}
use Rattle.rules.specs.declared.statement.Role.TheVariants.{Unused, Inner, Direct, Local, Buffered}
use Rattle.bytes_fields.specs.Bits.{all-bits, no_bits}
use Rattle.bytes_fields.specs.Marked.{clear}
use Rattle.bytes_fields.specs.Tests.{join-none}
use Rattle.image_record.specs.Records.{record-byte}
use Rattle.check_record.specs.Rows.{zero_bits, given_bits, entry_for}
use Rattle.check_record.specs.Tests.{agrees}

-- two numbers joined of two bytes are equal exactly if their bytes are
eq-join : (x y z w : ℕ) → x < 256 → z < 256 → eqb (x + 256 * y) (z + 256 * w) ≡ (eqb x z && eqb y w)
eq-join x y z w h l = go (eqb x z) (eqb y w) refl refl
  where
    go : (s t : Bool) → eqb x z ≡ s → eqb y w ≡ t → eqb (x + 256 * y) (z + 256 * w) ≡ (s && t)
    go true true p q = eq-eqb (x + 256 * y) (z + 256 * w) (omega (arith, eqb-true x z p, eqb-true y w q))
    go true false p q = ne_eqb (x + 256 * y) (z + 256 * w) (λ e. eqb-false y w q (omega arith))
    go false t p q = ne_eqb (x + 256 * y) (z + 256 * w) (λ e. eqb-false x z p (omega arith))

-- the low byte and the high byte of such a number, by their bits
low_bits : (x y : ℕ) → x < 256 → bit_and (x + 256 * y) 255 ≡ x
low_bits x y h = and_mask (x + 256 * y) 8 ∙ omega arith

high_bits : (x y : ℕ) → x < 256 → y < 256 → bit_and (x + 256 * y) 65280 ≡ 256 * y
high_bits x y h l = and_high (x + 256 * y) 8 8 ∙ omega arith

all_of : (x y : ℕ) → x < 256 → y < 256 → bit_and (x + 256 * y) 65535 ≡ x + 256 * y
all_of x y h l = and_mask (x + 256 * y) 16 ∙ omega arith

-- a label that the image has, in a record of block own
module _ (image : List ℕ) (bytes : (i : ℕ) → get_or image i 0 < 256) (v own : ℕ) (has : v < labels image) (fits : own < 256) where
  abbrev b : ℕ
  b = block_field (record_at image v)

  abbrev e : ℕ
  e = entry (record_at image v)

  b-byte : b < 256
  b-byte = omega (arith, record-byte image v has block_place block_count (omega arith), bytes (record_size * v + block_place))

  e-byte : e < 256
  e-byte = omega (arith, record-byte image v has entry_place 0 (omega arith), bytes (record_size * v + entry_place))

  of_entry : (k : ℕ) → k < 256 → eqb (bit_and (b + 256 * e) 65280) (bit_and (own + 256 * k) 65280) ≡ eqb e k
  of_entry k h =
      rw (high_bits b e b-byte e-byte, high_bits own k fits h) (simp zero-add at (eq-join 0 e 0 k (omega arith) (omega arith)))

  -- its bytes are low and high
  pub label-bits : (role : Role) (low high : ℕ) → v ≡ low + 256 * high → low < 256 → high < 256
      → (clear low (zero_bits role) && clear high (zero_bits role) && agrees (record_at image v) own (entry_for role) (given_bits role))
      ≡ label_ok image role own v
  unfolding label_ok agrees
  label-bits Unused low high s h l =
      rw (all-bits low h, all-bits high l, and_zero_r, and_zero_r, and-true, s) (sym (join-none low 256 high (omega arith)))
  label-bits Inner low high s h l =
      rw (no_bits, no_bits, low_bits b e b-byte, low_bits own 0 fits, lt-ltb v (labels image) has) refl
  label-bits Direct low high s h l = rw (no_bits, no_bits, lt-ltb v (labels image) has) (of_entry 1 (omega arith))
  label-bits Local low high s h l =
      rw (no_bits, no_bits, all_of b e b-byte e-byte, all_of own 1 fits (omega arith), lt-ltb v (labels image) has)
      (eq-join b e own 1 b-byte fits)
  label-bits Buffered low high s h l = rw (no_bits, no_bits, lt-ltb v (labels image) has) (of_entry 2 (omega arith))

-- a label that the image does not have fits no role
pub far-label : (image : List ℕ) (own v : ℕ) → 0 < labels image → labels image ≤ v → (role : Role) → label_ok image role own v ≡ false
unfolding label_ok
far-label image own v p h Unused = ne_eqb v 0 (λ z. omega arith)
far-label image own v p h Inner = rw (le-ltb v (labels image) h) refl
far-label image own v p h Direct = rw (le-ltb v (labels image) h) refl
far-label image own v p h Local = rw (le-ltb v (labels image) h) refl
far-label image own v p h Buffered = rw (le-ltb v (labels image) h) refl
