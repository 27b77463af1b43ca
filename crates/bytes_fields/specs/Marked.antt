-- Eight bytes tested at once: of a number of 64 bits and a mask, no bit is set in both exactly if none is in any byte of the two.
use Rattle.std.specs.Prelude.{◌≡◌, Bool, ◌&&◌, List, ℕ, ◌+◌, ◌*◌, ◌^◌, ◌<◌, eqb, get_or, drop}
use Rattle.std.proofs.Common.{sym, ◌∙◌, add-zero, mul_comm, arith, pow_pos, get_or-drop}
use Rattle.std.proofs.Math.Bool.{and-true}
use Rattle.std.specs.Int.Bits.{bit_and}
use Rattle.std.proofs.lemmas.Nat.{and_block}
use Rattle.rules.specs.Bytes.{all_from, num16, num32}
use Rattle.bytes_fields.specs.Numbers.{num64, num32-drop, num64-drop}
use Rattle.bytes_fields.specs.Runs.{all_split}
use Rattle.bytes_fields.specs.Tests.{join-none}

-- no bit is set in both of two numbers
abbrev pub clear : ℕ → ℕ → Bool
clear x m = eqb (bit_and x m) 0

-- of numbers that are joined of two, none is in the low parts and none in the high parts
clear-join : (k a b c d : ℕ) → a < 2 ^ k → c < 2 ^ k → clear (a + 2 ^ k * b) (c + 2 ^ k * d) ≡ (clear a c && clear b d)
clear-join k a b c d h l =
    let x : a + 2 ^ k * b ≡ b * 2 ^ k + a = omega (arith, mul_comm b (2 ^ k)) in
    let y : c + 2 ^ k * d ≡ d * 2 ^ k + c = omega (arith, mul_comm d (2 ^ k)) in
    let z : bit_and b d * 2 ^ k + bit_and a c ≡ bit_and a c + 2 ^ k * bit_and b d = omega (arith, mul_comm (bit_and b d) (2 ^ k)) in
    rw (x, y, and_block k b d a c h l, z) (join-none (bit_and a c) (2 ^ k) (bit_and b d) (pow_pos k))

-- two, four and eight bytes from byte i on, as one number
abbrev pub two : (ℕ → ℕ) → ℕ → ℕ
two f i = f i + 256 * f (i + 1)

abbrev pub four : (ℕ → ℕ) → ℕ → ℕ
four f i = two f i + 65536 * two f (i + 2)

abbrev pub eight : (ℕ → ℕ) → ℕ → ℕ
eight f i = four f i + 4294967296 * four f (i + 4)

two-of : (s : List ℕ) (at : ℕ) → num16 (drop at s) ≡ two (λ i. get_or s i 0) at
unfolding num16
two-of s at = rw (get_or-drop at s 0 0, get_or-drop at s 1 0, add-zero)

four-of : (s : List ℕ) (at : ℕ) → num32 (drop at s) ≡ four (λ i. get_or s i 0) at
four-of s at = rw (num32-drop, two-of s at, two-of s (at + 2))

pub eight-of : (s : List ℕ) (at : ℕ) → num64 (drop at s) ≡ eight (λ i. get_or s i 0) at
eight-of s at = rw (num64-drop, four-of s at, four-of s (at + 4))

module _ (f g : ℕ → ℕ) (small : (i : ℕ) → f i < 256) (short : (i : ℕ) → g i < 256) where
  abbrev at : ℕ → Bool
  at i = clear (f i) (g i)

  two-clear : (i : ℕ) → clear (two f i) (two g i) ≡ all_from at i 2
  unfolding all_from
  two-clear i = clear-join 8 (f i) (f (i + 1)) (g i) (g (i + 1)) (small i) (short i) ∙ rw and-true

  four-clear : (i : ℕ) → clear (four f i) (four g i) ≡ all_from at i 4
  four-clear i =
      clear-join 16 (two f i) (two f (i + 2)) (two g i) (two g (i + 2)) (omega (arith, small i, small (i + 1)))
      (omega (arith, short i, short (i + 1)))
      ∙ rw (two-clear i, two-clear (i + 2)) (sym (all_split at i 2 2))

  pub eight-clear : (i : ℕ) → clear (eight f i) (eight g i) ≡ all_from at i 8
  eight-clear i =
      clear-join 32 (four f i) (four f (i + 4)) (four g i) (four g (i + 4))
      (omega (arith, small i, small (i + 1), small (i + 2), small (i + 2 + 1)))
      (omega (arith, short i, short (i + 1), short (i + 2), short (i + 2 + 1)))
      ∙ rw (four-clear i, four-clear (i + 4)) (sym (all_split at i 4 4))
