-- Bits under a mask of digits of 1 or 0, digit by digit.
use Rattle.std.specs.Prelude.{◌≡◌, ℕ, zero, suc, ◌+◌, ◌*◌, ◌/◌, ◌%◌, ◌<◌}
use Rattle.std.proofs.Common.{sym, ap, ◌∙◌, div-add-mod', arith}
use Rattle.std.specs.Int.Bits.{bit_and, and_zero_r}
use Rattle.std.proofs.lemmas.Nat.{and_block, and_mask}

-- n digits of 1
abbrev pub ones : ℕ → ℕ
ones zero = 0
ones (suc n) = ones n * 16 + 1

module _ (m mask : ℕ) where
  lowest : (r : ℕ) → r < 16 → bit_and m (mask * 16 + r) ≡ bit_and (m / 16) mask * 16 + bit_and (m % 16) r
  lowest r h =
      ap (λ (k : ℕ). bit_and k (mask * 16 + r)) (sym (div-add-mod' m 16)) ∙ and_block 4 (m / 16) mask (m % 16) r (omega arith) h

  -- a lowest digit of 1, and one of 0
  pub under_one : bit_and m (mask * 16 + 1) ≡ bit_and (m / 16) mask * 16 + m % 2
  under_one =
      let low : m % 16 % 2 ≡ m % 2 = omega arith in
      lowest 1 (omega arith) ∙ ap (λ (k : ℕ). bit_and (m / 16) mask * 16 + k) (and_mask (m % 16) 1 ∙ low)

  pub under-zero : bit_and m (mask * 16) ≡ bit_and (m / 16) mask * 16
  under-zero =
      let padded : mask * 16 ≡ mask * 16 + 0 = omega arith in
      let bare : bit_and (m / 16) mask * 16 + 0 ≡ bit_and (m / 16) mask * 16 = omega arith in
      ap (bit_and m) padded
      ∙ lowest 0 (omega arith)
      ∙ ap (λ (k : ℕ). bit_and (m / 16) mask * 16 + k) (and_zero_r (m % 16))
      ∙ bare
