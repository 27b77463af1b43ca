-- Which bits of a number are zero.
use Rattle.std.specs.Prelude.{◌≡◌, refl, Bool, true, false, ℕ, ◌+◌, ◌*◌, ◌-◌, ◌/◌, ◌%◌, ◌^◌, ◌<◌, eqb, ltb}
use Rattle.std.proofs.Common.{ap, ◌∙◌, zero-mul, mod-eq_of_lt, mod-lt, arith, pow_pos, eq-eqb, ne_eqb, ltb-true, ltb-false}
use Rattle.std.proofs.Math.Nat.{div-eq_of_lt}
use Rattle.std.specs.Int.Bits.{bit_and, and_zero_r}
use Rattle.std.proofs.lemmas.Nat.{and_mask}
use Rattle.std.proofs.lemmas.Nat.Bits.{and_high}
use Rattle.std.proofs.Math.Pow.{split, shr_mod}

-- the j bits from bit k on test that a number of j + k bits is below 2 ^ k, all bits that it is 0
pub below_power : (j k x : ℕ) → x < 2 ^ (j + k) → eqb (bit_and x (2 ^ (j + k) - 2 ^ k)) 0 ≡ ltb x (2 ^ k)
below_power j k x h = go (ltb x (2 ^ k)) refl (and_high x j k ∙ ap (λ y. y * 2 ^ k) (shr_mod j k h))
  where
    go : (t : Bool) → ltb x (2 ^ k) ≡ t → bit_and x (2 ^ (j + k) - 2 ^ k) ≡ x / 2 ^ k * 2 ^ k → eqb (bit_and x (2 ^ (j + k) - 2 ^ k)) 0 ≡ t
    go true l e = eq-eqb _ 0 (e ∙ rw (div-eq_of_lt (ltb-true x (2 ^ k) l), zero-mul))
    go false l e =
        let rest : x % 2 ^ k < 2 ^ k = mod-lt x (pow_pos k) in
        ne_eqb (bit_and x (2 ^ (j + k) - 2 ^ k)) 0 (λ z. omega (arith, ltb-false x (2 ^ k) l, split x k))

pub all-bits : (x : ℕ) → x < 256 → eqb (bit_and x 255) 0 ≡ eqb x 0
all-bits x h = ap (λ y. eqb y 0) (and_mask x 8 ∙ mod-eq_of_lt h)

pub no_bits : (x : ℕ) → eqb (bit_and x 0) 0 ≡ true
no_bits x = rw and_zero_r
