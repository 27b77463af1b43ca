-- Quotient and remainder: p = q × quotient + remainder, and the remainder is below q. For each p, and each q but 0, there is one such pair;
-- it is what DIVIDE computes (proofs/Quotients).
use Rattle.std.specs.Prelude.{◌≡◌, refl, ℕ, ◌+◌, ◌*◌, ◌/◌, ◌%◌, ◌<◌}
use Rattle.std.proofs.Common.{sym, ap, ◌∙◌, add-zero, mod-lt, arith}
use Rattle.std.proofs.Math.Nat.{div-add-mod, mul-add-div, div-eq_of_lt}
use Rattle.rules.specs.Effects.{trap, compute}
use Rattle.rules.specs.declared.statement.Operation.TheVariants.{Divide}

pub record Divided (p q quotient remainder : ℕ) : Type 0 where
  pub whole : p ≡ q * quotient + remainder
  pub below : remainder < q

-- there is such a pair
pub divided : (p q : ℕ) → 0 < q → Divided p q (p / q) (p % q)
divided p q h = record { whole = sym (div-add-mod p q); below = mod-lt p h }

module _ (p q u v : ℕ) (d : Divided p q u v) where
  pub positive : 0 < q
  positive = let h = d.below in omega arith

  pub quotient : p / q ≡ u
  quotient =
      ap (λ (n : ℕ). n / q) d.whole
      ∙ mul-add-div positive u v
      ∙ ap (λ (n : ℕ). u + n) (div-eq_of_lt d.below)
      ∙ add-zero u

-- a zero q is a trap
pub by_zero : (p : ℕ) → compute Divide p 0 ≡ trap 8
by_zero p = refl
