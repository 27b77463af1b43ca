-- For each p, and each q but 0, there is one pair of quotient and remainder and no other, and it is what DIVIDE computes.
use Rattle.std.specs.Prelude.{◌≡◌, ℕ, ◌+◌, ◌*◌, ◌%◌}
use Rattle.std.proofs.Common.{sym, ap, ap₂, ◌∙◌, add_left_cancel, arith, ne_eqb}
use Rattle.std.proofs.Math.Nat.{div-add-mod}
use Rattle.rules.specs.Effects.{both, compute}
use Rattle.rules.specs.Division.{Divided, positive, quotient}
use Rattle.rules.specs.declared.statement.Operation.TheVariants.{Divide}

module _ (p q u v : ℕ) (d : Divided p q u v) where
  remainder : p % q ≡ v
  remainder = add_left_cancel (q * u) (ap (λ (n : ℕ). q * n + p % q) (sym (quotient p q u v d)) ∙ div-add-mod p q ∙ d.whole)

  -- it is what DIVIDE computes
  pub computed : compute Divide p q ≡ both u v
  computed = let h = positive p q u v d in rw (ne_eqb q 0 (λ e. absurd (omega arith))) (ap₂ both (quotient p q u v d) remainder)

-- and there is no other
pub determined : (p q u v u' v' : ℕ) → Divided p q u v → Divided p q u' v' → (u ≡ u') × (v ≡ v')
determined p q u v u' v' d d' =
    (sym (quotient p q u v d) ∙ quotient p q u' v' d', sym (remainder p q u v d) ∙ remainder p q u' v' d')
