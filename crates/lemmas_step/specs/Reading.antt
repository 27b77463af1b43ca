-- Operands read: the one reason for which that traps, and two operands, left to right.
use Rattle.std.specs.Prelude.{◌≡◌, ◌⊎◌, [], ◌∷◌, ℕ, get_or}
use Rattle.std.proofs.Math.Path.{refl}
use Rattle.std.proofs.Common.{ap, ◌∙◌, inl, inr}
use Rattle.std.proofs.Math.Option.{Option, none, some}
use Rattle.rules.specs.Effects.{Got, trap, got, Cells, present, read, read_all}
use Rattle.rules.specs.declared.statement.Operand.{Operand}
use Rattle.rules.specs.declared.statement.Operand.TheVariants.{Number, Register, Word}
use Rattle.lemmas_rules.specs.Logic.{never}

module _ (c : Cells) where
  -- reading an operand traps for one reason only
  pub read-reason : (p : Operand) (r : ℕ) → read c p ≡ trap r → r ≡ 1
  read-reason (Number v) r e = never (cc)
  read-reason (Register k) r e = case (get_or c.registers k none) e
    where
      case : (o : Option ℕ) → present o ≡ trap r → r ≡ 1
      case none q = cc
      case (some v) q = never (cc)
  read-reason (Word w) r e = never (cc)

  pub pair-trap : (p q : Operand) (r : ℕ) → read c p ≡ trap r → read_all c (p ∷ q ∷ []) ≡ trap r
  unfolding read_all
  pair-trap p q r e = rw e refl

  pub pair-second : (p q : Operand) (v r : ℕ) → read c p ≡ got v → read c q ≡ trap r → read_all c (p ∷ q ∷ []) ≡ trap r
  unfolding read_all
  pair-second p q v r e f = rw (e, f) refl

  pub pair-both : (p q : Operand) (v u : ℕ) → read c p ≡ got v → read c q ≡ got u → read_all c (p ∷ q ∷ []) ≡ got (v ∷ u ∷ [])
  unfolding read_all
  pair-both p q v u e f = rw (e, f) refl

  -- if one of the two is an absent register, the trap is that of an absent register, whatever the other is
  pub pair-absent : (p q : Operand) → (read c p ≡ trap 1) ⊎ (read c q ≡ trap 1) → read_all c (p ∷ q ∷ []) ≡ trap 1
  pair-absent p q (inl e) = pair-trap p q 1 e
  pair-absent p q (inr e) = case (read c p) refl
    where
      case : (g : Got ℕ) → read c p ≡ g → read_all c (p ∷ q ∷ []) ≡ trap 1
      case (trap r) f = pair-trap p q r f ∙ ap trap (read-reason p r f)
      case (got v) f = pair-second p q v 1 f e
