-- The operands of a statement of ASSIGN's kind, where a running thread comes to it: its destinations, by their kinds.
use Rattle.std.specs.Prelude.{◌≡◌, refl, Bool, true, false, List, ℕ, ◌<◌, eqb}
use Rattle.std.proofs.Math.Path.{sym, ap, subst}
use Rattle.std.proofs.Common.{◌∙◌, ne_eqb}
use Rattle.std.proofs.Math.Bool.{cond}
use Rattle.rules.specs.Sizes.{register_count, word_count}
use Rattle.rules.specs.Codes.{number_operand_code, register_operand_code}
use Rattle.rules.specs.Image.{kind, value}
use Rattle.rules.specs.Statements.{shape, optional, statement_of, operand_of, operand_at, assignment_by}
use Rattle.rules.specs.declared.statement.Assignment.{Assignment}
use Rattle.rules.specs.declared.statement.Operand.{Operand}
use Rattle.rules.specs.declared.statement.Operand.TheVariants.{Number, Register, Word}
use Rattle.rules.specs.declared.statement.Statement.TheVariants.{Assign}
use Rattle.state_thread.specs.declared.thread.ThreadState.{ThreadState}
use Rattle.step_operands.specs.Legal.{Fits}
use Rattle.step_operands.specs.Statements.{Lands, assigns, first-lands, second_fits, left-fits, right-fits}
use Rattle.step_operands.specs.TwoDestinations.{second-lands}
use Rattle.step_contract.specs.At.{At}

-- a destination is a register or a word, by its kind
pub register-lands : (k v : ℕ) → k ≡ register_operand_code → Lands (operand_of k v) → (operand_of k v ≡ Register v) × (v < register_count)
unfolding operand_of
register-lands k v e h = (rw e refl, rw e at h)

pub word-lands : (k v : ℕ) → (k ≡ register_operand_code → ⊥) → Lands (operand_of k v) → (operand_of k v ≡ Word v) × (v < word_count)
unfolding operand_of
word-lands k v n h =
    let other = ne_eqb k register_operand_code n in
    rw other (case (eqb k number_operand_code) (rw other at h))
  where
    case : (z : Bool) → Lands (cond z (Number v) (Word v)) → (cond z (Number v) (Word v) ≡ Word v) × (v < word_count)
    case true f = absurd f
    case false f = (refl, f)

-- the operands of an assignment are within limits
pub record Legal (a : Assignment) : Type 0 where
  pub first : Fits a.first
  pub second : Fits a.second
  pub left : Fits a.left
  pub right : Fits a.right

lands-fits : (d : Operand) → Lands d → Fits d
lands-fits (Number n) h = tt
lands-fits (Register k) h = h
lands-fits (Word k) h = h

module _ {image table b : List ℕ} {t : ℕ} {w : ThreadState} {r : List ℕ} (h : At image table b t w r) where
  module _ (a : Assignment) (e : statement_of r ≡ Assign a) where
    pub legal : Legal a
    unfolding assignment_by
    legal =
        let k = sym (assigns h.parts a e).1 in
        record {
          first = subst (λ (q : Assignment). Fits q.first) k (lands-fits (operand_at r 0) (first-lands h.parts a e));
          second = subst (λ (q : Assignment). Fits q.second) k (second_fits h.parts a e);
          left = subst (λ (q : Assignment). Fits q.left) k (left-fits h.parts a e);
          right = subst (λ (q : Assignment). Fits q.right) k (right-fits h.parts a e);
        }

    -- an operation with one destination
    pub one-destination : (shape a.operation).second ≡ false → a.second ≡ Number 0
    unfolding assignment_by optional
    one-destination f =
        ap (λ (q : Assignment). q.second) (assigns h.parts a e).1
        ∙ ap (λ (q : Bool). cond q (operand_at r 1) (Number 0)) f

    -- the destinations, by the kind and the value that stand at their places
    pub first-at : (k v : ℕ) → k ≡ kind r 0 → v ≡ value r 0 → (a.first ≡ operand_of k v) × Lands (operand_of k v)
    unfolding assignment_by operand_at
    first-at k v p q = rw (p, q) (ap (λ (z : Assignment). z.first) (assigns h.parts a e).1, first-lands h.parts a e)

    pub first-register : (k v : ℕ) → k ≡ kind r 0 → v ≡ value r 0 → k ≡ register_operand_code
        → (a.first ≡ Register v) × (v < register_count)
    first-register k v p q e =
        let d = first-at k v p q in
        let l = register-lands k v e d.1 in
        (d.0 ∙ l.0, l.1)

    pub first-word : (k v : ℕ) → k ≡ kind r 0 → v ≡ value r 0 → (k ≡ register_operand_code → ⊥) → (a.first ≡ Word v) × (v < word_count)
    first-word k v p q n =
        let d = first-at k v p q in
        let l = word-lands k v n d.1 in
        (d.0 ∙ l.0, l.1)

    pub second_at : (k v : ℕ) → k ≡ kind r 1 → v ≡ value r 1 → (shape a.operation).second ≡ true
        → (a.second ≡ operand_of k v) × Lands (operand_of k v)
    unfolding assignment_by optional operand_at
    second_at k v p q f =
        rw (p, q) (
          ap (λ (z : Assignment). z.second) (assigns h.parts a e).1
              ∙ ap (λ (z : Bool). cond z (operand_at r 1) (Number 0)) f,
          second-lands h.parts a e f,
        )
