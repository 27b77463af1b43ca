-- What is worked out from two operands that are read.
use Rattle.std.specs.Prelude.{◌≡◌, refl, List, [], ◌∷◌, ℕ, ◌+◌, get_or}
use Rattle.std.proofs.Common.{◌∙◌, subst}
use Rattle.std.proofs.Math.Path.{ap}
use Rattle.rules.specs.Effects.{Got, then, Results, Cells, read_all, compute}
use Rattle.rules.specs.Statements.{operand_at, optional, shape, destinations, assignment_by, assignment_of}
use Rattle.rules.specs.declared.statement.Operand.{Operand}
use Rattle.rules.specs.declared.statement.Operation.{Operation}
use Rattle.rules.specs.declared.statement.Assignment.{Assignment}
use Rattle.lemmas_step.specs.Statements.{results}
use Rattle.step_operands.specs.Legal.{Fits}

-- what an operation gives for two operands
abbrev pub results_by : Cells → Operation → Operand → Operand → Got Results
results_by c o p q = then (read_all c (p ∷ q ∷ [])) (λ vs. compute o (get_or vs 0 0) (get_or vs 1 0))

-- the sources of an assignment of operation o stand behind its destinations, of which there are k
module _ (a : Assignment) (r : List ℕ) (o : Operation) (k : ℕ) (placed : a ≡ assignment_of a.operation r) (by : a.operation ≡ o)
    (n : destinations (shape o) ≡ k) where
  whole : a ≡ assignment_of o r
  whole = placed ∙ ap (λ (q : Operation). assignment_of q r) by

  left_at : a.left ≡ operand_at r k
  unfolding assignment_by
  left_at = ap (λ (q : Assignment). q.left) whole ∙ ap (operand_at r) n

  right-at : a.right ≡ optional (shape o).right r (k + 1)
  unfolding assignment_by
  right-at = ap (λ (q : Assignment). q.right) whole ∙ ap (λ (j : ℕ). optional (shape o).right r (j + 1)) n

  pub sources-fit : Fits a.left → Fits a.right → Fits (operand_at r k) × Fits (optional (shape o).right r (k + 1))
  sources-fit f g = (subst Fits left_at f, subst Fits right-at g)

  pub worked-out : (c : Cells) → results_by c o (operand_at r k) (optional (shape o).right r (k + 1)) ≡ results c a
  worked-out c = rw (by, left_at, right-at) refl
