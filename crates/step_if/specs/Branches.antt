-- What an IF comes to, where a running thread comes to it.
use Rattle.std.specs.Prelude.{◌≡◌, Bool, true, false, cond, List, [], ◌∷◌, ℕ, ◌<◌}
use Rattle.std.proofs.Common.{sym, ap, ◌∙◌}
use Rattle.std.proofs.Math.Path.{subst}
use Rattle.rules.specs.Image.{record_at, label_a, label_b}
use Rattle.rules.specs.Statements.{operand_at, optional, statement_of, condition_of}
use Rattle.rules.specs.Effects.{Got, got, read_all, holds}
use Rattle.rules.specs.Machine.{Machine}
use Rattle.rules.specs.Encoding.{machine_from}
use Rattle.rules.specs.declared.answer.Answer.{Answer}
use Rattle.rules.specs.declared.answer.Answer.TheVariants.{Moved}
use Rattle.rules.specs.declared.statement.Condition.{Condition}
use Rattle.rules.specs.declared.statement.Statement.TheVariants.{If}
use Rattle.lemmas_encoding.specs.Encoded.{Encodes}
use Rattle.lemmas_step.specs.Statements as law
use Rattle.state_thread.specs.Threads.{job_of}
use Rattle.state_thread.specs.declared.thread.ThreadState.{ThreadState}
use Rattle.step_operands.specs.Legal.{Fits}
use Rattle.step_operands.specs.Cells.{cells_of}
use Rattle.step_operands.specs.Statements.{tests, tests_left, tests-right}
use Rattle.step_contract.specs.Ready.{Stepped, done}
use Rattle.step_goto.specs.Onward.{moved_to}
use Rattle.step_contract.specs.At.{At, tree, statement-here, reads_here}

-- both choices are below a limit
pub choice-below : (test : Bool) {x y n : ℕ} → x < n → y < n → cond test x y < n
choice-below true h k = h
choice-below false h k = k

module _ {image table b : List ℕ} {t : ℕ} {w : ThreadState} {r : List ℕ} (h : At image table b t w r) where
  abbrev m : Machine
  m = machine_from b

  abbrev here : List ℕ
  here = record_at image w.label.0

  -- the operands of a condition are within limits, and stand at the first two places of its record
  pub places-fit : (c : Condition) → statement_of r ≡ If c → Fits (operand_at r 0) × Fits (optional true r 1)
  unfolding optional
  places-fit c e = (tests_left h.parts c e, tests-right h.parts c e)

  pub condition-at : (c : Condition) {g : Got (List ℕ)} → statement_of r ≡ If c
      → read_all (cells_of b w r) (operand_at r 0 ∷ optional true r 1 ∷ []) ≡ g → read_all (cells_of b w r) (c.left ∷ c.right ∷ []) ≡ g
  unfolding condition_of optional
  condition-at c {g} e q =
      subst (λ (z : Condition). read_all (cells_of b w r) (z.left ∷ z.right ∷ []) ≡ g) (sym (tests h.parts c e).1) q

  pub branched : (c : Condition) (x y : ℕ) {l : ℕ} {b' : List ℕ} {a : Answer} → statement_of r ≡ If c
      → read_all (cells_of b w r) (c.left ∷ c.right ∷ []) ≡ got (x ∷ y ∷ []) → l ≡ cond (holds c.relation x y) (label_a r) (label_b r)
      → a ≡ Moved → Encodes b' (moved_to h l) → Stepped image table b t b' a
  branched c x y e g q f k =
      let to = q ∙ ap (λ (z : List ℕ). cond (holds c.relation x y) (label_a z) (label_b z)) h.here in
      done (moved_to h (cond (holds c.relation x y) (label_a here) (label_b here))) Moved
      (law.branches image table m t w.locks (job_of w) (tree h).0 h.runs (tree h).1 (x ∷ y ∷ []) c (statement-here h (If c) e)
      (reads_here h (If c) g)) f (rw to at k)
