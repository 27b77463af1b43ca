-- A record that breaks no rule of its head uses its labels as the two sets say.
use Rattle.std.specs.Prelude.{◌≡◌, refl, true, List, ℕ}
use Rattle.std.proofs.lemmas.Bool.{false≢true}
use Rattle.std.proofs.Math.Option.{Option, none, some}
use Rattle.rules.specs.Image.{opcode, operator, operands}
use Rattle.rules.specs.Statements.{forms, operation_at, others, other_at, assignment_of, statement_of}
use Rattle.rules.specs.Check.{usage_ok, other_ok, shape_ok, head_ok}
use Rattle.rules.specs.declared.statement.Operation.{Operation}
use Rattle.rules.specs.declared.statement.Statement.{Statement}
use Rattle.rules.specs.declared.statement.Statement.TheVariants.{Assign}
use Rattle.lemmas_rules.specs.Heads.{head-fields}
use Rattle.image_labels.specs.Uses.{Using, using-by, other-found, form-found, others-agree, forms-agree}

other-using : (r : List ℕ) (x : Option Statement) → other_at r ≡ x → operation_at (opcode r) (operator r) ≡ none
    → usage_ok x (operator r) (operands r) ≡ true → Using r
unfolding other_at statement_of
other-using r none e n h = absurd (false≢true h)
other-using r (some s) e n h = using-by r s (other-found others r (opcode r) s (others-agree r) e) (rw (n, e) refl)

using-of : (r : List ℕ) (x : Option Operation) → operation_at (opcode r) (operator r) ≡ x → shape_ok x r ≡ true → Using r
unfolding operation_at other_ok statement_of
using-of r none e h = other-using r (other_at r) refl e h
using-of r (some k) e h =
    using-by r (Assign (assignment_of k r)) (form-found forms (opcode r) (operator r) k forms-agree e) (rw e refl)

pub uses-of : (r : List ℕ) → head_ok r ≡ true → Using r
uses-of r h = using-of r (operation_at (opcode r) (operator r)) refl (head-fields r h).shaped
