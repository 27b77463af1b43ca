-- Division in a list of calls: `divides`, `traps-by-zero` and `absent-first`.
use Rattle.std.specs.Prelude.{◌≡◌, refl, ◌⊎◌, List, [], ◌∷◌, ◌++◌, ℕ, get_or}
use Rattle.std.proofs.Common.{◌∙◌, arith}
use Rattle.std.proofs.Math.Option.{none}
use Rattle.rules.specs.Image.{record_at}
use Rattle.rules.specs.Statements.{operation_at, optional, assignment_by, assignment_of, statement_of}
use Rattle.rules.specs.Machine.{Job, Machine}
use Rattle.rules.specs.Effects.{got, store}
use Rattle.rules.specs.Division.{Divided, by_zero}
use Rattle.rules.specs.Storing.{Place, read-other}
use Rattle.rules.proofs.Quotients.{computed}
use Rattle.rules.proofs.StoredBoth.{first-stored, second-stored}
use Rattle.rules.specs.Events.{Event, step}
use Rattle.rules.specs.declared.statement.Assignment.{Assignment}
use Rattle.rules.specs.declared.statement.Operand.{Operand}
use Rattle.rules.specs.declared.statement.Operand.TheVariants.{Register}
use Rattle.rules.specs.declared.statement.Operation.TheVariants.{Divide}
use Rattle.rules.specs.declared.statement.Statement.TheVariants.{Assign}
use Rattle.lemmas_rules.specs.Passed.{Parts}
use Rattle.lemmas_step.specs.Statements.{job_cells}
use Rattle.step_operands.specs.Statements.{Lands, first-lands, no-operator}
use Rattle.step_operands.specs.TwoDestinations.{second-lands, differ}
use Rattle.theorem_serial_calls.specs.CallList.{Run, Calls, event_list, events_of}
use Rattle.theorem_serial_calls.specs.Reached.{reached, Trapped}
use Rattle.theorem_serial_calls.specs.Assigning.{operand, sources}
use Rattle.theorem_serial_calls.proofs.Assigning.{record-parts, place, stores, traps, absent-source}
use Rattle.theorem_serial_calls.specs.Division.{AtDivide, Both, Claims}

module _ (image table words state : List ℕ) (runs : List Run) (calls : Calls image table words state runs) (before after : List Event)
    (t : ℕ) (split : events_of (event_list runs) ≡ before ++ step t ∷ after) (locks : ℕ) (j : Job)
    (h : AtDivide image (reached image table words before) t locks j) where
  abbrev s : Machine
  s = reached image table words before

  -- the record breaks no rule: it has no operator, and its destinations are two places, which are not equal
  parts : Parts image (record_at image j.label)
  parts = record-parts image table words state runs calls before after t split locks j h.thread

  abbrev a : Assignment
  a = assignment_of Divide (record_at image j.label)

  statement : statement_of (record_at image j.label) ≡ Assign a
  unfolding statement_of operation_at
  statement = rw (h.divide, no-operator parts (omega (arith, h.divide)))

  placed : (d : Operand) → Lands d → Place (job_cells image s j) d
  placed = place image table words state runs calls before after t split locks j h.thread

  -- what is claimed of the step holds
  pub claims : Claims image table words state runs calls before after t split locks j h
  unfolding assignment_by optional
  claims = record {
    traps-by-zero = λ p e.
        traps image table words state runs calls before after t split locks j h.thread a statement p 0 8 e (by_zero p);
    divides = λ p q u v d e. record {
      stepped =
          stores image table words state runs calls before after t split locks j h.thread a statement p q
          (record { first = u; second = v }) e (computed p q u v d);
      quotient =
          first-stored (job_cells image s j) (operand image j 0) (operand image j 1) u v (differ parts a statement refl)
          (placed (operand image j 0) (first-lands parts a statement));
      remainder =
          second-stored (job_cells image s j) (operand image j 0) (operand image j 1) u v (differ parts a statement refl)
          (placed (operand image j 1) (second-lands parts a statement refl));
      others = λ z m n.
          read-other (store (operand image j 0) u (job_cells image s j)) z (operand image j 1) v n
          ∙ read-other (job_cells image s j) z (operand image j 0) u m;
    };
    absent-first = absent-source image table words state runs calls before after t split locks j h.thread a statement;
  }

  -- WHERE Q IS ZERO, THE STEP IS ANSWERED 8, 8, AND NOTHING IS STORED
  pub traps-by-zero : (p : ℕ) → sources image s j 2 3 ≡ got (p ∷ 0 ∷ []) → Trapped image table words state runs before after t 8
  traps-by-zero = claims.traps-by-zero

  -- P = Q × QUOTIENT + REMAINDER, REMAINDER BELOW Q: BOTH ARE STORED
  pub divides : (p q u v : ℕ) → Divided p q u v → sources image s j 2 3 ≡ got (p ∷ q ∷ [])
      → Both image table words state runs before after t locks j u v
  divides = claims.divides

  -- AN ABSENT REGISTER IS FOUND FIRST: 8, 1, whatever the other operand is
  pub absent-first : (r : ℕ) → (operand image j 2 ≡ Register r) ⊎ (operand image j 3 ≡ Register r) → get_or j.registers r none ≡ none
      → Trapped image table words state runs before after t 1
  absent-first = claims.absent-first
