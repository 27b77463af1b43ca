-- Subtraction in a list of calls: `traps-below-zero`, `subtracts-exactly` and `absent-first`.
use Rattle.std.specs.Prelude.{◌≡◌, ◌⊎◌, List, [], ◌∷◌, ◌++◌, ℕ, ◌+◌, ◌-◌, ◌<◌, get_or}
use Rattle.std.proofs.Math.Bool.{false}
use Rattle.std.proofs.Math.Option.{none}
use native.Mathlib.Omega.{arith}
use Rattle.std.proofs.Math.Dec.{ltb}
use borrow.Author.Tests.{lt-ltb, le-ltb}
use Rattle.rules.specs.Image.{record_at}
use Rattle.rules.specs.Statements.{operation_at, optional, assignment_by, assignment_of, statement_of}
use Rattle.rules.specs.Machine.{Job, Machine}
use Rattle.rules.specs.Effects.{got, store}
use Rattle.rules.specs.Events.{Event, step}
use Rattle.rules.specs.declared.statement.Assignment.{Assignment}
use Rattle.rules.specs.declared.statement.Operand.TheVariants.{Register}
use Rattle.rules.specs.declared.statement.Operation.TheVariants.{Subtract}
use Rattle.rules.specs.declared.statement.Statement.TheVariants.{Assign}
use Rattle.lemmas_step.specs.Statements.{job_cells}
use Rattle.theorem_serial_calls.specs.CallList.{Run, Calls, event_list, events_of}
use Rattle.theorem_serial_calls.specs.Reached.{reached, Stepped, Trapped}
use Rattle.theorem_serial_calls.specs.Assigning.{operand, sources, leaving}
use Rattle.theorem_serial_calls.proofs.Assigning.{stores, traps, absent-source}
use Rattle.theorem_serial_calls.specs.Subtraction.{Subtracts, Claims}

module _ (image table words state : List ℕ) (runs : List Run) (calls : Calls image table words state runs) (before after : List Event)
    (t : ℕ) (split : events_of (event_list runs) ≡ before ++ step t ∷ after) (locks : ℕ) (j : Job)
    (h : Subtracts image (reached image table words before) t locks j) where
  abbrev s : Machine
  s = reached image table words before

  abbrev a : Assignment
  a = assignment_of Subtract (record_at image j.label)

  statement : statement_of (record_at image j.label) ≡ Assign a
  unfolding statement_of operation_at
  statement = rw (h.assign, h.subtract)

  -- what is claimed of the step holds
  pub claims : Claims image table words state runs calls before after t split locks j h
  unfolding assignment_by optional
  claims = record {
    traps-below-zero = λ p q l e.
        traps image table words state runs calls before after t split locks j h.thread a statement p q 7 e (rw (lt-ltb p q l));
    subtracts-exactly = λ p q v d e.
        let exact : p - q ≡ v = omega arith in
        let above : ltb p q ≡ false = le-ltb p q (omega arith) in
        stores image table words state runs calls before after t split locks j h.thread a statement p q
        (record { first = v; second = 0 }) e (rw (above, exact));
    absent-first = absent-source image table words state runs calls before after t split locks j h.thread a statement;
  }

  -- WHERE Q IS ABOVE P, THE STEP IS ANSWERED 8, 7, AND NOTHING IS STORED
  pub traps-below-zero : (p q : ℕ) → p < q → sources image s j 1 2 ≡ got (p ∷ q ∷ [])
      → Trapped image table words state runs before after t 7
  traps-below-zero = claims.traps-below-zero

  -- WHERE Q IS UP TO P, THE STEP IS ANSWERED 6, AND P - Q IS STORED
  pub subtracts-exactly : (p q v : ℕ) → v + q ≡ p → sources image s j 1 2 ≡ got (p ∷ q ∷ [])
      → Stepped image table words state runs before after t 6 0
      (leaving image s t locks j (store (operand image j 0) v (job_cells image s j)))
  subtracts-exactly = claims.subtracts-exactly

  -- AN ABSENT REGISTER IS FOUND FIRST: 8, 1, whatever the other operand is
  pub absent-first : (r : ℕ) → (operand image j 1 ≡ Register r) ⊎ (operand image j 2 ≡ Register r) → get_or j.registers r none ≡ none
      → Trapped image table words state runs before after t 1
  absent-first = claims.absent-first
