-- Division in a list of calls. Where p = q × quotient + remainder, and the remainder is below q, a step of DIVIDE is answered 6, and both
-- are stored: after it the first destination has the quotient, the second the remainder, and every other place what it had, `divides`.
-- Where q is zero it is answered 8, 8: the job ends, and nothing is stored, `traps-by-zero`. An absent register is found first: 8, 1,
-- `absent-first`.
use Rattle.std.specs.Prelude.{◌≡◌, ◌≢◌, ◌⊎◌, List, [], ◌∷◌, ◌++◌, ℕ, get_or}
use Rattle.std.proofs.Math.Option.{none}
use Rattle.rules.specs.Image.{record_at, opcode}
use Rattle.rules.specs.Machine.{Job, running, Machine, thread_at}
use Rattle.rules.specs.Effects.{got, Cells, read, store}
use Rattle.rules.specs.Division.{Divided}
use Rattle.rules.specs.Events.{Event, step}
use Rattle.rules.specs.declared.statement.Operand.{Operand}
use Rattle.rules.specs.declared.statement.Operand.TheVariants.{Register}
use Rattle.lemmas_step.specs.Statements.{job_cells}
use Rattle.theorem_serial_calls.specs.CallList.{Run, Calls, event_list, events_of}
use Rattle.theorem_serial_calls.specs.Reached.{reached, Stepped, Trapped}
use Rattle.theorem_serial_calls.specs.Assigning.{operand, sources, leaving}

-- thread t runs this job, at whose label a record of DIVIDE (12) stands: operands 0 and 1 are its destinations, 2 and 3 are p and q
pub record AtDivide (image : List ℕ) (s : Machine) (t locks : ℕ) (j : Job) : Type 0 where
  pub thread : thread_at s t ≡ running locks j
  pub divide : opcode (record_at image j.label) ≡ 12

-- the cells c, with u in the first destination and v in the second
abbrev pub both_stored_in : List ℕ → Job → ℕ → ℕ → Cells → Cells
both_stored_in image j u v c = store (operand image j 1) v (store (operand image j 0) u c)

-- after these events a step of thread t is answered 6, and of the cells that it leaves each destination has its result, and every other
-- place what it had
pub record Both (image table words state : List ℕ) (runs : List Run) (before after : List Event) (t locks : ℕ) (j : Job) (u v : ℕ)
    : Type 0 where
  pub stepped : Stepped image table words state runs before after t 6 0
      (leaving image (reached image table words before) t locks j
      (both_stored_in image j u v (job_cells image (reached image table words before) j)))
  pub quotient : read (both_stored_in image j u v (job_cells image (reached image table words before) j)) (operand image j 0) ≡ got u
  pub remainder : read (both_stored_in image j u v (job_cells image (reached image table words before) j)) (operand image j 1) ≡ got v
  pub others : (z : Operand) → z ≢ operand image j 0 → z ≢ operand image j 1
      → read (both_stored_in image j u v (job_cells image (reached image table words before) j)) z
      ≡ read (job_cells image (reached image table words before) j) z

module _ (image table words state : List ℕ) (runs : List Run) (calls : Calls image table words state runs) (before after : List Event)
    (t : ℕ) (split : events_of (event_list runs) ≡ before ++ step t ∷ after) (locks : ℕ) (j : Job)
    (h : AtDivide image (reached image table words before) t locks j) where
  abbrev s : Machine
  s = reached image table words before

  -- what is claimed of the step
  pub record Claims : Type 0 where
    -- WHERE Q IS ZERO, THE STEP IS ANSWERED 8, 8, AND NOTHING IS STORED
    pub traps-by-zero : (p : ℕ) → sources image s j 2 3 ≡ got (p ∷ 0 ∷ []) → Trapped image table words state runs before after t 8
    -- P = Q × QUOTIENT + REMAINDER, REMAINDER BELOW Q: BOTH ARE STORED
    pub divides : (p q u v : ℕ) → Divided p q u v → sources image s j 2 3 ≡ got (p ∷ q ∷ [])
        → Both image table words state runs before after t locks j u v
    -- AN ABSENT REGISTER IS FOUND FIRST: 8, 1, whatever the other operand is
    pub absent-first : (r : ℕ) → (operand image j 2 ≡ Register r) ⊎ (operand image j 3 ≡ Register r) → get_or j.registers r none ≡ none
        → Trapped image table words state runs before after t 1
