-- Subtraction in a list of calls. Where q is above p, a step of ASSIGN subtract is answered 8, 7: the job ends, and nothing is stored,
-- `traps-below-zero`. Where q is up to p, it is answered 6, and the difference is stored, `subtracts-exactly`. An absent register is found
-- first: 8, 1, `absent-first`.
use Rattle.std.specs.Prelude.{◌≡◌, ◌⊎◌, List, [], ◌∷◌, ◌++◌, ℕ, ◌+◌, ◌<◌, get_or}
use Rattle.std.proofs.Math.Option.{none}
use Rattle.rules.specs.Image.{record_at, opcode, operator}
use Rattle.rules.specs.Machine.{Job, running, Machine, thread_at}
use Rattle.rules.specs.Effects.{got, store}
use Rattle.rules.specs.Events.{Event, step}
use Rattle.rules.specs.declared.statement.Operand.TheVariants.{Register}
use Rattle.lemmas_step.specs.Statements.{job_cells}
use Rattle.theorem_serial_calls.specs.CallList.{Run, Calls, event_list, events_of}
use Rattle.theorem_serial_calls.specs.Reached.{reached, Stepped, Trapped}
use Rattle.theorem_serial_calls.specs.Assigning.{operand, sources, leaving}

-- thread t runs this job, at whose label a record of ASSIGN (2) subtract (3) stands: operand 0 is its destination, 1 and 2 are p and q
pub record Subtracts (image : List ℕ) (s : Machine) (t locks : ℕ) (j : Job) : Type 0 where
  pub thread : thread_at s t ≡ running locks j
  pub assign : opcode (record_at image j.label) ≡ 2
  pub subtract : operator (record_at image j.label) ≡ 3

module _ (image table words state : List ℕ) (runs : List Run) (calls : Calls image table words state runs) (before after : List Event)
    (t : ℕ) (split : events_of (event_list runs) ≡ before ++ step t ∷ after) (locks : ℕ) (j : Job)
    (h : Subtracts image (reached image table words before) t locks j) where
  abbrev s : Machine
  s = reached image table words before

  -- what is claimed of the step
  pub record Claims : Type 0 where
    -- WHERE Q IS ABOVE P, THE STEP IS ANSWERED 8, 7, AND NOTHING IS STORED
    pub traps-below-zero : (p q : ℕ) → p < q → sources image s j 1 2 ≡ got (p ∷ q ∷ [])
        → Trapped image table words state runs before after t 7
    -- WHERE Q IS UP TO P, THE STEP IS ANSWERED 6, AND P - Q IS STORED
    pub subtracts-exactly : (p q v : ℕ) → v + q ≡ p → sources image s j 1 2 ≡ got (p ∷ q ∷ [])
        → Stepped image table words state runs before after t 6 0
        (leaving image s t locks j (store (operand image j 0) v (job_cells image s j)))
    -- AN ABSENT REGISTER IS FOUND FIRST: 8, 1, whatever the other operand is
    pub absent-first : (r : ℕ) → (operand image j 1 ≡ Register r) ⊎ (operand image j 2 ≡ Register r) → get_or j.registers r none ≡ none
        → Trapped image table words state runs before after t 1
