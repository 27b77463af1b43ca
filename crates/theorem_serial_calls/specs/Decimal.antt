-- Packed decimal in a list of calls: what a step of PACK, UNPACK and DECIMAL ADD stores, `packs`, `unpacks` and `adds`; what is stored is
-- undone by a step that reads it, `unpack-undoes-pack`, `pack-undoes-unpack` and `sum-unpacked`; and the traps, which store nothing: 8, 9
-- where a number is above 9,999 or a digit above 9, `traps-above-9999`, `traps-unpacking` and `traps-adding`, and before that 8, 1 where a
-- register is absent, `absent-first`.
use Rattle.std.specs.Prelude.{◌≡◌, ◌≢◌, ◌⊎◌, true, false, List, [], ◌∷◌, ◌++◌, ℕ, ◌+◌, ◌%◌, ◌≤◌, ◌<◌, get_or}
use Rattle.std.proofs.Math.Option.{none}
use Rattle.rules_decimal.specs.Packed.{pack, packed, unpack, sum}
use Rattle.rules.specs.Image.{record_at, opcode}
use Rattle.rules.specs.Machine.{Job, running, thread_at}
use Rattle.rules.specs.Effects.{got, Cells, read, store}
use Rattle.rules.specs.Events.{Event, step}
use Rattle.rules.specs.declared.statement.Operand.{Operand}
use Rattle.rules.specs.declared.statement.Operand.TheVariants.{Register}
use Rattle.lemmas_step.specs.Statements.{job_cells}
use Rattle.theorem_serial_calls.specs.CallList.{Run, Calls, event_list, events_of}
use Rattle.theorem_serial_calls.specs.Reached.{reached, Stepped, Trapped}
use Rattle.theorem_serial_calls.specs.Assigning.{operand, sources, leaving}

-- a step in a list of calls, between these events, of a thread that then runs this job, at whose label a record of opcode op stands:
-- operand 0 is its destination, 1 is p, and 2, where the opcode has it, is q
pub record Turn (image table words : List ℕ) (runs : List Run) (op : ℕ) : Type 0 where
  pub before : List Event
  pub after : List Event
  pub thread : ℕ
  pub locks : ℕ
  pub job : Job
  pub split : events_of (event_list runs) ≡ before ++ step thread ∷ after
  pub busy : thread_at (reached image table words before) thread ≡ running locks job
  pub here : opcode (record_at image job.label) ≡ op

module _ {image table words : List ℕ} {runs : List Run} {op : ℕ} (u : Turn image table words runs op) where
  -- the cells that the step sees, and the operands of its record
  abbrev pub cells : Cells
  cells = job_cells image (reached image table words u.before) u.job

  abbrev pub operand_of : ℕ → Operand
  operand_of i = operand image u.job i

  -- it is answered 6, and of the cells that it leaves its destination has this value, and every other place what it had
  pub record Leaves (state : List ℕ) (v : ℕ) : Type 0 where
    pub stepped : Stepped image table words state runs u.before u.after u.thread 6 0
        (leaving image (reached image table words u.before) u.thread u.locks u.job (store (operand_of 0) v cells))
    pub value : read (store (operand_of 0) v cells) (operand_of 0) ≡ got v
    pub others : (z : Operand) → z ≢ operand_of 0 → read (store (operand_of 0) v cells) z ≡ read cells z

  -- it is answered 8 with this reason, and nothing is stored
  abbrev pub Traps : List ℕ → ℕ → Type 0
  Traps state reason = Trapped image table words state runs u.before u.after u.thread reason

module _ (image table words state : List ℕ) (runs : List Run) (calls : Calls image table words state runs) where
  -- operand 1 of each is read as p
  abbrev pub Reads : {op : ℕ} → Turn image table words runs op → ℕ → Type 0
  Reads u p = read (cells u) (operand_of u 1) ≡ got p

  abbrev pub ReadsBoth : Turn image table words runs 15 → ℕ → ℕ → Type 0
  ReadsBoth u x y = sources image (reached image table words u.before) u.job 1 2 ≡ got (x ∷ y ∷ [])

  abbrev pub Absent : {op : ℕ} → Turn image table words runs op → ℕ → Type 0
  Absent u i = (r : ℕ) × (operand_of u i ≡ Register r) × (get_or u.job.registers r none ≡ none)

  -- what is claimed of these steps
  pub record Claims : Type 0 where
    -- A NUMBER UP TO 9,999 IS STORED PACKED
    pub packs : (u : Turn image table words runs 13) (p : ℕ) → p ≤ 9999 → Reads u p → Leaves u state (pack 4 p)
    -- ABOVE IT THE STEP IS ANSWERED 8, 9
    pub traps-above-9999 : (u : Turn image table words runs 13) (p : ℕ) → 9999 < p → Reads u p → Traps u state 9
    -- A PACKED NUMBER IS STORED UNPACKED
    pub unpacks : (u : Turn image table words runs 14) (x : ℕ) → packed 4 x ≡ true → Reads u x → Leaves u state (unpack 4 x)
    -- WITH A DIGIT ABOVE 9 THE STEP IS ANSWERED 8, 9
    pub traps-unpacking : (u : Turn image table words runs 14) (x : ℕ) → packed 4 x ≡ false → Reads u x → Traps u state 9
    -- THE DECIMAL SUM OF TWO PACKED NUMBERS IS STORED
    pub adds : (u : Turn image table words runs 15) (x y : ℕ) → packed 4 x ≡ true → packed 4 y ≡ true → ReadsBoth u x y
        → Leaves u state (sum 4 x y)
    -- WITH A DIGIT ABOVE 9 IN EITHER THE STEP IS ANSWERED 8, 9
    pub traps-adding : (u : Turn image table words runs 15) (x y : ℕ) → (packed 4 x ≡ false) ⊎ (packed 4 y ≡ false) → ReadsBoth u x y
        → Traps u state 9
    -- AN ABSENT REGISTER IS FOUND FIRST: 8, 1, whatever the other operand is
    pub absent-first : (op : ℕ) → (op ≡ 13) ⊎ (op ≡ 14) ⊎ (op ≡ 15) → (u : Turn image table words runs op)
        → Absent u 1 ⊎ ((op ≡ 15) × Absent u 2) → Traps u state 1

  -- and of what such a step stores, read by another: the three laws, of four digits
  pub record Laws : Type 0 where
    -- UNPACK UNDOES PACK: what a step of PACK stores for p up to 9,999, a step of UNPACK that reads it stores as p
    pub unpack-undoes-pack : (u : Turn image table words runs 13) (p : ℕ) → p ≤ 9999 → Reads u p
        → (v : ℕ) × Leaves u state v × ((w : Turn image table words runs 14) → Reads w v → Leaves w state p)
    -- PACK UNDOES UNPACK: what a step of UNPACK stores for a packed number, a step of PACK that reads it stores as that number
    pub pack-undoes-unpack : (u : Turn image table words runs 14) (x : ℕ) → packed 4 x ≡ true → Reads u x
        → (v : ℕ) × Leaves u state v × ((w : Turn image table words runs 13) → Reads w v → Leaves w state x)
    -- A DECIMAL SUM, UNPACKED, IS THE SUM OF THE UNPACKED NUMBERS MODULO 10,000: what a step of DECIMAL ADD stores, a step of UNPACK that
    -- reads it stores as that sum
    pub sum-unpacked : (u : Turn image table words runs 15) (x y : ℕ) → packed 4 x ≡ true → packed 4 y ≡ true → ReadsBoth u x y
        → (v : ℕ) × Leaves u state v
        × ((w : Turn image table words runs 14) → Reads w v → Leaves w state ((unpack 4 x + unpack 4 y) % 10000))
