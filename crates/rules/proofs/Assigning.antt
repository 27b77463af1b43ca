-- A step at a record of ASSIGN: the value that it stores in a register, or in a word of its block, over any operands and operator; and
-- its traps, which store nothing.
use mathlib.Core.Path.{◌≡◌, refl, ap, ◌∙◌, subst}
use mathlib.Core.Logic.{◌⊎◌, inl, inr}
use mathlib.Core.Bool.{Bool, true, false, cond}
use mathlib.Core.Option.{Option, none, some}
use mathlib.Core.List.{List, [], ◌∷◌}
use Prim.Native.Nat.{ℕ, zero, suc, ◌+◌, ◌*◌, ◌%◌, ◌-◌, ◌<◌}
use native.Mathlib.Nat.{add-zero}
use native.Mathlib.Omega.{arith}
use lib.Dec.{ltb}
use lib.ListN.{length, get_or, set, length-set}
use lib.Seq.{get_or-set_same, get_or-set_other}
use borrow.Author.Tests.{lt-ltb, le-ltb}
use Rattle.rules.specs.Sizes.{word_count}
use Rattle.rules.specs.Codes.{assign_code, add_code, subtract_code, multiply_code}
use Rattle.rules.specs.Image.{record_at, opcode, operator}
use Rattle.rules.specs.Statements.{operand_at, operation_at, shape, optional, assignment_by, assignment_of, statement_of}
use Rattle.rules.specs.Machine.{Job, job, with_held, idle, running, Machine, thread_at, stores, window, keep}
use Rattle.rules.specs.Answers.{code, detail}
use Rattle.rules.specs.Events.{step}
use Rattle.rules.specs.Effects.{trap, got, Cells, read, read_all, Results, one, compute, store, assigned, perform}
use Rattle.rules.specs.Storing.{length-window}
use Rattle.rules.specs.Steps.{Reply, block_at, rules_by, blocked}
use Rattle.rules.specs.declared.statement.Operand.{Operand}
use Rattle.rules.specs.declared.statement.Operand.TheVariants.{Number, Register, Word}
use Rattle.rules.specs.declared.statement.Operation.{Operation}
use Rattle.rules.specs.declared.statement.Operation.TheVariants.{Add, Subtract, Multiply}
use Rattle.rules.specs.declared.statement.Assignment.{Assignment}
use Rattle.rules.specs.declared.statement.Statement.TheVariants.{Assign}
use Rattle.rules.specs.declared.answer.Answer.TheVariants.{Trapped}
use Rattle.rules.proofs.Running.{cells_of, Runs, Answered, answered, MovesOn, unread, trapped, moves-on, own-words}
use Rattle.rules.proofs.Opcodes.{step_of, A, register}
use Rattle.rules.proofs.Ends.{ends, trap-state}

-- operand i of the record at a job's label
abbrev pub operand : List ℕ → Job → ℕ → Operand
operand image j i = operand_at (record_at image j.label) i

-- thread t holds these locks and runs this job, at whose label a record of ASSIGN with this operator stands: operand 0 is the
-- destination d, and operands 1 and 2 are read as p and q
pub record Assigns (image : List ℕ) (s : Machine) (t locks : ℕ) (j : Job) (o : ℕ) (d : Operand) (p q : ℕ) : Type 0 where
  pub thread : thread_at s t ≡ running locks j
  pub assign : opcode (record_at image j.label) ≡ assign_code
  pub operation : operator (record_at image j.label) ≡ o
  pub destination : operand image j 0 ≡ d
  pub left : read (cells_of image s j) (operand image j 1) ≡ got p
  pub right : read (cells_of image s j) (operand image j 2) ≡ got q

-- the same with an absent register r as operand i, which is 1 or 2
pub record ReadsAbsent (image : List ℕ) (s : Machine) (t locks : ℕ) (j : Job) (o i r : ℕ) : Type 0 where
  pub thread : thread_at s t ≡ running locks j
  pub assign : opcode (record_at image j.label) ≡ assign_code
  pub operation : operator (record_at image j.label) ≡ o
  pub place : (i ≡ 1) ⊎ (i ≡ 2)
  pub source : operand image j i ≡ Register r
  pub absent : get_or j.registers r none ≡ none

-- an answer of 6, 0, after which register r of thread t has this value; and the same of a shared word
pub record InRegister (reply : Reply) (t r v : ℕ) : Type 0 where
  pub answer : Answered reply 6 0
  pub value : register (thread_at reply.state t) r ≡ some v

pub record InWord (reply : Reply) (n v : ℕ) : Type 0 where
  pub answer : Answered reply 6 0
  pub value : get_or reply.state.words n 0 ≡ v

-- a step of thread t at such a record, of which p and q are these, stores v, be its destination a register or a word of its block
pub record Stores (image table : List ℕ) (s : Machine) (t locks : ℕ) (j : Job) (o p q v : ℕ) : Type 0 where
  pub register : (r : ℕ) → r < length j.registers → Assigns image s t locks j o (Register r) p q
      → InRegister (step_of image table s t) t r v
  pub word : (w : ℕ) → w < word_count → word_count * block_at image j.label + w < length s.words
      → Assigns image s t locks j o (Word w) p q → InWord (step_of image table s t) (word_count * block_at image j.label + w) v

-- an answer of 8 with this reason, after which no word has changed, and thread t is idle
pub record TrapsWith (reply : Reply) (s : Machine) (t reason : ℕ) : Type 0 where
  pub answer : Answered reply 8 reason
  pub words : reply.state.words ≡ s.words
  pub thread : thread_at reply.state t ≡ idle

-- ---- the words of a block, written and read

length-stores : (n i : ℕ) (vs words : List ℕ) → length (stores n i vs words) ≡ length words
unfolding stores
length-stores zero i vs words = refl
length-stores (suc n) i [] words = refl
length-stores (suc n) i (v ∷ vs) words = length-set (stores n (suc i) vs words) i v ∙ length-stores n (suc i) vs words

stored : (n i k : ℕ) (vs words : List ℕ) → k < n → k < length vs → i + k < length words
    → get_or (stores n i vs words) (i + k) 0 ≡ get_or vs k 0
unfolding stores
stored zero i k vs words a b c = absurd (omega arith)
stored (suc n) i k [] words a b c = absurd (omega arith)
stored (suc n) i zero (v ∷ vs) words a b c =
    rw add-zero (get_or-set_same (stores n (suc i) vs words) i v 0 (omega (arith, length-stores n (suc i) vs words)))
stored (suc n) i (suc k) (v ∷ vs) words a b c =
    let e : i + suc k ≡ suc i + k = omega arith in
    let rest : get_or (stores n (suc i) vs words) (suc i + k) 0 ≡ get_or vs k 0 =
    stored n (suc i) k vs words (omega arith) (omega arith) (omega arith) in
    rw e (get_or-set_other (stores n (suc i) vs words) i (suc i + k) v 0 (omega arith) ∙ rest)

-- word w of block b, whose words are these
pub kept : (b w : ℕ) (vs words : List ℕ) → w < word_count → w < length vs → word_count * b + w < length words
    → get_or (keep b vs words) (word_count * b + w) 0 ≡ get_or vs w 0
unfolding keep
kept b w vs words = stored word_count (word_count * b) w vs words

-- ---- traps

-- a trap stores nothing
pub traps-with : (image table : List ℕ) (s : Machine) (t locks : ℕ) (j : Job) (reason : ℕ) → thread_at s t ≡ running locks j
    → (step_of image table s t).answer ≡ Trapped reason → TrapsWith (step_of image table s t) s t reason
unfolding code detail
traps-with image table s t locks j reason runs e = record {
  answer = answered (step_of image table s t) (Trapped reason) e;
  words = ap (λ (m : Machine). m.words) (trap-state (rules_by image table) s t locks reason j runs e);
  thread = ends (rules_by image table) s (step t) t refl (rw e);
}

-- an absent register read second: whatever was read first, the trap is that of an absent register
pub second-absent : (c : Cells) (p q : Operand) → read c q ≡ trap 1 → read_all c (p ∷ q ∷ []) ≡ trap 1
unfolding read_all
second-absent c (Number v) q e = rw e
second-absent c (Register r) q e = case (get_or c.registers r none) refl
  where
    case : (o : Option ℕ) → get_or c.registers r none ≡ o → read_all c (Register r ∷ q ∷ []) ≡ trap 1
    case none f = rw f
    case (some v) f = rw (f, e)
second-absent c (Word w) q e = rw e

-- ---- a step at a statement of ASSIGN's kind

module _ (image table : List ℕ) (s : Machine) (t locks : ℕ) (j : Job) (a : Assignment) (busy : thread_at s t ≡ running locks j)
    (statement : statement_of (record_at image j.label) ≡ Assign a) where
  module _ (p q : ℕ) (left : read (cells_of image s j) a.left ≡ got p) (right : read (cells_of image s j) a.right ≡ got q) where
    runs : Runs image s t locks j (Assign a) (p ∷ q ∷ [])
    unfolding read_all
    runs = record { thread = busy; statement = statement; reading = rw (left, right) }

    -- what is worked out is stored
    module _ (x : Results) (computed : compute a.operation p q ≡ got x) where
      abbrev after : Cells
      after = assigned a x (cells_of image s j)

      abbrev next : Job
      next = with_held j.held (job (A image j) j.returns after.registers)

      pub goes_on : MovesOn (step_of image table s t) t locks next
      unfolding perform blocked
      goes_on = moves-on image table runs next after.words none none (rw computed) refl

      pub words-after : (step_of image table s t).state.words ≡ keep (block_at image j.label) after.words s.words
      unfolding perform blocked
      words-after = own-words image table runs next after.words none none (rw computed) refl

    pub traps : (reason : ℕ) → compute a.operation p q ≡ trap reason → TrapsWith (step_of image table s t) s t reason
    unfolding perform
    traps reason computed = traps-with image table s t locks j reason busy (trapped image table runs reason (rw computed))

  -- an absent register is found before anything is computed
  pub reads-absent : (r : ℕ) → (a.left ≡ Register r) ⊎ (a.right ≡ Register r) → get_or j.registers r none ≡ none
      → TrapsWith (step_of image table s t) s t 1
  unfolding read_all
  reads-absent r place absent =
      traps-with image table s t locks j 1 busy (unread image table s t locks j (Assign a) 1 busy statement (either place))
    where
      either : (a.left ≡ Register r) ⊎ (a.right ≡ Register r) → read_all (cells_of image s j) (a.left ∷ a.right ∷ []) ≡ trap 1
      either (inl e) = rw (e, absent)
      either (inr e) = second-absent (cells_of image s j) a.left a.right (rw (e, absent))

-- ---- an operation with the sources p and q and one destination

module _ (image table : List ℕ) (s : Machine) (t locks : ℕ) (j : Job) (o : ℕ) (k : Operation) (named : operation_at assign_code o ≡ some k)
    (binary : shape k ≡ record { second = false; right = true }) where
  abbrev r : List ℕ
  r = record_at image j.label

  found : opcode r ≡ assign_code → operator r ≡ o → statement_of r ≡ Assign (assignment_of k r)
  unfolding statement_of
  found e f = rw (e, f, named)

  module _ (p q : ℕ) (d : Operand) (h : Assigns image s t locks j o d p q) where
    sources : (read (cells_of image s j) (assignment_of k r).left ≡ got p) × (read (cells_of image s j) (assignment_of k r).right ≡ got q)
    unfolding assignment_by optional
    sources = (rw (binary, h.left), rw (binary, h.right))

    one-stored : (v : ℕ) → assigned (assignment_of k r) (record { first = v; second = 0 }) (cells_of image s j)
        ≡ store d v (cells_of image s j)
    unfolding assignment_by optional
    one-stored v = rw (binary, h.destination)

    traps-of : (reason : ℕ) → compute k p q ≡ trap reason → TrapsWith (step_of image table s t) s t reason
    unfolding assignment_by
    traps-of =
        traps image table s t locks j (assignment_of k r) h.thread (found h.assign h.operation) p q sources.0 sources.1

    module _ (v : ℕ) (computed : compute k p q ≡ one v) where
      abbrev left : Cells
      left = store d v (cells_of image s j)

      after_one : MovesOn (step_of image table s t) t locks (with_held j.held (job (A image j) j.returns left.registers))
      unfolding assignment_by
      after_one =
          subst (λ (c : Cells). MovesOn (step_of image table s t) t locks (with_held j.held (job (A image j) j.returns c.registers)))
          (one-stored v)
          (goes_on image table s t locks j (assignment_of k r) h.thread (found h.assign h.operation) p q sources.0 sources.1 _
          computed)

      words_of : (step_of image table s t).state.words ≡ keep (block_at image j.label) left.words s.words
      unfolding assignment_by
      words_of =
          words-after image table s t locks j (assignment_of k r) h.thread (found h.assign h.operation) p q sources.0
          sources.1 _ computed
          ∙ ap (λ (c : Cells). keep (block_at image j.label) c.words s.words) (one-stored v)

  stores-value : (p q v : ℕ) → compute k p q ≡ one v → Stores image table s t locks j o p q v
  stores-value p q v computed = record {
    register = λ n l h.
        let m = after_one p q (Register n) h v computed in
        record { answer = m.answer; value = rw m.thread (get_or-set_same j.registers n (some v) none l) };
    word = λ w l n h.
        let m = after_one p q (Word w) h v computed in
        let e = words_of p q (Word w) h v computed in
        let b = block_at image j.label in
        let own = window b s.words in
        let z : w < length own = omega (arith, length-window b s.words) in
        let there = kept b w (set own w v) s.words l (omega (arith, length-set own w v)) n in
        record { answer = m.answer; value = rw e (there ∙ get_or-set_same own w v 0 z) };
  }

  absent-of : (i n : ℕ) → ReadsAbsent image s t locks j o i n → TrapsWith (step_of image table s t) s t 1
  unfolding assignment_by optional
  absent-of i n h =
      reads-absent image table s t locks j (assignment_of k r) h.thread (found h.assign h.operation) n (either h.place)
      h.absent
    where
      either : (i ≡ 1) ⊎ (i ≡ 2) → ((assignment_of k r).left ≡ Register n) ⊎ ((assignment_of k r).right ≡ Register n)
      either (inl e) = inl (rw binary (rw e at h.source))
      either (inr e) = inr (rw binary (rw e at h.source))

-- ---- add and multiply, each modulo 65,536

module _ (image table : List ℕ) (s : Machine) (t locks : ℕ) (j : Job) (p q v m : ℕ) (small : v < 65536) where
  pub sum : p + q ≡ v + 65536 * m → Stores image table s t locks j add_code p q v
  unfolding operation_at
  sum e = let r : (p + q) % 65536 ≡ v = omega arith in stores-value image table s t locks j add_code Add refl refl p q v (ap one r)

  pub product : p * q ≡ v + 65536 * m → Stores image table s t locks j multiply_code p q v
  unfolding operation_at
  product e =
      let r : p * q % 65536 ≡ v = omega arith in
      stores-value image table s t locks j multiply_code Multiply refl refl p q v (ap one r)

-- ---- subtract, which goes no further than zero

compute-subtract : (p q : ℕ) (b : Bool) → ltb p q ≡ b → compute Subtract p q ≡ cond b (trap 7) (one (p - q))
compute-subtract p q b e = ap (λ c. cond c (trap 7) (one (p - q))) e

module _ (image table : List ℕ) (s : Machine) (t locks : ℕ) (j : Job) where
  pub difference : (p q v : ℕ) → v + q ≡ p → Stores image table s t locks j subtract_code p q v
  unfolding operation_at
  difference p q v e =
      let r : p - q ≡ v = omega arith in
      let above : ltb p q ≡ false = le-ltb p q (omega arith) in
      stores-value image table s t locks j subtract_code Subtract refl refl p q v (compute-subtract p q false above ∙ ap one r)

  pub below-zero : (p q : ℕ) → p < q → (d : Operand) → Assigns image s t locks j subtract_code d p q
      → TrapsWith (step_of image table s t) s t 7
  unfolding operation_at
  below-zero p q l d h =
      traps-of image table s t locks j subtract_code Subtract refl refl p q d h 7 (compute-subtract p q true (lt-ltb p q l))

  pub absent-first : (i r : ℕ) → ReadsAbsent image s t locks j subtract_code i r → TrapsWith (step_of image table s t) s t 1
  unfolding operation_at
  absent-first = absent-of image table s t locks j subtract_code Subtract refl refl
