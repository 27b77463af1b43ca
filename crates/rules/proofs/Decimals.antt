-- A step at a record of PACK, UNPACK or DECIMAL ADD: what it stores, over any operands; its traps, which store nothing; and which records
-- of them are faulty.
use mathlib.Core.Path.{◌≡◌, refl, ap}
use mathlib.Core.Logic.{◌≢◌, ◌⊎◌, inl, inr}
use mathlib.Core.Bool.{true, false, cond, and-false}
use mathlib.Core.Option.{Option, none}
use mathlib.Core.List.{List}
use Prim.Native.Nat.{ℕ, ◌+◌, ◌*◌, ◌≤◌, ◌<◌}
use native.Mathlib.Omega.{arith}
use lib.ListN.{length, get_or}
use borrow.Author.Tests.{lt-ltb, le-ltb, le-leb, eq-eqb}
use Rattle.rules_decimal.specs.WrittenOut.{Below}
use Rattle.rules_decimal.proofs.WrittenOut as written
use Rattle.rules_decimal.proofs.WrittenOut.{all-decimal, one-above}
use Rattle.rules.specs.Image.{record_at, opcode, operator, block_field, entry, operands, kind}
use Rattle.rules.specs.Statements.{shape, optional, assignment_by, assignment_of, statement_of}
use Rattle.rules.specs.Check.{assign_ok, head_ok}
use Rattle.rules.specs.Machine.{Job, job, with_held, Machine}
use Rattle.rules.specs.Effects.{trap, got, read, one, compute, assigned}
use Rattle.rules.specs.Steps.{Reply, block_at}
use Rattle.rules.specs.Storing.{Place, read-stored}
use Rattle.rules.specs.declared.statement.Operand.{Operand}
use Rattle.rules.specs.declared.statement.Operand.TheVariants.{Register}
use Rattle.rules.specs.declared.statement.Operation.{Operation}
use Rattle.rules.specs.declared.statement.Operation.TheVariants.{Pack, Unpack, DecimalAdd}
use Rattle.rules.specs.declared.statement.Assignment.{Assignment}
use Rattle.rules.specs.declared.statement.Statement.TheVariants.{Assign}
use Rattle.rules.proofs.Running.{cells_of, MovesOn}
use Rattle.rules.proofs.Opcodes.{step_of, A}
use Rattle.rules.proofs.Assigning.{operand, TrapsWith, goes_on, traps, reads-absent}
use Rattle.rules.proofs.Standing.{Stands, placed}
use Rattle.rules.proofs.Forms.{At, WithoutOperator, pack-form, unpack-form, decimal-add-form, statement-of, operator-faulty}
use Rattle.rules.proofs.Forms.{number-faulty, count-faulty, passes}

-- thread t runs this job at a record of opcode op, of which operand 0 is the destination z, and operand 1 is read as p
pub record Takes (image : List ℕ) (s : Machine) (t locks : ℕ) (j : Job) (op : ℕ) (z : Operand) (p : ℕ) : Type 0 where
  pub here : At image s t locks j op
  pub destination : operand image j 0 ≡ z
  pub left : read (cells_of image s j) (operand image j 1) ≡ got p

-- an answer of 6, 0, after which the job is at A, and the value stands in its destination
pub record OneStands (image : List ℕ) (reply : Reply) (t locks : ℕ) (j : Job) (z : Operand) (v : ℕ) : Type 0 where
  pub registers : List (Option ℕ)
  pub onward : MovesOn reply t locks (with_held j.held (job (A image j) j.returns registers))
  pub value : Stands reply.state t (block_at image j.label) z v

-- ---- a step of an operation with one destination and no operator

module _ (image table : List ℕ) (s : Machine) (t locks : ℕ) (j : Job) (op : ℕ) (k : Operation) (form : WithoutOperator op k)
    (here : At image s t locks j op) where
  abbrev a : Assignment
  a = assignment_of k (record_at image j.label)

  statement : statement_of (record_at image j.label) ≡ Assign a
  statement = statement-of op k form (record_at image j.label) here.code here.plain

  absent : (r : ℕ) → (a.left ≡ Register r) ⊎ (a.right ≡ Register r) → get_or j.registers r none ≡ none
      → TrapsWith (step_of image table s t) s t 1
  absent = reads-absent image table s t locks j a here.thread statement

  module _ (p q : ℕ) (left : read (cells_of image s j) a.left ≡ got p) (right : read (cells_of image s j) a.right ≡ got q) where
    traps-by : (reason : ℕ) → compute k p q ≡ trap reason → TrapsWith (step_of image table s t) s t reason
    unfolding assignment_by
    traps-by = traps image table s t locks j a here.thread statement p q left right

    one-stands : (v : ℕ) → compute k p q ≡ one v → (shape k).second ≡ false → (z : Operand) → operand image j 0 ≡ z
        → Place (cells_of image s j) z → 16 * block_at image j.label + 16 ≤ length s.words
        → OneStands image (step_of image table s t) t locks j z v
    unfolding assignment_by optional
    one-stands v computed single z destination place inside = record {
      registers = (assigned a (record { first = v; second = 0 }) (cells_of image s j)).registers;
      onward = goes_on image table s t locks j a here.thread statement p q left right _ computed;
      value =
          placed image table s t locks j a here.thread statement p q left right _ computed inside z v place
          (rw (single, destination) (read-stored (cells_of image s j) z v place));
    }

-- ---- the trials

-- the destination is a register or a word that there is
abbrev pub Fits : List ℕ → Machine → Job → Operand → Type 0
Fits image s j z = Place (cells_of image s j) z × (16 * block_at image j.label + 16 ≤ length s.words)

-- one of the three opcodes, and how many operands it has
abbrev pub Decimal : ℕ → ℕ → Type 0
Decimal op n = ((op ≡ 13) × (n ≡ 2)) ⊎ ((op ≡ 14) × (n ≡ 2)) ⊎ ((op ≡ 15) × (n ≡ 3))

abbrev pub OneAbove : ℕ → ℕ → ℕ → ℕ → Type 0
OneAbove a b c d = Below 16 a b c d × ((9 < a) ⊎ (9 < b) ⊎ (9 < c) ⊎ (9 < d))

pub record Decimals (image table : List ℕ) (s : Machine) (t locks : ℕ) (j : Job) : Type 0 where
  -- "four decimal digits in 16 bits, four bits each, the highest first": packed, and unpacked
  pub packs : (a b c d : ℕ) → Below 10 a b c d → (z : Operand) → Fits image s j z
      → Takes image s t locks j 13 z (1000 * a + 100 * b + 10 * c + d)
      → OneStands image (step_of image table s t) t locks j z (4096 * a + 256 * b + 16 * c + d)
  pub unpacks : (a b c d : ℕ) → Below 10 a b c d → (z : Operand) → Fits image s j z
      → Takes image s t locks j 14 z (4096 * a + 256 * b + 16 * c + d)
      → OneStands image (step_of image table s t) t locks j z (1000 * a + 100 * b + 10 * c + d)
  -- "15 adds two packed numbers modulo 10,000"
  pub adds : (a b c d e f g h i k l m n : ℕ) → Below 10 a b c d → Below 10 e f g h → Below 10 i k l m
      → 1000 * a + 100 * b + 10 * c + d + (1000 * e + 100 * f + 10 * g + h) ≡ 1000 * i + 100 * k + 10 * l + m + 10000 * n
      → (z : Operand) → Fits image s j z → Takes image s t locks j 15 z (4096 * a + 256 * b + 16 * c + d)
      → read (cells_of image s j) (operand image j 2) ≡ got (4096 * e + 256 * f + 16 * g + h)
      → OneStands image (step_of image table s t) t locks j z (4096 * i + 256 * k + 16 * l + m)
  -- "Packing above 9,999, or a digit above 9 in what is unpacked or added, traps with reason 9": and stores nothing
  pub above-9999 : (p : ℕ) → 9999 < p → (z : Operand) → Takes image s t locks j 13 z p → TrapsWith (step_of image table s t) s t 9
  pub unpacked-digit : (a b c d : ℕ) → OneAbove a b c d → (z : Operand)
      → Takes image s t locks j 14 z (4096 * a + 256 * b + 16 * c + d) → TrapsWith (step_of image table s t) s t 9
  pub first-digit : (a b c d q : ℕ) → OneAbove a b c d → (z : Operand) → Takes image s t locks j 15 z (4096 * a + 256 * b + 16 * c + d)
      → read (cells_of image s j) (operand image j 2) ≡ got q → TrapsWith (step_of image table s t) s t 9
  pub second-digit : (a b c d p : ℕ) → OneAbove a b c d → (z : Operand) → Takes image s t locks j 15 z p
      → read (cells_of image s j) (operand image j 2) ≡ got (4096 * a + 256 * b + 16 * c + d) → TrapsWith (step_of image table s t) s t 9
  -- an absent register is found before that: operand 1 of each, and operand 2 of DECIMAL ADD
  pub absent-first : (op n r : ℕ) → Decimal op n → At image s t locks j op
      → (operand image j 1 ≡ Register r) ⊎ ((n ≡ 3) × (operand image j 2 ≡ Register r)) → get_or j.registers r none ≡ none
      → TrapsWith (step_of image table s t) s t 1
  -- an operator, a number as destination, and another count of operands break the rules of a record's head; without these it breaks none
  pub with-operator : (op n : ℕ) (r : List ℕ) → Decimal op n → opcode r ≡ op → operator r ≢ 0 → head_ok r ≡ false
  pub number-destination : (op n : ℕ) (r : List ℕ) → Decimal op n → opcode r ≡ op → kind r 0 ≡ 1 → head_ok r ≡ false
  pub operand-count : (op n : ℕ) (r : List ℕ) → Decimal op n → opcode r ≡ op → operands r ≢ n → head_ok r ≡ false
  pub well-formed : (op n : ℕ) (r : List ℕ) → Decimal op n → opcode r ≡ op → operator r ≡ 0 → block_field r < 16 → entry r < 4
      → operands r ≡ n → 2 ≤ kind r 0 → head_ok r ≡ true

module _ (image table : List ℕ) (s : Machine) (t locks : ℕ) (j : Job) where
  -- of PACK and UNPACK, which have no q
  module _ (op : ℕ) (k : Operation) (form : WithoutOperator op k) (one-source : shape k ≡ record { second = false; right = false })
      (z : Operand) (p : ℕ) (h : Takes image s t locks j op z p) where
    left : read (cells_of image s j) (assignment_of k (record_at image j.label)).left ≡ got p
    unfolding assignment_by
    left = rw one-source h.left

    right : read (cells_of image s j) (assignment_of k (record_at image j.label)).right ≡ got 0
    unfolding assignment_by optional
    right = rw one-source refl

    unary : (v : ℕ) → compute k p 0 ≡ one v → Fits image s j z → OneStands image (step_of image table s t) t locks j z v
    unary v e fits =
        one-stands image table s t locks j op k form h.here p 0 left right v e (rw one-source refl) z h.destination fits.0
        fits.1

    unary-traps : (reason : ℕ) → compute k p 0 ≡ trap reason → TrapsWith (step_of image table s t) s t reason
    unary-traps = traps-by image table s t locks j op k form h.here p 0 left right

  absent-operand : (op n r : ℕ) → Decimal op n → At image s t locks j op
      → (operand image j 1 ≡ Register r) ⊎ ((n ≡ 3) × (operand image j 2 ≡ Register r)) → get_or j.registers r none ≡ none
      → TrapsWith (step_of image table s t) s t 1
  unfolding assignment_by optional
  absent-operand op n r (inl o) h (inl e) = absent image table s t locks j 13 Pack pack-form (rw o.0 at h) r (inl e)
  absent-operand op n r (inr (inl o)) h (inl e) = absent image table s t locks j 14 Unpack unpack-form (rw o.0 at h) r (inl e)
  absent-operand op n r (inr (inr o)) h (inl e) =
      absent image table s t locks j 15 DecimalAdd decimal-add-form (rw o.0 at h) r (inl e)
  absent-operand op n r (inl o) h (inr e) = let p = o.1 in let q = e.0 in absurd (omega arith)
  absent-operand op n r (inr (inl o)) h (inr e) = let p = o.1 in let q = e.0 in absurd (omega arith)
  absent-operand op n r (inr (inr o)) h (inr e) =
      absent image table s t locks j 15 DecimalAdd decimal-add-form (rw o.0 at h) r (inr e.1)

-- a fact of all three, from their forms
each : (P : ℕ → ℕ → Type 0) → P 13 2 → P 14 2 → P 15 3 → (op n : ℕ) → Decimal op n → P op n
each P x y z op n (inl e) = rw (e.0, e.1) x
each P x y z op n (inr (inl e)) = rw (e.0, e.1) y
each P x y z op n (inr (inr e)) = rw (e.0, e.1) z

-- with the right number of operands, and a register or a word as destination
passes-with : (op n : ℕ) (k : Operation) → WithoutOperator op k → (shape k).second ≡ false → n ≡ 1 + cond (shape k).right 2 1
    → (r : List ℕ) → opcode r ≡ op → operator r ≡ 0 → block_field r < 16 → entry r < 4 → operands r ≡ n → 2 ≤ kind r 0 → head_ok r ≡ true
unfolding assign_ok
passes-with op n k form single counted r e o b f c d =
    passes op k form r e o b f (rw (single, c, counted, eq-eqb (1 + cond (shape k).right 2 1) _ refl, le-leb 2 (kind r 0) d))

pub decimals : (image table : List ℕ) (s : Machine) (t locks : ℕ) (j : Job) → Decimals image table s t locks j
unfolding assignment_by optional assign_ok
decimals image table s t locks j = record {
  packs = λ a b c d h z fits k.
      let up_to : 1000 * a + 100 * b + 10 * c + d ≤ 9999 = omega arith in
      unary image table s t locks j 13 Pack pack-form refl z _ k _
      (rw (le-ltb 9999 (1000 * a + 100 * b + 10 * c + d) up_to) (ap one (written.packs a b c d h))) fits;
  unpacks = λ a b c d h z fits k.
      unary image table s t locks j 14 Unpack unpack-form refl z _ k _
      (rw (all-decimal a b c d h) (ap one (written.unpacks a b c d h))) fits;
  adds = λ a b c d e f g h i k l m n x y v total z fits p q.
      one-stands image table s t locks j 15 DecimalAdd decimal-add-form p.here _ _ p.left q _
      (rw (all-decimal a b c d x, all-decimal e f g h y) (ap one (written.adds a b c d e f g h i k l m n x y v total))) refl z
      p.destination fits.0 fits.1;
  above-9999 = λ p l z k. unary-traps image table s t locks j 13 Pack pack-form refl z p k 9 (rw (lt-ltb 9999 p l));
  unpacked-digit = λ a b c d h z k.
      unary-traps image table s t locks j 14 Unpack unpack-form refl z _ k 9 (rw (one-above a b c d h.0 h.1));
  first-digit = λ a b c d q h z k e.
      traps-by image table s t locks j 15 DecimalAdd decimal-add-form k.here _ q k.left e 9 (rw (one-above a b c d h.0 h.1));
  second-digit = λ a b c d p h z k e.
      traps-by image table s t locks j 15 DecimalAdd decimal-add-form k.here p _ k.left e 9
      (rw (one-above a b c d h.0 h.1, and-false));
  absent-first = absent-operand image table s t locks j;
  with-operator = λ op n r.
      each (λ o m. opcode r ≡ o → operator r ≢ 0 → head_ok r ≡ false) (operator-faulty 13 Pack pack-form r)
      (operator-faulty 14 Unpack unpack-form r) (operator-faulty 15 DecimalAdd decimal-add-form r) op n;
  number-destination = λ op n r.
      each (λ o m. opcode r ≡ o → kind r 0 ≡ 1 → head_ok r ≡ false) (number-faulty 13 Pack pack-form r)
      (number-faulty 14 Unpack unpack-form r) (number-faulty 15 DecimalAdd decimal-add-form r) op n;
  operand-count = λ op n r.
      each (λ o m. opcode r ≡ o → operands r ≢ m → head_ok r ≡ false) (count-faulty 13 Pack pack-form r)
      (count-faulty 14 Unpack unpack-form r) (count-faulty 15 DecimalAdd decimal-add-form r) op n;
  well-formed = λ op n r.
      each (λ o m. opcode r ≡ o → operator r ≡ 0 → block_field r < 16 → entry r < 4 → operands r ≡ m → 2 ≤ kind r 0 → head_ok r ≡ true)
      (passes-with 13 2 Pack pack-form refl refl r) (passes-with 14 2 Unpack unpack-form refl refl r)
      (passes-with 15 3 DecimalAdd decimal-add-form refl refl r) op n;
}
