-- A step at a record of DIVIDE: the quotient and the remainder, each in its own destination, over any operands; its traps, which store
-- nothing; and which records of it are faulty.
use mathlib.Core.Path.{◌≡◌, refl, ap, ◌∙◌}
use mathlib.Core.Logic.{◌≢◌, ◌⊎◌, inl, inr}
use mathlib.Core.Bool.{Bool, true, false, not, ◌&&◌, and-false}
use mathlib.Core.Option.{Option, none}
use mathlib.Core.List.{List}
use Prim.Native.Nat.{ℕ, zero, suc, ◌+◌, ◌*◌, ◌≤◌, ◌<◌}
use native.Mathlib.Omega.{arith}
use lib.ListN.{length, get_or}
use lib.Dec.{eqb}
use borrow.Author.Tests.{eq-eqb, ne_eqb, le-leb}
use Rattle.rules.specs.Sizes.{word_count}
use Rattle.rules.specs.Bytes.{first_bad}
use Rattle.rules.specs.Image.{labels, record_at, opcode, operator, block_field, entry, operands, kind, value}
use Rattle.rules.specs.Statements.{optional, assignment_by, assignment_of, statement_of}
use Rattle.rules.specs.Check.{assign_ok, head_ok, rule_ok, record_ok, image_length_fault, table_length_fault, table_fault}
use Rattle.rules.specs.Check.{record_fault, first_refusal}
use Rattle.rules.specs.Calls.{check_return}
use Rattle.rules.specs.Machine.{Job, job, with_held, Machine}
use Rattle.rules.specs.Effects.{got, Cells, read, both, compute, store}
use Rattle.rules.specs.Steps.{Reply, block_at}
use Rattle.rules.specs.Division.{by_zero}
use Rattle.rules.specs.Storing.{Place}
use Rattle.rules.proofs.Quotients.{computed}
use Rattle.rules.proofs.StoredBoth.{first-stored, second-stored}
use Rattle.rules.specs.declared.statement.Operand.{Operand}
use Rattle.rules.specs.declared.statement.Operand.TheVariants.{Register}
use Rattle.rules.specs.declared.statement.Operation.TheVariants.{Divide}
use Rattle.rules.specs.declared.statement.Assignment.{Assignment}
use Rattle.rules.specs.declared.statement.Statement.TheVariants.{Assign}
use Rattle.rules.proofs.Running.{cells_of, MovesOn}
use Rattle.rules.proofs.Opcodes.{step_of, A}
use Rattle.rules.proofs.Assigning.{operand, TrapsWith, goes_on, traps, reads-absent}
use Rattle.rules.proofs.Standing.{Stands, placed}
use Rattle.rules.proofs.Forms as forms
use Rattle.rules.proofs.Forms.{At, divide-form, statement-of, faulty, count-faulty, passes}

-- thread t runs this job at a record of opcode 12, of which operands 0 and 1 are the destinations d and e, and operands 2 and 3 are read as
-- p and q
pub record Divides (image : List ℕ) (s : Machine) (t locks : ℕ) (j : Job) (d e : Operand) (p q : ℕ) : Type 0 where
  pub here : At image s t locks j 12
  pub quotient : operand image j 0 ≡ d
  pub remainder : operand image j 1 ≡ e
  pub left : read (cells_of image s j) (operand image j 2) ≡ got p
  pub right : read (cells_of image s j) (operand image j 3) ≡ got q

-- an answer of 6, 0, after which the job is at A, and both values stand in their destinations
pub record BothStand (image : List ℕ) (reply : Reply) (t locks : ℕ) (j : Job) (d e : Operand) (u v : ℕ) : Type 0 where
  pub registers : List (Option ℕ)
  pub onward : MovesOn reply t locks (with_held j.held (job (A image j) j.returns registers))
  pub quotient : Stands reply.state t (block_at image j.label) d u
  pub remainder : Stands reply.state t (block_at image j.label) e v

-- ---- a step of DIVIDE

module _ (image table : List ℕ) (s : Machine) (t locks : ℕ) (j : Job) where
  abbrev a : Assignment
  a = assignment_of Divide (record_at image j.label)

  abbrev own : ℕ
  own = block_at image j.label

  statement : At image s t locks j 12 → statement_of (record_at image j.label) ≡ Assign a
  statement h = statement-of 12 Divide divide-form (record_at image j.label) h.code h.plain

  absent : (i r : ℕ) → (i ≡ 2) ⊎ (i ≡ 3) → At image s t locks j 12 → operand image j i ≡ Register r
      → get_or j.registers r none ≡ none → TrapsWith (step_of image table s t) s t 1
  unfolding assignment_by optional
  absent i r place h source = reads-absent image table s t locks j a h.thread (statement h) r (either place)
    where
      either : (i ≡ 2) ⊎ (i ≡ 3) → (a.left ≡ Register r) ⊎ (a.right ≡ Register r)
      either (inl e) = inl (rw e at source)
      either (inr e) = inr (rw e at source)

  module _ (d e : Operand) (p q : ℕ) (h : Divides image s t locks j d e p q) where
    by-zero-traps : q ≡ 0 → TrapsWith (step_of image table s t) s t 8
    unfolding assignment_by optional
    by-zero-traps z =
        traps image table s t locks j a h.here.thread (statement h.here) p q h.left h.right 8 (rw z (by_zero p))

    module _ (u v : ℕ) (f : compute Divide p q ≡ both u v) where
      abbrev left : Cells
      left = store e v (store d u (cells_of image s j))

      after : MovesOn (step_of image table s t) t locks (with_held j.held (job (A image j) j.returns left.registers))
      unfolding assignment_by optional
      after =
          rw (h.quotient, h.remainder) at
          (goes_on image table s t locks j a h.here.thread (statement h.here) p q h.left h.right _ f)

      -- of two destinations that are not equal
      module _ (differ : d ≢ e) (inside : word_count * own + word_count ≤ length s.words) (x : Place (cells_of image s j) d)
          (y : Place (cells_of image s j) e) where
        stands : (z : Operand) (n : ℕ) → Place (cells_of image s j) z → read left z ≡ got n
            → Stands (step_of image table s t).state t own z n
        unfolding assignment_by optional
        stands z n k r =
            placed image table s t locks j a h.here.thread (statement h.here) p q h.left h.right _ f inside z n k
            (rw (h.quotient, h.remainder) r)

        both-stand : BothStand image (step_of image table s t) t locks j d e u v
        both-stand = record {
          registers = left.registers;
          onward = after;
          quotient = stands d u x (first-stored (cells_of image s j) d e u v differ x);
          remainder = stands e v y (second-stored (cells_of image s j) d e u v differ y);
        }

-- ---- faulty records

-- the first place at which a test fails, where it holds before
first-bad : (ok : ℕ → Bool) (i n l : ℕ) → l < n → ((k : ℕ) → k < l → ok (i + k) ≡ true) → ok (i + l) ≡ false → first_bad ok i n ≡ i + l
unfolding first_bad
first-bad ok i zero l h before here = absurd (omega arith)
first-bad ok i (suc n) zero h before here =
    let e : ok i ≡ false = ap ok (omega arith) ∙ here in
    let z : i ≡ i + zero = omega arith in
    rw e z
first-bad ok i (suc n) (suc l) h before here =
    let e : ok i ≡ true = ap ok (omega arith) ∙ before 0 (omega arith) in
    let next : (k : ℕ) → k < l → ok (i + 1 + k) ≡ true = λ k m. ap ok (omega arith) ∙ before (suc k) (omega arith) in
    let there : ok (i + 1 + l) ≡ false = ap ok (omega arith) ∙ here in
    let z : i + 1 + l ≡ i + suc l = omega arith in
    rw e (first-bad ok (i + 1) n l (omega arith) next there ∙ z)

-- a record of opcode 12 whose destinations have the same kind and the same number
pub record EqualDestinations (r : List ℕ) : Type 0 where
  pub divide : opcode r ≡ 12
  pub kinds : kind r 0 ≡ kind r 1
  pub numbers : value r 0 ≡ value r 1

equal-faulty : (image : List ℕ) (l : ℕ) → EqualDestinations (record_at image l) → record_ok image l ≡ false
unfolding record_ok rule_ok assign_ok
equal-faulty image l h =
    let r = record_at image l in
    let same : not (eqb (kind r 0) (kind r 1) && eqb (value r 0) (value r 1)) ≡ false =
    rw (eq-eqb (kind r 0) (kind r 1) h.kinds, eq-eqb (value r 0) (value r 1) h.numbers) in
    rw (faulty 12 Divide divide-form r h.divide (rw (same, and-false, and-false)))

number-faulty : (r : List ℕ) → opcode r ≡ 12 → (kind r 0 ≡ 1) ⊎ (kind r 1 ≡ 1) → head_ok r ≡ false
unfolding assign_ok
number-faulty r e (inl k) = forms.number-faulty 12 Divide divide-form r e k
number-faulty r e (inr k) = faulty 12 Divide divide-form r e (rw (k, and-false))

-- ---- the trials

pub record Divisions (image table : List ℕ) (s : Machine) (t locks : ℕ) (j : Job) : Type 0 where
  -- "stores both results together, with p = q × quotient + remainder and remainder below q": to any two destinations that are not equal
  pub divides : (p q u v : ℕ) → p ≡ q * u + v → v < q → (d e : Operand) → d ≢ e → Place (cells_of image s j) d
      → Place (cells_of image s j) e
      → 16 * block_at image j.label + 16 ≤ length s.words → Divides image s t locks j d e p q
      → BothStand image (step_of image table s t) t locks j d e u v
  -- "A zero q traps with reason 8, after 7, and stores neither": and an absent register, operand 2 or 3, is found before it
  pub zero-divisor : (p : ℕ) (d e : Operand) → Divides image s t locks j d e p 0 → TrapsWith (step_of image table s t) s t 8
  pub absent-first : (i r : ℕ) → (i ≡ 2) ⊎ (i ≡ 3) → At image s t locks j 12 → operand image j i ≡ Register r
      → get_or j.registers r none ≡ none → TrapsWith (step_of image table s t) s t 1
  -- "Equal destinations make the record faulty under number 4": at the first label that has them, if no record before it is faulty
  pub equal-destinations : (l : ℕ) → l < labels image → EqualDestinations (record_at image l) → ((i : ℕ) → i < l → record_ok image i ≡ true)
      → image_length_fault image ≡ 0 → table_length_fault table ≡ 0 → table_fault table ≡ 0 → check_return image table ≡ 65536 * 4 + l
  -- a number as a destination, and another count of operands than four, make it faulty too
  pub number-destination : (r : List ℕ) → opcode r ≡ 12 → (kind r 0 ≡ 1) ⊎ (kind r 1 ≡ 1) → head_ok r ≡ false
  pub operand-count : (r : List ℕ) → opcode r ≡ 12 → operands r ≢ 4 → head_ok r ≡ false
  -- and others do not: registers or words of different numbers, and a register and a word of any numbers
  pub other-destinations : (r : List ℕ) → opcode r ≡ 12 → operator r ≡ 0 → block_field r < 16 → entry r < 4 → operands r ≡ 4
      → 2 ≤ kind r 0 → 2 ≤ kind r 1 → (kind r 0 ≢ kind r 1) ⊎ (value r 0 ≢ value r 1) → head_ok r ≡ true

equal-refused : (image table : List ℕ) (l : ℕ) → l < labels image → EqualDestinations (record_at image l)
    → ((i : ℕ) → i < l → record_ok image i ≡ true) → image_length_fault image ≡ 0 → table_length_fault table ≡ 0 → table_fault table ≡ 0
    → check_return image table ≡ 65536 * 4 + l
unfolding check_return record_fault first_refusal
equal-refused image table l h f before x y z =
    let bad : first_bad (record_ok image) 0 (labels image) ≡ l =
    first-bad (record_ok image) 0 (labels image) l h (λ k m. ap (record_ok image) (omega arith) ∙ before k m)
    (ap (record_ok image) (omega arith) ∙ equal-faulty image l f)
    ∙ omega arith in
    let some-bad : eqb l (labels image) ≡ false = ne_eqb l (labels image) (λ e. absurd (omega arith)) in
    let refused : eqb (65536 * 4 + l) 0 ≡ false = ne_eqb (65536 * 4 + l) 0 (λ e. absurd (omega arith)) in
    rw (x, y, z, bad, some-bad, refused)

others-pass : (r : List ℕ) → opcode r ≡ 12 → operator r ≡ 0 → block_field r < 16 → entry r < 4 → operands r ≡ 4
    → 2 ≤ kind r 0 → 2 ≤ kind r 1 → (kind r 0 ≢ kind r 1) ⊎ (value r 0 ≢ value r 1) → head_ok r ≡ true
unfolding assign_ok
others-pass r e o b f c k l n =
    passes 12 Divide divide-form r e o b f (rw (c, le-leb 2 (kind r 0) k, le-leb 2 (kind r 1) l, differ n))
  where
    differ : (kind r 0 ≢ kind r 1) ⊎ (value r 0 ≢ value r 1) → (eqb (kind r 0) (kind r 1) && eqb (value r 0) (value r 1)) ≡ false
    differ (inl h) = rw (ne_eqb (kind r 0) (kind r 1) h)
    differ (inr h) = rw (ne_eqb (value r 0) (value r 1) h, and-false)

pub divisions : (image table : List ℕ) (s : Machine) (t locks : ℕ) (j : Job) → Divisions image table s t locks j
divisions image table s t locks j = record {
  divides = λ p q u v w b d e differ x y inside h.
      let f = computed p q u v (record { whole = w; below = b }) in
      both-stand image table s t locks j d e p q h u v f differ inside x y;
  zero-divisor = λ p d e h. by-zero-traps image table s t locks j d e p 0 h refl;
  absent-first = absent image table s t locks j;
  equal-destinations = equal-refused image table;
  number-destination = number-faulty;
  operand-count = count-faulty 12 Divide divide-form;
  other-destinations = others-pass;
}
