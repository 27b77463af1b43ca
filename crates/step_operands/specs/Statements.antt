-- What the statement of a record that breaks no rule has: the opcode that it says, operands within limits, and for an assignment a
-- register or a shared word as its destination; and an operator only where its opcode has one.
use Rattle.std.specs.Prelude.{◌≡◌, refl, Bool, true, false, cond, List, [], ◌∷◌, ℕ, zero, suc, ◌+◌, ◌≤◌, ◌<◌, eqb, leb}
use Rattle.std.proofs.Common.{sym, ◌∙◌, subst, arith}
use Rattle.std.proofs.Math.Bool.{and-false}
use Rattle.std.proofs.lemmas.Bool.{false≢true}
use Rattle.std.proofs.Math.Option.{Option, none, some}
use borrow.Author.Tests.{eqb-true, ne_eqb}
use Rattle.rules.specs.Sizes.{register_count, word_count}
use Rattle.rules.specs.Codes.{if_code, less_code}
use Rattle.rules.specs.Image.{opcode, operator, operands, kind, value}
use Rattle.rules.specs.Statements.{operand_of, operand_at, operation_at, shape, destinations, optional, assignment_by, assignment_of}
use Rattle.rules.specs.Statements.{condition_of, Other, others, other_in, other_at, other_or, statement_by, statement_of}
use Rattle.rules.specs.Check.{operator_ok, other_ok, shape_ok}
use Rattle.rules.specs.declared.statement.Operand.{Operand}
use Rattle.rules.specs.declared.statement.Operand.TheVariants.{Number, Register, Word}
use Rattle.rules.specs.declared.statement.Operation.{Operation}
use Rattle.rules.specs.declared.statement.Shape.{Shape}
use Rattle.rules.specs.declared.statement.Assignment.{Assignment}
use Rattle.rules.specs.declared.statement.Condition.{Condition}
use Rattle.rules.specs.declared.statement.Statement.{Statement}
use Rattle.rules.specs.declared.statement.Statement.TheVariants.{Skip, Assign, If, SendDirect, SendBuffered, Call, Return, Transfer, Exit}
use Rattle.rules.specs.declared.statement.Statement.TheVariants.{SendTree}
use Rattle.lemmas_rules.specs.Logic.{never, and_both}
use Rattle.lemmas_rules.specs.Heads.{head-fields, Assigning, assigning}
use Rattle.lemmas_rules.specs.Passed.{Parts}
use Rattle.step_operands.specs.Legal.{Fits, slot-fits}

-- ---- which opcode a statement says

abbrev Says : List ℕ → Statement → Type 0
Says r Skip = Unit {0}
Says r (Assign a) = (operation_at (opcode r) (operator r) ≡ some a.operation) × (a ≡ assignment_of a.operation r)
Says r (If c) = (other_at r ≡ some (If c)) × (opcode r ≡ if_code) × (c ≡ condition_of r)
Says r SendDirect = Unit {0}
Says r SendBuffered = Unit {0}
Says r Call = Unit {0}
Says r Return = Unit {0}
Says r Transfer = Unit {0}
Says r Exit = Unit {0}
Says r SendTree = Unit {0}

-- each row of the opcodes that are not of ASSIGN's kind
AllSay : List ℕ → List Other → Type 0
AllSay r [] = Unit {0}
AllSay r (x ∷ xs) = (opcode r ≡ x.opcode → other_at r ≡ some (x.statement r) → Says r (x.statement r)) × AllSay r xs

others-say : (r : List ℕ) → AllSay r others
unfolding AllSay
others-say r = (
  λ e f. tt,
  (
    λ e f. tt,
    (
      λ e f. (f, e, refl),
      (
        λ e f. tt,
        (λ e f. tt, (λ e f. tt, (λ e f. tt, (λ e f. tt, (λ e f. tt, (λ e f. tt, tt)))))),
      ),
    ),
  ),
)

says-in : (r : List ℕ) (xs : List Other) → AllSay r xs → other_at r ≡ other_in xs (opcode r) r
    → Says r (other_or (other_in xs (opcode r) r))
unfolding AllSay
says-in r [] h f = tt
says-in r (x ∷ xs) h f = case (eqb (opcode r) x.opcode) refl f (says-in r xs h.1)
  where
    case : (b : Bool) → eqb (opcode r) x.opcode ≡ b → other_at r ≡ cond b (some (x.statement r)) (other_in xs (opcode r) r)
        → (other_at r ≡ other_in xs (opcode r) r → Says r (other_or (other_in xs (opcode r) r)))
        → Says r (other_or (cond b (some (x.statement r)) (other_in xs (opcode r) r)))
    case true e f ih = h.0 (eqb-true (opcode r) x.opcode e) f
    case false e f ih = ih f

others-are : (r : List ℕ) → other_at r ≡ other_in others (opcode r) r
unfolding other_at
others-are r = refl

says : (r : List ℕ) → Says r (statement_of r)
unfolding statement_of assignment_by
says r = by (operation_at (opcode r) (operator r)) refl
  where
    by : (k : Option Operation) → operation_at (opcode r) (operator r) ≡ k → Says r (statement_by k r)
    by none n = subst (λ (o : Option Statement). Says r (other_or o)) (sym (others-are r)) (says-in r others (others-say r) (others-are r))
    by (some k) n = (n, refl)

-- ---- ASSIGN and its kind

-- where a value can be stored
abbrev pub Lands : Operand → Type 0
Lands (Number v) = ⊥
Lands (Register r) = r < register_count
Lands (Word w) = w < word_count

pub lands : (k v : ℕ) → leb 2 k ≡ true → Fits (operand_of k v) → Lands (operand_of k v)
unfolding operand_of
lands zero v h f = absurd (false≢true h)
lands (suc zero) v h f = absurd (false≢true h)
lands (suc (suc zero)) v h f = f
lands (suc (suc (suc k))) v h f = case (eqb (suc (suc (suc k))) 1) (eqb (suc (suc (suc k))) 2) refl refl f
  where
    case : (a b : Bool) → eqb (suc (suc (suc k))) 1 ≡ a → eqb (suc (suc (suc k))) 2 ≡ b
        → Fits (cond a (Number v) (cond b (Register v) (Word v))) → Lands (cond a (Number v) (cond b (Register v) (Word v)))
    case true b p q f = absurd (omega (arith, eqb-true (suc (suc (suc k))) 1 p))
    case false true p q f = f
    case false false p q f = f

optional-fits : (has : Bool) (r : List ℕ) (k : ℕ) → (has ≡ true → Fits (operand_at r k)) → Fits (optional has r k)
unfolding optional
optional-fits true r k h = h refl
optional-fits false r k h = tt

module _ {image r : List ℕ} (p : Parts image r) (a : Assignment) (e : statement_of r ≡ Assign a) where
  abbrev s : Shape
  s = shape a.operation

  pub assigns : (operation_at (opcode r) (operator r) ≡ some a.operation) × (a ≡ assignment_of a.operation r)
  assigns = subst (Says r) e (says r)

  pub has : Assigning s (operands r) (kind r 0) (value r 0) (kind r 1) (value r 1)
  has = assigning s (operands r) (kind r 0) (value r 0) (kind r 1) (value r 1) (rw assigns.0 at (head-fields r p.head).shaped)

  slot : (k : ℕ) → k < destinations s + cond s.right 2 1 → k < 4 → Fits (operand_at r k)
  slot k h l = slot-fits r p.slots k (omega (arith, has.count)) (omega arith)

  within : (b c : Bool)
      → (1 < cond b 2 1 + cond c 2 1) × (cond b 2 1 < cond b 2 1 + cond c 2 1) × (cond b 2 1 < 3) × (b ≡ true → 1 < cond b 2 1)
      × (c ≡ true → cond b 2 1 + 1 < cond b 2 1 + cond c 2 1)
  within true true = (omega arith, omega arith, omega arith, λ z. omega arith, λ z. omega arith)
  within true false = (omega arith, omega arith, omega arith, λ z. omega arith, λ z. absurd (false≢true z))
  within false true = (omega arith, omega arith, omega arith, λ z. absurd (false≢true z), λ z. omega arith)
  within false false = (omega arith, omega arith, omega arith, λ z. absurd (false≢true z), λ z. absurd (false≢true z))

  pub first-lands : Lands (operand_at r 0)
  unfolding operand_at
  first-lands = lands (kind r 0) (value r 0) has.first (slot 0 (omega (arith, (within s.second s.right).0)) (omega arith))

  pub second_fits : Fits (optional s.second r 1)
  second_fits = optional-fits s.second r 1 (λ z. slot 1 (within s.second s.right).0 (omega arith))

  pub left-fits : Fits (operand_at r (destinations s))
  left-fits = slot (destinations s) (within s.second s.right).1 (omega (arith, (within s.second s.right).2))

  pub right-fits : Fits (optional s.right r (destinations s + 1))
  right-fits = optional-fits s.right r (destinations s + 1) (λ z. slot (destinations s + 1) ((within s.second s.right).4 z)
      (omega (arith, (within s.second s.right).2)))

-- ---- IF

module _ {image r : List ℕ} (p : Parts image r) (c : Condition) (e : statement_of r ≡ If c) where
  said : (other_at r ≡ some (If c)) × (opcode r ≡ if_code) × (c ≡ condition_of r)
  said = subst (Says r) e (says r)

  pub tests : (opcode r ≡ if_code) × (c ≡ condition_of r)
  tests = (said.1, said.2)

  two : operands r ≡ 2
  two = case (operation_at (opcode r) (operator r)) refl (head-fields r p.head).shaped
    where
      pair : other_ok r ≡ true → operands r ≡ 2
      pair h = unfold other_ok in eqb-true (operands r) 2 (and_both (operator_ok less_code (operator r)) (eqb (operands r) 2)
          (rw said.0 at h)).1

      case : (k : Option Operation) → operation_at (opcode r) (operator r) ≡ k → shape_ok k r ≡ true → operands r ≡ 2
      case none f h = pair h
      case (some k) f h = never (let z : statement_by (some k) r ≡ If c = unfold statement_of in rw f at e in cc)

  pub tests_left : Fits (operand_at r 0)
  tests_left = slot-fits r p.slots 0 (omega (arith, two)) (omega arith)

  pub tests-right : Fits (operand_at r 1)
  tests-right = slot-fits r p.slots 1 (omega (arith, two)) (omega arith)

-- ---- operators

-- an opcode from 12 on has no operator
pub no-operator : {image r : List ℕ} → Parts image r → 12 ≤ opcode r → operator r ≡ 0
unfolding operation_at other_ok other_at
no-operator {r = r} p l = case (eqb (operator r) 0) refl
  where
    other-than : (n : ℕ) → n < 12 → eqb (opcode r) n ≡ false
    other-than n h = ne_eqb (opcode r) n (λ e. absurd (omega arith))

    unknown : other_ok r ≡ false
    unknown =
        simp (
          other-than 1 (omega arith),
          other-than 3 (omega arith),
          other-than 4 (omega arith),
          other-than 5 (omega arith),
          other-than 6 (omega arith),
          other-than 7 (omega arith),
          other-than 8 (omega arith),
          other-than 9 (omega arith),
          other-than 10 (omega arith),
          other-than 11 (omega arith),
        )

    case : (b : Bool) → eqb (operator r) 0 ≡ b → operator r ≡ 0
    case true f = eqb-true (operator r) 0 f
    case false f =
        let none_found : operation_at (opcode r) (operator r) ≡ none = simp (other-than 2 (omega arith), f, and-false) in
        let other : other_ok r ≡ true = subst (λ (k : Option Operation). shape_ok k r ≡ true) none_found (head-fields r p.head).shaped in
        absurd (false≢true (sym unknown ∙ other))
