-- Records of the opcodes of ASSIGN's kind that have no operator, 12 to 15: the statement of one, which are faulty, and which are not.
use mathlib.Core.Path.{◌≡◌, refl, ap, ◌∙◌}
use mathlib.Core.Logic.{◌≢◌}
use mathlib.Core.Bool.{Bool, true, false, cond, and-false}
use mathlib.Core.Option.{Option, none, some}
use mathlib.Core.List.{List}
use Prim.Native.Nat.{ℕ, ◌+◌, ◌<◌}
use lib.Dec.{eqb}
use borrow.Author.Tests.{ne_eqb, eqb-true, lt-ltb}
use Rattle.rules.specs.Image.{record_at, opcode, operator, block_field, entry, operands, kind, value}
use Rattle.rules.specs.Statements.{shape, destinations, operation_at, other_at, assignment_of, statement_of}
use Rattle.rules.specs.Check.{assign_ok, other_ok, shape_ok, head_ok}
use Rattle.rules.specs.Machine.{Job, running, Machine, thread_at}
use Rattle.rules.specs.declared.statement.Operation.{Operation}
use Rattle.rules.specs.declared.statement.Operation.TheVariants.{Divide, Pack, Unpack, DecimalAdd}
use Rattle.rules.specs.declared.statement.Statement.TheVariants.{Assign}

-- thread t holds these locks and runs this job, at whose label a record of opcode op stands, which has no operator
pub record At (image : List ℕ) (s : Machine) (t locks : ℕ) (j : Job) (op : ℕ) : Type 0 where
  pub thread : thread_at s t ≡ running locks j
  pub code : opcode (record_at image j.label) ≡ op
  pub plain : operator (record_at image j.label) ≡ 0

-- opcode op is this operation without an operator, and nothing with one
pub record WithoutOperator (op : ℕ) (k : Operation) : Type 0 where
  pub named : operation_at op 0 ≡ some k
  pub unnamed : (o : ℕ) → eqb o 0 ≡ false → operation_at op o ≡ none
  pub unknown : (r : List ℕ) → opcode r ≡ op → other_ok r ≡ false

pub divide-form : WithoutOperator 12 Divide
unfolding operation_at other_ok other_at
divide-form = record { named = refl; unnamed = λ o e. rw e refl; unknown = λ r e. rw e refl }

pub pack-form : WithoutOperator 13 Pack
unfolding operation_at other_ok other_at
pack-form = record { named = refl; unnamed = λ o e. rw e refl; unknown = λ r e. rw e refl }

pub unpack-form : WithoutOperator 14 Unpack
unfolding operation_at other_ok other_at
unpack-form = record { named = refl; unnamed = λ o e. rw e refl; unknown = λ r e. rw e refl }

pub decimal-add-form : WithoutOperator 15 DecimalAdd
unfolding operation_at other_ok other_at
decimal-add-form = record { named = refl; unnamed = λ o e. rw e refl; unknown = λ r e. rw e refl }

module _ (op : ℕ) (k : Operation) (form : WithoutOperator op k) (r : List ℕ) (here : opcode r ≡ op) where
  found : operator r ≡ 0 → operation_at (opcode r) (operator r) ≡ some k
  found o = rw (here, o) form.named

  pub statement-of : operator r ≡ 0 → statement_of r ≡ Assign (assignment_of k r)
  unfolding statement_of
  statement-of o = rw (found o)

  not_found : eqb (operator r) 0 ≡ false → shape_ok (operation_at (opcode r) (operator r)) r ≡ false
  not_found f =
      let nothing : operation_at (opcode r) (operator r) ≡ none = rw here (form.unnamed (operator r) f) in
      ap (λ (x : Option Operation). shape_ok x r) nothing ∙ form.unknown r here

  -- one with an operator is
  pub operator-faulty : operator r ≢ 0 → head_ok r ≡ false
  unfolding head_ok
  operator-faulty n = rw (not_found (ne_eqb (operator r) 0 n), and-false)

  -- one is whose operands are
  pub faulty : assign_ok (shape k) (operands r) (kind r 0) (value r 0) (kind r 1) (value r 1) ≡ false → head_ok r ≡ false
  unfolding head_ok
  faulty h = rw (case (eqb (operator r) 0) refl, and-false)
    where
      case : (b : Bool) → eqb (operator r) 0 ≡ b → shape_ok (operation_at (opcode r) (operator r)) r ≡ false
      case true f = ap (λ (x : Option Operation). shape_ok x r) (found (eqb-true (operator r) 0 f)) ∙ h
      case false f = not_found f

  pub number-faulty : kind r 0 ≡ 1 → head_ok r ≡ false
  unfolding assign_ok
  number-faulty e = faulty (rw (e, and-false))

  pub count-faulty : operands r ≢ destinations (shape k) + cond (shape k).right 2 1 → head_ok r ≡ false
  unfolding assign_ok
  count-faulty n = faulty (rw (ne_eqb (operands r) (destinations (shape k) + cond (shape k).right 2 1) n))

  -- and one is not whose operands are not, in block 0 to 15 and of entry 0 to 3
  pub passes : operator r ≡ 0 → block_field r < 16 → entry r < 4
      → assign_ok (shape k) (operands r) (kind r 0) (value r 0) (kind r 1) (value r 1) ≡ true → head_ok r ≡ true
  unfolding head_ok
  passes o b e h = rw (found o, lt-ltb (block_field r) 16 b, lt-ltb (entry r) 4 e) h
