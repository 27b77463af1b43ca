-- "Opcodes": the statement of a record, its operands, and what it uses its two labels for.
use Rattle.std.specs.Prelude.{Bool, true, false, cond, ◌&&◌, List, [], ◌∷◌, ℕ, zero, suc, ◌+◌, eqb}
use Rattle.std.proofs.Math.Option.{Option, none, some}
use Rattle.rules.specs.Codes.{skip_code, assign_code, goto_code, if_code, send_direct_code, send_buffered_code, call_code, return_code}
use Rattle.rules.specs.Codes.{transfer_code, copy_code, add_code, subtract_code, multiply_code, equal_code, less_code, exit_code}
use Rattle.rules.specs.Codes.{send_tree_code, divide_code, pack_code, unpack_code, decimal_add_code}
use Rattle.rules.specs.Codes.{number_operand_code, register_operand_code}
use Rattle.rules.specs.Image.{opcode, operator, operands, kind, value}
use Rattle.rules.specs.declared.statement.Operand.{Operand}
use Rattle.rules.specs.declared.statement.Operand.TheVariants.{Number, Register, Word}
use Rattle.rules.specs.declared.statement.Operation.{Operation}
use Rattle.rules.specs.declared.statement.Operation.TheVariants.{Copy, Add, Subtract, Multiply, Divide, Pack, Unpack, DecimalAdd}
use Rattle.rules.specs.declared.statement.Shape.{Shape}
use Rattle.rules.specs.declared.statement.Assignment.{Assignment}
use Rattle.rules.specs.declared.statement.Relation.{Relation}
use Rattle.rules.specs.declared.statement.Relation.TheVariants.{Equal, Less}
use Rattle.rules.specs.declared.statement.Condition.{Condition}
use Rattle.rules.specs.declared.statement.Statement.{Statement}
use Rattle.rules.specs.declared.statement.Statement.TheVariants.{Skip, Assign, If, SendDirect, SendBuffered, Call, Return}
use Rattle.rules.specs.declared.statement.Statement.TheVariants.{Transfer, Exit, SendTree}
use Rattle.rules.specs.declared.statement.Role.{Role}
use Rattle.rules.specs.declared.statement.Role.TheVariants.{Unused, Inner, Direct, Local, Buffered}

-- an operand is a number, a register or a shared word (kinds 1, 2, 3)
unfoldable pub operand_of : ℕ → ℕ → Operand
operand_of k v = cond (eqb k number_operand_code) (Number v) (cond (eqb k register_operand_code) (Register v) (Word v))

unfoldable pub operand_at : List ℕ → ℕ → Operand
operand_at r k = operand_of (kind r k) (value r k)

-- n operands from place k on
unfoldable pub operands_from : List ℕ → ℕ → ℕ → List Operand
operands_from r k zero = []
operands_from r k (suc n) = operand_at r k ∷ operands_from r (k + 1) n

-- ---- the opcodes of ASSIGN's kind: operands destination, second destination if any, p, q if any; on to A

-- which of the two they have
abbrev pub shape : Operation → Shape
shape Copy = record { second = false; right = false }
shape Add = record { second = false; right = true }
shape Subtract = record { second = false; right = true }
shape Multiply = record { second = false; right = true }
shape Divide = record { second = true; right = true }
shape Pack = record { second = false; right = false }
shape Unpack = record { second = false; right = false }
shape DecimalAdd = record { second = false; right = true }

-- opcode and operator of each: 2 ASSIGN, operators 1 copy p, 2 add, 3 subtract, 4 multiply; and without operator 12 DIVIDE, 13 PACK,
-- 14 UNPACK, 15 DECIMAL ADD
pub record Form : Type 0 where
  pub opcode : ℕ
  pub operator : ℕ
  pub operation : Operation

abbrev form : ℕ → ℕ → Operation → Form
form op o k = record { opcode = op; operator = o; operation = k }

abbrev pub forms : List Form
forms =
    form assign_code copy_code Copy ∷ form assign_code add_code Add ∷ form assign_code subtract_code Subtract
    ∷ form assign_code multiply_code Multiply ∷ form divide_code 0 Divide ∷ form pack_code 0 Pack ∷ form unpack_code 0 Unpack
    ∷ form decimal_add_code 0 DecimalAdd ∷ []

abbrev pub operation_in : List Form → ℕ → ℕ → Option Operation
operation_in [] op o = none
operation_in (f ∷ fs) op o = cond (eqb op f.opcode && eqb o f.operator) (some f.operation) (operation_in fs op o)

unfoldable pub operation_at : ℕ → ℕ → Option Operation
operation_at op o = operation_in forms op o

-- how many destinations there are: p is the operand after them
abbrev pub destinations : Shape → ℕ
destinations s = cond s.second 2 1

-- the operand at place k, where the operation has it
unfoldable pub optional : Bool → List ℕ → ℕ → Operand
optional has r k = cond has (operand_at r k) (Number 0)

unfoldable pub assignment_by : Operation → Shape → List ℕ → Assignment
assignment_by k s r = record {
  operation = k;
  first = operand_at r 0;
  second = optional s.second r 1;
  left = operand_at r (destinations s);
  right = optional s.right r (destinations s + 1);
}

abbrev pub assignment_of : Operation → List ℕ → Assignment
assignment_of k r = assignment_by k (shape k) r

-- ---- the others

-- operator 1 equal, 2 p less than q
unfoldable pub relation_of : ℕ → Relation
relation_of o = cond (eqb o equal_code) Equal Less

unfoldable pub condition_of : List ℕ → Condition
condition_of r = record { relation = relation_of (operator r); left = operand_at r 0; right = operand_at r 1 }

-- opcode and statement of each: 1 SKIP and 3 GOTO, 4 IF, 5 SEND direct, 6 SEND buffered, 7 CALL, 8 RETURN, 9 TRANSFER, 10 EXIT,
-- 11 SEND JOBTREE
pub record Other : Type 0 where
  pub opcode : ℕ
  pub statement : List ℕ → Statement

abbrev other : ℕ → (List ℕ → Statement) → Other
other op f = record { opcode = op; statement = f }

abbrev pub others : List Other
others =
    other skip_code (λ r. Skip) ∷ other goto_code (λ r. Skip) ∷ other if_code (λ r. If (condition_of r)) ∷ other send_direct_code
    (λ r. SendDirect)
    ∷ other send_buffered_code (λ r. SendBuffered) ∷ other call_code (λ r. Call) ∷ other return_code (λ r. Return)
    ∷ other transfer_code (λ r. Transfer) ∷ other exit_code (λ r. Exit) ∷ other send_tree_code (λ r. SendTree) ∷ []

abbrev pub other_in : List Other → ℕ → List ℕ → Option Statement
other_in [] op r = none
other_in (x ∷ xs) op r = cond (eqb op x.opcode) (some (x.statement r)) (other_in xs op r)

unfoldable pub other_at : List ℕ → Option Statement
other_at r = other_in others (opcode r) r

-- an opcode that there is not, which no checked image has, reads as EXIT
abbrev pub other_or : Option Statement → Statement
other_or none = Exit
other_or (some s) = s

abbrev pub other_of : List ℕ → Statement
other_of r = other_or (other_at r)

abbrev pub statement_by : Option Operation → List ℕ → Statement
statement_by none r = other_of r
statement_by (some k) r = Assign (assignment_of k r)

unfoldable pub statement_of : List ℕ → Statement
statement_of r = statement_by (operation_at (opcode r) (operator r)) r

-- ---- what a statement uses: operators, operands and labels

-- where it leads: on to A; on to A or to B; by a local signal to A; by a direct signal to A; on to B, with a signal to A for the job's
-- own tree; on to B, with a signal to A for a new tree; by a signal to A, with B as return label; back to the newest return label; or to
-- the end of its job
pub data Way : Type 0 where
  following branching transferring entering posting founding calling returning ending : Way

-- which operands it reads: none, two of its own, or the data operands of its record
pub data Sources : Type 0 where
  nothing carried : Sources
  pair : Operand → Operand → Sources

-- how many operators it has: 0 where the operator is unused, otherwise they are 1 to that number
pub record Usage : Type 0 where
  pub operators : ℕ
  pub sources : Sources
  pub way : Way

abbrev uses : ℕ → Sources → Way → Usage
uses n s w = record { operators = n; sources = s; way = w }

-- opcodes of ASSIGN's kind read p and q, not their destinations (their operators are those of `forms`); IF reads p and q; opcodes 5 to 9,
-- and 11, read their data
abbrev pub usage : Statement → Usage
usage Skip = uses 0 nothing following
usage (Assign a) = uses 0 (pair a.left a.right) following
usage (If c) = uses less_code (pair c.left c.right) branching
usage SendDirect = uses 0 carried entering
usage SendBuffered = uses 0 carried posting
usage SendTree = uses 0 carried founding
usage Call = uses 0 carried calling
usage Return = uses 0 carried returning
usage Transfer = uses 0 carried transferring
usage Exit = uses 0 nothing ending

abbrev pub way : Statement → Way
way s = (usage s).way

-- what a way uses label A for, and label B
abbrev pub way_a : Way → Role
way_a following = Inner
way_a branching = Inner
way_a transferring = Local
way_a entering = Direct
way_a posting = Buffered
way_a founding = Buffered
way_a calling = Direct
way_a returning = Unused
way_a ending = Unused

abbrev pub way_b : Way → Role
way_b following = Unused
way_b branching = Inner
way_b transferring = Unused
way_b entering = Unused
way_b posting = Inner
way_b founding = Inner
way_b calling = Inner
way_b returning = Unused
way_b ending = Unused

abbrev pub role_a : Statement → Role
role_a s = way_a (way s)

abbrev pub role_b : Statement → Role
role_b s = way_b (way s)

-- the operands that are read, left to right, given the data operands of the record
abbrev pub read_from : Sources → List Operand → List Operand
read_from nothing given = []
read_from carried given = given
read_from (pair p q) given = p ∷ q ∷ []

abbrev pub reads : Statement → List Operand → List Operand
reads s given = read_from (usage s).sources given

-- the data operands of a record
abbrev pub data_of : List ℕ → List Operand
data_of r = operands_from r 0 (operands r)
