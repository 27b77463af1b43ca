-- What the head of a record that breaks no rule has: a block of the table, as many operands as there are places, and what its opcode
-- asks for.
use Rattle.std.specs.Prelude.{◌≡◌, Bool, true, false, cond, not, ◌&&◌, List, ℕ, ◌+◌, ◌≤◌, ◌<◌, eqb, leb, ltb}
use Rattle.std.proofs.lemmas.Bool.{false≢true}
use Rattle.std.proofs.Math.Option.{Option, none, some}
use Rattle.std.proofs.Common.{arith, eqb-true, leb-true, ltb-true}
use Rattle.rules.specs.Sizes.{block_count, operand_count}
use Rattle.rules.specs.Image.{opcode, block_field, entry, operator, operands, kind, value}
use Rattle.rules.specs.Statements.{shape, destinations, operation_at, others, other_in, other_at, Sources, nothing, carried, pair, usage}
use Rattle.rules.specs.Check.{assign_ok, operator_ok, count_ok, usage_ok, other_ok, shape_ok, head_ok}
use Rattle.rules.specs.declared.statement.Operation.{Operation}
use Rattle.rules.specs.declared.statement.Shape.{Shape}
use Rattle.rules.specs.declared.statement.Statement.{Statement}
use Rattle.lemmas_rules.specs.Logic.{and_both}

pub record Head (r : List ℕ) : Type 0 where
  pub block : block_field r < block_count
  pub shaped : shape_ok (operation_at (opcode r) (operator r)) r ≡ true

pub head-fields : (r : List ℕ) → head_ok r ≡ true → Head r
unfolding head_ok
head-fields r h =
    let a = and_both (ltb (block_field r) block_count && ltb (entry r) 4) (shape_ok (operation_at (opcode r) (operator r)) r) h in
    record {
      block = ltb-true (block_field r) block_count (and_both (ltb (block_field r) block_count) (ltb (entry r) 4) a.0).0;
      shaped = a.1;
    }

-- what an opcode of ASSIGN's kind has
pub record Assigning (s : Shape) (c k v k' v' : ℕ) : Type 0 where
  pub count : c ≡ destinations s + cond s.right 2 1
  pub first : leb 2 k ≡ true
  pub second : cond s.second (leb 2 k' && not (eqb k k' && eqb v v')) true ≡ true

pub assigning : (s : Shape) (c k v k' v' : ℕ) → assign_ok s c k v k' v' ≡ true → Assigning s c k v k' v'
unfolding assign_ok
assigning s c k v k' v' h =
    let a =
    and_both (eqb c (destinations s + cond s.right 2 1) && leb 2 k) (cond s.second (leb 2 k' && not (eqb k k' && eqb v v')) true) h
    in
    let b = and_both (eqb c (destinations s + cond s.right 2 1)) (leb 2 k) a.0 in
    record { count = eqb-true c _ b.0; first = b.1; second = a.1 }

least : (a b : Bool) → cond a 2 1 + cond b 2 1 ≤ 4
least true true = omega arith
least true false = omega arith
least false true = omega arith
least false false = omega arith

-- the statement of an opcode that is not of ASSIGN's kind
pub other-found : (r : List ℕ) (op : ℕ) (s : Statement) → opcode r ≡ op → other_in others op r ≡ some s → other_at r ≡ some s
unfolding other_at
other-found r op s e f = rw e f

few-read : (s : Sources) (n : ℕ) → count_ok s n ≡ true → n ≤ operand_count
few-read nothing n h = omega (arith, eqb-true n 0 h)
few-read carried n h = leb-true n operand_count h
few-read (pair p q) n h = omega (arith, eqb-true n 2 h)

few-used : (s : Option Statement) (o n : ℕ) → usage_ok s o n ≡ true → n ≤ operand_count
few-used none o n h = absurd (false≢true h)
few-used (some s) o n h = few-read (usage s).sources n (and_both (operator_ok (usage s).operators o) (count_ok (usage s).sources n) h).1

pub few-by : (k : Option Operation) (r : List ℕ) → shape_ok k r ≡ true → operands r ≤ operand_count
unfolding other_ok
few-by none r h = few-used (other_at r) (operator r) (operands r) h
few-by (some k) r h =
    omega (
      arith,
      (assigning (shape k) (operands r) (kind r 0) (value r 0) (kind r 1) (value r 1) h).count,
      least (shape k).second
          (shape k).right,
    )

pub few-operands : {r : List ℕ} → Head r → operands r ≤ operand_count
few-operands {r} h = few-by (operation_at (opcode r) (operator r)) r h.shaped
