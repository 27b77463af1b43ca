-- Which opcodes use label A, and which label B, as sets of bits: one test over the two tables of opcodes.
use Rattle.std.specs.Prelude.{◌≡◌, refl, Bool, true, false, cond, not, ◌&&◌, List, [], ◌∷◌, ℕ, ◌+◌, ◌^◌, ◌<◌, eqb, ltb}
use Rattle.std.proofs.Common.{sym, eqb-true, ltb-true}
use Rattle.std.proofs.lemmas.Bool.{false≢true}
use Rattle.std.proofs.Math.Option.{some}
use Rattle.rules.specs.Codes.{skip_code, assign_code, goto_code, if_code, send_direct_code, send_buffered_code, call_code, transfer_code}
use Rattle.rules.specs.Codes.{send_tree_code, divide_code, pack_code, unpack_code, decimal_add_code}
use Rattle.rules.specs.Bytes.{has, every}
use Rattle.rules.specs.Image.{opcode}
use Rattle.rules.specs.Statements.{Form, forms, operation_in, Other, others, other_in, statement_of}
use Rattle.rules.specs.Statements.{role_a, role_b}
use Rattle.rules.specs.Link.{used}
use Rattle.rules.specs.declared.statement.Operation.{Operation}
use Rattle.rules.specs.declared.statement.Statement.{Statement}
use Rattle.rules.specs.declared.statement.Statement.TheVariants.{Skip}
use Rattle.lemmas_rules.specs.Logic.{and_both, never}

abbrev pub using_a : ℕ
using_a =
    2 ^ skip_code + 2 ^ assign_code + 2 ^ goto_code + 2 ^ if_code + 2 ^ send_direct_code + 2 ^ send_buffered_code + 2 ^ call_code
    + 2 ^ transfer_code
    + 2 ^ send_tree_code + 2 ^ divide_code + 2 ^ pack_code + 2 ^ unpack_code + 2 ^ decimal_add_code

abbrev pub using_b : ℕ
using_b = 2 ^ if_code + 2 ^ send_buffered_code + 2 ^ call_code + 2 ^ send_tree_code

abbrev same : Bool → Bool → Bool
same true b = b
same false b = not b

same-is : (a b : Bool) → same a b ≡ true → a ≡ b
same-is true true h = refl
same-is true false h = absurd (false≢true h)
same-is false true h = absurd (false≢true h)
same-is false false h = refl

-- an opcode is in each set exactly if this statement of it uses that label
abbrev agrees : ℕ → Statement → Bool
agrees op s = same (used (role_a s)) (has op using_a) && same (used (role_b s)) (has op using_b) && ltb op 16

-- of a statement in a row: the roles do not depend on what is read from the record
abbrev other-agrees : List ℕ → Other → Bool
other-agrees r x = agrees x.opcode (x.statement r)

-- an opcode of ASSIGN's kind goes on to A, as SKIP does
abbrev form-agrees : Form → Bool
form-agrees f = agrees f.opcode Skip

pub others-agree : (r : List ℕ) → every (other-agrees r) others ≡ true
unfolding every
others-agree r = refl

pub forms-agree : every form-agrees forms ≡ true
unfolding every
forms-agree = refl

pub other-found : (xs : List Other) (r : List ℕ) (op : ℕ) (s : Statement) → every (other-agrees r) xs ≡ true → other_in xs op r ≡ some s
    → agrees op s ≡ true
unfolding every
other-found [] r op s h e = never (cc)
other-found (x ∷ xs) r op s h e =
    case (eqb op x.opcode) refl e (other-found xs r op s (and_both (other-agrees r x) (every (other-agrees r) xs) h).1)
  where
    case : (b : Bool) → eqb op x.opcode ≡ b → cond b (some (x.statement r)) (other_in xs op r) ≡ some s
        → (other_in xs op r ≡ some s → agrees op s ≡ true) → agrees op s ≡ true
    case true p q more =
        let o : op ≡ x.opcode = eqb-true op x.opcode p in
        let t : x.statement r ≡ s = cc in
        rw (o, ← t) (and_both (other-agrees r x) (every (other-agrees r) xs) h).0
    case false p q more = more q

pub form-found : (fs : List Form) (op o : ℕ) (k : Operation) → every form-agrees fs ≡ true → operation_in fs op o ≡ some k
    → agrees op Skip ≡ true
unfolding every
form-found [] op o k h e = never (cc)
form-found (f ∷ fs) op o k h e =
    case (eqb op f.opcode) refl (eqb o f.operator) e (form-found fs op o k (and_both (form-agrees f) (every form-agrees fs) h).1)
  where
    case : (b : Bool) → eqb op f.opcode ≡ b → (c : Bool) → cond (b && c) (some f.operation) (operation_in fs op o) ≡ some k
        → (operation_in fs op o ≡ some k → agrees op Skip ≡ true) → agrees op Skip ≡ true
    case true p true q more =
        let e : op ≡ f.opcode = eqb-true op f.opcode p in
        rw e (and_both (form-agrees f) (every form-agrees fs) h).0
    case true p false q more = more q
    case false p c q more = more q

-- the opcode of a record that breaks no rule of its head is in each set exactly if its statement uses that label
pub record Using (r : List ℕ) : Type 0 where
  pub a : has (opcode r) using_a ≡ used (role_a (statement_of r))
  pub b : has (opcode r) using_b ≡ used (role_b (statement_of r))
  pub small : opcode r < 16

pub using-by : (r : List ℕ) (s : Statement) → agrees (opcode r) s ≡ true → statement_of r ≡ s → Using r
using-by r s h e =
    let both = same (used (role_a s)) (has (opcode r) using_a) && same (used (role_b s)) (has (opcode r) using_b) in
    let k = and_both both (ltb (opcode r) 16) h in
    let l = and_both (same (used (role_a s)) (has (opcode r) using_a)) (same (used (role_b s)) (has (opcode r) using_b)) k.0 in
    record {
      a = rw e (sym (same-is (used (role_a s)) _ l.0));
      b = rw e (sym (same-is (used (role_b s)) _ l.1));
      small = ltb-true (opcode r) 16 k.1;
    }
