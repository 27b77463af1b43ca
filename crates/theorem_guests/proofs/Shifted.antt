-- A record with its labels shifted, by nothing and by d.
use Rattle.std.specs.Prelude.{◌≡◌, Bool, true, false, cond, List, ◌++◌, length, get_or, take, drop}
use Rattle.std.proofs.Math.Path.{refl}
use Rattle.std.proofs.Common.{sym, ap, ◌∙◌, add-zero, arith, length-take-le, get_or-drop, drop-drop}
use Rattle.std.proofs.Math.Option.{Option, none, some}
use Prim.Native.Nat.{ℕ, zero, suc, ◌+◌, ◌*◌, ◌<◌}
use Rattle.std.proofs.Math.ListN.{get_or-append}
use Rattle.std.proofs.Math.Seq.{get_or-take, drop_at}
use Rattle.rules.specs.Sizes.{block_count, operand_count, opcode_place, block_place, entry_place, operator_place}
use Rattle.rules.specs.Sizes.{label_a_place, label_b_place}
use Rattle.rules.specs.Sizes.{operand_count_place, operands_place, operand_size, record_size}
use Rattle.rules.specs.Bytes.{num16, le16}
use Rattle.rules.specs.Image.{opcode, operator, label_a, label_b, operands, kind, value}
use Rattle.rules.specs.Statements.{operand_at, operands_from, operation_at, optional, assignment_by, condition_of, other_at, statement_by}
use Rattle.rules.specs.Statements.{statement_of}
use Rattle.rules.specs.Statements.{role_a, role_b}
use Rattle.rules.specs.Check.{other_ok, shape_ok, head_ok, operand_slot_ok}
use Rattle.rules.specs.Link.{used, shift_label, shift_record}
use Rattle.rules.specs.declared.statement.Operation.{Operation}
use Rattle.rules.specs.declared.statement.Role.{Role}
use Rattle.bytes_fields.specs.Runs.{all_same}
use Rattle.lemmas_encoding.specs.Numbers.{num16-le16}
use Rattle.theorem_guests.specs.Shifted.{Shifted}

-- ---- by nothing: every record is itself

shift_none : (role : Role) (v : ℕ) → v ≡ shift_label 0 role v
shift_none role v = case (used role)
  where
    case : (u : Bool) → v ≡ cond u (v + 0) v
    case true = sym (add-zero v)
    case false = refl

pub shifted_none : (r : List ℕ) → Shifted 0 r r
shifted_none r = record {
  statement = refl;
  given = refl;
  block = refl;
  entry = refl;
  head = refl;
  slots = refl;
  a = shift_none (role_a (statement_of r)) (label_a r);
  b = shift_none (role_b (statement_of r)) (label_b r);
}

-- ---- two records that are the same before label A and from the operand count on

module _ (r r' : List ℕ) (front : (i e : ℕ) → i < label_a_place → get_or r' i e ≡ get_or r i e)
    (rest : drop operand_count_place r' ≡ drop operand_count_place r) where
  same_byte : (i : ℕ) → get_or r' (operand_count_place + i) 0 ≡ get_or r (operand_count_place + i) 0
  same_byte i = sym (get_or-drop operand_count_place r' i 0) ∙ ap (λ s. get_or s i 0) rest ∙ get_or-drop operand_count_place r i 0

  same-part : (i : ℕ) → drop (operand_count_place + i) r' ≡ drop (operand_count_place + i) r
  same-part i = sym (drop-drop i operand_count_place r') ∙ ap (λ s. drop i s) rest ∙ drop-drop i operand_count_place r

  same_kind : (k : ℕ) → kind r' k ≡ kind r k
  same_kind k =
      let e : operands_place + operand_size * k ≡ operand_count_place + (1 + operand_size * k) = omega arith in
      rw e (same_byte (1 + operand_size * k))

  same-value : (k : ℕ) → value r' k ≡ value r k
  same-value k =
      let e : operands_place + 1 + operand_size * k ≡ operand_count_place + (2 + operand_size * k) = omega arith in
      rw e (ap num16 (same-part (2 + operand_size * k)))

  same_count : operands r' ≡ operands r
  same_count = same_byte 0

  same_operand : (k : ℕ) → operand_at r' k ≡ operand_at r k
  unfolding operand_at
  same_operand k = rw (same_kind k, same-value k) refl

  same_operands : (n k : ℕ) → operands_from r' k n ≡ operands_from r k n
  unfolding operands_from
  same_operands zero k = refl
  same_operands (suc n) k = rw (same_operand k, same_operands n (k + 1)) refl

  -- the statement is made of opcode, operator and operands, whichever it is
  same-other : other_at r' ≡ other_at r
  unfolding other_at condition_of
  same-other = simp (front opcode_place 0 (omega arith), front operator_place 0 (omega arith), same_operand)

  statement-by : (k : Option Operation) → statement_by k r' ≡ statement_by k r
  unfolding assignment_by optional
  statement-by none = rw same-other refl
  statement-by (some k) = simp same_operand

  same-statement : statement_of r' ≡ statement_of r
  unfolding statement_of
  same-statement =
      rw (front opcode_place 0 (omega arith), front operator_place 0 (omega arith)) (statement-by (operation_at (opcode r) (operator r)))

  shape-by : (k : Option Operation) → shape_ok k r' ≡ shape_ok k r
  unfolding other_ok
  shape-by none = rw (same-other, front operator_place 0 (omega arith), same_count) refl
  shape-by (some k) = rw (same_count, same_kind 0, same-value 0, same_kind 1, same-value 1) refl

  same_head : head_ok r' ≡ head_ok r
  unfolding head_ok
  same_head =
      rw (
        front opcode_place 0 (omega arith),
        front block_place block_count (omega arith),
        front entry_place 0 (omega arith),
        front operator_place 0 (omega arith),
        shape-by (operation_at (opcode r) (operator r)),
      )
      refl

  same-slot : (k : ℕ) → operand_slot_ok r' k ≡ operand_slot_ok r k
  unfolding operand_slot_ok
  same-slot k = rw (same_count, same_kind k, same-value k) refl

-- ---- shifted by d

module _ (d : ℕ) (r : List ℕ) (whole : length r ≡ record_size) where
  abbrev a' : List ℕ
  a' = le16 (shift_label d (role_a (statement_of r)) (label_a r))

  abbrev b' : List ℕ
  b' = le16 (shift_label d (role_b (statement_of r)) (label_b r))

  before : length (take label_a_place r) ≡ label_a_place
  before = length-take-le label_a_place r (omega arith)

  byte-before : (i e : ℕ) → i < label_a_place → get_or (shift_record d r) i e ≡ get_or r i e
  unfolding shift_record
  byte-before i e h = get_or-append (take label_a_place r) _ e i (rw before h) ∙ get_or-take label_a_place r i e h

  labels-on : drop label_a_place (shift_record d r) ≡ a' ++ (b' ++ drop operand_count_place r)
  unfolding shift_record
  labels-on = drop_at (take label_a_place r) _ label_a_place before

  b-on : drop label_b_place (shift_record d r) ≡ b' ++ drop operand_count_place r
  b-on = sym (drop-drop 2 label_a_place (shift_record d r)) ∙ rw labels-on refl

  rest-on : drop operand_count_place (shift_record d r) ≡ drop operand_count_place r
  rest-on = sym (drop-drop 2 label_b_place (shift_record d r)) ∙ rw b-on refl

  pub shifted_by : Shifted d r (shift_record d r)
  shifted_by = record {
    statement = same-statement r (shift_record d r) byte-before rest-on;
    given =
        rw (same_count r (shift_record d r) byte-before rest-on)
        (same_operands r (shift_record d r) byte-before rest-on (operands r) 0);
    block = byte-before block_place block_count (omega arith);
    entry = byte-before entry_place 0 (omega arith);
    head = same_head r (shift_record d r) byte-before rest-on;
    slots = all_same _ _ 0 operand_count (λ k p q. same-slot r (shift_record d r) byte-before rest-on k);
    a = ap num16 labels-on ∙ num16-le16 _ (b' ++ drop operand_count_place r);
    b = ap num16 b-on ∙ num16-le16 _ (drop operand_count_place r);
  }
