-- The rules of a record and of the block table, and the refusals 1 to 4. A refusal is 65,536 × number + place, and 0 where its cause
-- does not apply.
use Rattle.std.specs.Prelude.{◌≡◌, Bool, true, false, cond, not, ◌&&◌, ◌||◌, List, [], ◌∷◌, ℕ, ◌+◌, ◌*◌, length, eqb, leb, ltb}
use Rattle.std.proofs.Math.Option.{Option, none, some}
use Rattle.rules.specs.Sizes.{block_count, register_count, word_count, operand_count, table_size}
use Rattle.rules.specs.Codes.{direct_code, buffered_code, number_operand_code, register_operand_code, word_operand_code}
use Rattle.rules.specs.Codes.{bad_image_length_number, bad_table_length_number, bad_table_field_number, bad_record_number}
use Rattle.rules.specs.Bytes.{all_from, first_bad, every}
use Rattle.rules.specs.Image.{labels, record_at, opcode, block_field, entry, operator, label_a, label_b, operands, kind, value, Field}
use Rattle.rules.specs.Image.{row_fields, field_at}
use Rattle.rules.specs.Statements.{shape, destinations, operation_at, other_at, statement_of, Sources, nothing, carried, pair, usage}
use Rattle.rules.specs.Statements.{role_a, role_b}
use Rattle.rules.specs.declared.statement.Operation.{Operation}
use Rattle.rules.specs.declared.statement.Shape.{Shape}
use Rattle.rules.specs.declared.statement.Statement.{Statement}
use Rattle.rules.specs.declared.statement.Role.{Role}
use Rattle.rules.specs.declared.statement.Role.TheVariants.{Unused, Inner, Direct, Local, Buffered}

-- ---- the rules of a record

-- an opcode of ASSIGN's kind: as many operands as it has; a destination is a register or a shared word, and two are not equal
unfoldable pub assign_ok : Shape → ℕ → ℕ → ℕ → ℕ → ℕ → Bool
assign_ok s c k v k' v' =
    eqb c (destinations s + cond s.right 2 1) && leb 2 k && cond s.second (leb 2 k' && not (eqb k k' && eqb v v')) true

-- any other: an operator that it has, zero if it has none, and as many operands as it reads
abbrev pub operator_ok : ℕ → ℕ → Bool
operator_ok n o = cond (eqb n 0) (eqb o 0) (leb 1 o && leb o n)

abbrev pub count_ok : Sources → ℕ → Bool
count_ok nothing c = eqb c 0
count_ok carried c = leb c operand_count
count_ok (pair p q) c = eqb c 2

abbrev pub usage_ok : Option Statement → ℕ → ℕ → Bool
usage_ok none o c = false
usage_ok (some s) o c = operator_ok (usage s).operators o && count_ok (usage s).sources c

unfoldable pub other_ok : List ℕ → Bool
other_ok r = usage_ok (other_at r) (operator r) (operands r)

abbrev pub shape_ok : Option Operation → List ℕ → Bool
shape_ok none r = other_ok r
shape_ok (some k) r = assign_ok (shape k) (operands r) (kind r 0) (value r 0) (kind r 1) (value r 1)

-- block 0 to 15, entry 0 to 3, and what the opcode asks of operator and operands
unfoldable pub head_ok : List ℕ → Bool
head_ok r = ltb (block_field r) block_count && ltb (entry r) 4 && shape_ok (operation_at (opcode r) (operator r)) r

-- a number of any value, a register 0 to 24, a shared word 0 to 15
abbrev pub operand_ok : ℕ → ℕ → Bool
operand_ok k v = eqb k number_operand_code || (eqb k register_operand_code && ltb v register_count) || (eqb k word_operand_code
    && ltb v word_count)

-- the place k for an operand: an operand where there is one, and zero where there is none
unfoldable pub operand_slot_ok : List ℕ → ℕ → Bool
operand_slot_ok r k = cond (ltb k (operands r)) (operand_ok (kind r k) (value r k)) (eqb (kind r k) 0 && eqb (value r k) 0)

-- a label v of this role, in a record of block b: where used it is below n, of the entry that its role asks for, and in the record's
-- block unless it is a signal of 5, 6, 7 or 11; where it is not used it is zero
abbrev pub role_ok : Role → ℕ → Bool → Bool → ℕ → Bool
role_ok Unused v below same e = eqb v 0
role_ok Inner v below same e = below && same
role_ok Direct v below same e = below && eqb e direct_code
role_ok Local v below same e = below && same && eqb e direct_code
role_ok Buffered v below same e = below && eqb e buffered_code

unfoldable pub label_ok : List ℕ → Role → ℕ → ℕ → Bool
label_ok image role b v = role_ok role v (ltb v (labels image)) (eqb (block_field (record_at image v)) b) (entry (record_at image v))

unfoldable pub rule_ok : List ℕ → List ℕ → Bool
rule_ok image r =
    head_ok r
    && all_from (operand_slot_ok r) 0 operand_count
    && label_ok image (role_a (statement_of r)) (block_field r) (label_a r)
    && label_ok image (role_b (statement_of r)) (block_field r) (label_b r)

-- the record at a label breaks no rule
unfoldable pub record_ok : List ℕ → ℕ → Bool
record_ok image l = rule_ok image (record_at image l)

-- ---- the rules of the block table: each field of a row is in range (thread 0 to 7, kind 0 or 1, lock 0 to 15)

abbrev pub field_ok : List ℕ → ℕ → Field → Bool
field_ok table b f = ltb (field_at table b f) f.limit

unfoldable pub row_ok : List ℕ → ℕ → Bool
row_ok table b = every (field_ok table b) row_fields

-- ---- the refusals

abbrev pub refusal : Bool → ℕ → ℕ → ℕ
refusal ok number place = cond ok 0 (65536 * number + place)

-- the first of n places at which a test fails is at fault
abbrev pub first_fault : (ℕ → Bool) → ℕ → ℕ → ℕ
first_fault ok n number = refusal (eqb (first_bad ok 0 n) n) number (first_bad ok 0 n)

-- 1: image length not 84 × n, n 1 to 512
unfoldable pub image_length_fault : List ℕ → ℕ
image_length_fault image = refusal (ltb 0 (labels image)) bad_image_length_number 0

-- 2: table not 48 bytes
unfoldable pub table_length_fault : List ℕ → ℕ
table_length_fault table = refusal (eqb (length table) table_size) bad_table_length_number 0

-- 3: table field out of range; the first block
unfoldable pub table_fault : List ℕ → ℕ
table_fault table = first_fault (row_ok table) block_count bad_table_field_number

-- 4: record breaks a rule; the first label
unfoldable pub record_fault : List ℕ → ℕ
record_fault image = first_fault (record_ok image) (labels image) bad_record_number

-- lowest number first: of a list of refusals, the first that is not 0
unfoldable pub first_refusal : List ℕ → ℕ
first_refusal [] = 0
first_refusal (x ∷ xs) = cond (eqb x 0) (first_refusal xs) x

-- the refusals that a call on one image has, before its own
abbrev pub image_faults : List ℕ → List ℕ → List ℕ → List ℕ
image_faults image table more = image_length_fault image ∷ table_length_fault table ∷ table_fault table ∷ record_fault image ∷ more

-- and those of a call that takes two images: the first before the second within a number
abbrev pub images_faults : List ℕ → List ℕ → List ℕ → List ℕ → List ℕ
images_faults first second table more =
    image_length_fault first ∷ image_length_fault second ∷ table_length_fault table ∷ table_fault table ∷ record_fault first
    ∷ record_fault second
    ∷ more

-- an image and a table that pass the check
abbrev pub Checked : List ℕ → List ℕ → Type 0
Checked image table = first_refusal (image_faults image table []) ≡ 0
