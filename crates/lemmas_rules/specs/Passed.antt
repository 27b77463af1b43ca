-- What an image and a block table that pass the check have, and what a record that breaks no rule has.
use Rattle.std.specs.Prelude.{◌≡◌, refl, Bool, true, false, ◌&&◌, List, [], ℕ, ◌<◌, eqb, ltb, length}
use Rattle.std.proofs.Common.{arith, ltb-true, eqb-true}
use Rattle.rules.specs.Codes.{bad_table_field_number, bad_record_number}
use Rattle.rules.specs.Sizes.{thread_count, block_kind_count, lock_count, block_count, operand_count, table_size}
use Rattle.rules.specs.Bytes.{all_from, every}
use Rattle.rules.specs.Image.{labels, record_at, block_field, entry, label_a, label_b, Row, row_at, field_at}
use Rattle.rules.specs.Image.{thread_field, kind_field, lock_field}
use Rattle.rules.specs.Statements.{statement_of, role_a, role_b}
use Rattle.rules.specs.Check.{head_ok, operand_slot_ok, role_ok, label_ok, rule_ok, record_ok, field_ok, row_ok, first_refusal}
use Rattle.rules.specs.Check.{image_faults, images_faults}
use Rattle.rules.specs.Check.{image_length_fault, Checked}
use Rattle.rules.specs.Check.{table_length_fault, table_fault, record_fault}
use Rattle.rules.specs.Link.{used}
use Rattle.rules.specs.declared.statement.Role.{Role}
use Rattle.rules.specs.declared.statement.Role.TheVariants.{Unused, Inner, Direct, Local, Buffered}
use Rattle.lemmas_rules.specs.Logic.{and_both}
use Rattle.lemmas_rules.specs.Faults.{first-of-zero, refusal-zero, fault-free}

-- numbers 1 to 4 do not apply
pub record Passed (image table : List ℕ) : Type 0 where
  pub some_labels : 0 < labels image
  pub whole_table : length table ≡ table_size
  pub rows : (b : ℕ) → b < block_count → row_ok table b ≡ true
  pub records : (l : ℕ) → l < labels image → record_ok image l ≡ true

-- of any call that is accepted, whatever refusals it has besides
pub passed : (image table more : List ℕ) → first_refusal (image_faults image table more) ≡ 0 → Passed image table × (first_refusal more ≡ 0)
unfolding image_length_fault table_length_fault table_fault record_fault
passed image table more h =
    let one = first-of-zero _ _ h in
    let two = first-of-zero _ _ one.1 in
    let three = first-of-zero _ _ two.1 in
    let four = first-of-zero _ _ three.1 in (
      record {
        some_labels = ltb-true 0 (labels image) (refusal-zero _ 1 0 (omega arith) one.0);
        whole_table = eqb-true (length table) table_size (refusal-zero _ 2 0 (omega arith) two.0);
        rows = fault-free (row_ok table) block_count bad_table_field_number (omega arith) three.0;
        records = fault-free (record_ok image) (labels image) bad_record_number (omega arith) four.0;
      },
      four.1,
    )

-- none of the image check's four refusals applies: of one the other
pub record Faultless (image table : List ℕ) : Type 0 where
  pub image_length : image_length_fault image ≡ 0
  pub table_length : table_length_fault table ≡ 0
  pub rows : table_fault table ≡ 0
  pub records : record_fault image ≡ 0

pub faultless : (image table : List ℕ) → Checked image table → Faultless image table
faultless image table h =
    let one = first-of-zero _ _ h in
    let two = first-of-zero _ _ one.1 in
    let three = first-of-zero _ _ two.1 in
    let four = first-of-zero _ _ three.1 in
    record { image_length = one.0; table_length = two.0; rows = three.0; records = four.0 }

pub checked-by : (image table : List ℕ) → Faultless image table → Checked image table
unfolding first_refusal
checked-by image table k = rw (k.image_length, k.table_length, k.rows, k.records) refl

-- of a call that takes two images: both pass
pub both-checked : (first second table more : List ℕ) → first_refusal (images_faults first second table more) ≡ 0
    → Checked first table × Checked second table × (first_refusal more ≡ 0)
both-checked first second table more h =
    let a = first-of-zero _ _ h in
    let b = first-of-zero _ _ a.1 in
    let c = first-of-zero _ _ b.1 in
    let d = first-of-zero _ _ c.1 in
    let e = first-of-zero _ _ d.1 in
    let f = first-of-zero _ _ e.1 in
    let one : Faultless first table = record { image_length = a.0; table_length = c.0; rows = d.0; records = e.0 } in
    let two : Faultless second table = record { image_length = b.0; table_length = c.0; rows = d.0; records = f.0 } in
    (checked-by first table one, checked-by second table two, f.1)

pub both-passed : (first second table more : List ℕ) → first_refusal (images_faults first second table more) ≡ 0
    → Passed first table × Passed second table × (first_refusal more ≡ 0)
both-passed first second table more h =
    let k = both-checked first second table more h in
    ((passed first table [] k.0).0, (passed second table [] k.1).0, k.2)

-- the fields of a row, each in range
pub record RowIn (r : Row) : Type 0 where
  pub thread : r.thread < thread_count
  pub kind : r.kind < block_kind_count
  pub lock : r.lock < lock_count

pub row_in : (image table : List ℕ) (b : ℕ) → Passed image table → b < block_count → RowIn (row_at table b)
unfolding row_ok row_at every
row_in image table b p h =
    let thread : Bool = field_ok table b thread_field in
    let kind : Bool = field_ok table b kind_field in
    let lock : Bool = field_ok table b lock_field in
    let k = and_both thread _ (p.rows b h) in
    record {
      thread = ltb-true (field_at table b thread_field) thread_count k.0;
      kind = ltb-true (field_at table b kind_field) block_kind_count (and_both kind _ k.1).0;
      lock = ltb-true (field_at table b lock_field) lock_count (and_both lock _ (and_both kind _ k.1).1).0;
    }

-- past the last label there is no record
pub no_record : (image : List ℕ) (l : ℕ) → ltb l (labels image) ≡ false → record_at image l ≡ []
unfolding record_at
no_record image l h = rw h refl

-- a record that breaks no rule: its head, its operands, and its labels A and B
pub record Parts (image r : List ℕ) : Type 0 where
  pub head : head_ok r ≡ true
  pub slots : all_from (operand_slot_ok r) 0 operand_count ≡ true
  pub a : label_ok image (role_a (statement_of r)) (block_field r) (label_a r) ≡ true
  pub b : label_ok image (role_b (statement_of r)) (block_field r) (label_b r) ≡ true

pub rule-parts : (image r : List ℕ) → rule_ok image r ≡ true → Parts image r
unfolding rule_ok
rule-parts image r h =
    let head : Bool = head_ok r in
    let slots : Bool = all_from (operand_slot_ok r) 0 operand_count in
    let a : Bool = label_ok image (role_a (statement_of r)) (block_field r) (label_a r) in
    let b : Bool = label_ok image (role_b (statement_of r)) (block_field r) (label_b r) in
    let all = and_both (head && slots && a) b h in
    let front = and_both (head && slots) a all.0 in
    record { head = (and_both head slots front.0).0; slots = (and_both head slots front.0).1; a = front.1; b = all.1 }

-- a label that is used is below n
role-below : (role : Role) (v : ℕ) (below same : Bool) (e : ℕ) → role_ok role v below same e ≡ true → used role ≡ true → below ≡ true
role-below role v true same e h u = refl
role-below Unused v false same e h u = u
role-below Inner v false same e h u = h
role-below Direct v false same e h u = h
role-below Local v false same e h u = h
role-below Buffered v false same e h u = h

pub label-below : (image : List ℕ) (role : Role) (b v : ℕ) → label_ok image role b v ≡ true → used role ≡ true → v < labels image
unfolding label_ok
label-below image role b v h u =
    ltb-true v (labels image)
    (role-below role v (ltb v (labels image)) (eqb (block_field (record_at image v)) b) (entry (record_at image v)) h u)
