-- The linked image passes the image check: a record that breaks no rule in its guest's image breaks none where it stands in the linked
-- image, for its used labels lead there to the records that they led to, with their labels shifted.
use Rattle.std.specs.Prelude.{◌≡◌, ◌⊎◌, List, [], ℕ, ◌+◌, ◌≤◌, ◌<◌}
use Rattle.std.proofs.Math.Path.{refl}
use Rattle.std.proofs.Common.{inl, inr, add-zero, arith}
use Rattle.std.proofs.Math.Bool.{true}
use Rattle.std.proofs.Math.Dec.{ltb}
use borrow.Author.Tests.{leb-true, lt-ltb, not-true}
use Rattle.rules.specs.Sizes.{record_count}
use Rattle.rules.specs.Codes.{bad_record_number, shared_block_number, too_many_records_number}
use Rattle.rules.specs.Image.{labels, record_at, block_field, label_a, label_b}
use Rattle.rules.specs.Statements.{statement_of, role_a, role_b}
use Rattle.rules.specs.Check.{label_ok, rule_ok, record_ok, image_length_fault, record_fault, Checked}
use Rattle.rules.specs.Calls.{shared_block_fault, too_many_records_fault, check_return, link_return, link_out}
use Rattle.rules.specs.Link.{shift_label, linked, share_block}
use Rattle.rules.specs.declared.statement.Role.{Role}
use Rattle.rules.specs.declared.statement.Role.TheVariants.{Unused, Inner, Direct, Local, Buffered}
use Rattle.bytes_fields.specs.Runs.{no-fault}
use Rattle.lemmas_rules.specs.Faults.{first-of-zero, refusal-zero}
use Rattle.lemmas_rules.specs.Passed.{Passed, passed, faultless, checked-by, both-checked, rule-parts, label-below}
use Rattle.theorem_guests.specs.Shifted.{Shifted}
use Rattle.theorem_guests.specs.Parts.{Part, Fits}
use Rattle.theorem_guests.proofs.Parts.{labels-linked, first_part, second-part, either}
use Rattle.theorem_guests.specs.Passes.{LinkAccepted, same-below}

-- ---- a part's records

module _ (d : ℕ) (G L : List ℕ) (part : Part d G L) where
  -- a label that breaks no rule breaks none, shifted: it leads to a record of the same block and the same entry
  label-ok : (role : Role) (b v : ℕ) → label_ok G role b v ≡ true → label_ok L role b (shift_label d role v) ≡ true
  unfolding label_ok
  label-ok Unused b v h = h
  label-ok Inner b v h =
      let k : v < labels G = label-below G Inner b v h refl in
      rw (same-below d G L part v k, (part.at v k).block) h
  label-ok Direct b v h =
      let k : v < labels G = label-below G Direct b v h refl in
      rw (same-below d G L part v k, (part.at v k).entry) h
  label-ok Local b v h =
      let k : v < labels G = label-below G Local b v h refl in
      rw (same-below d G L part v k, (part.at v k).block, (part.at v k).entry) h
  label-ok Buffered b v h =
      let k : v < labels G = label-below G Buffered b v h refl in
      rw (same-below d G L part v k, (part.at v k).entry) h

  -- A RECORD THAT BREAKS NO RULE BREAKS NONE WHERE IT STANDS IN THE LINKED IMAGE
  pub record-passes : (l : ℕ) → l < labels G → record_ok G l ≡ true → record_ok L (l + d) ≡ true
  unfolding record_ok rule_ok
  record-passes l h ok =
      let r = record_at G l in
      let k : Shifted d r (record_at L (l + d)) = part.at l h in
      let p = rule-parts G r ok in
      rw (
        k.head,
        p.head,
        k.slots,
        p.slots,
        k.statement,
        k.block,
        k.a,
        k.b,
        label-ok (role_a (statement_of r)) (block_field r) (label_a r) p.a,
        label-ok (role_b (statement_of r)) (block_field r) (label_b r) p.b,
      )
      refl

-- ---- the whole image

module _ (first second table : List ℕ) (checked-first : Checked first table) (checked-second : Checked second table)
    (few : labels first + labels second ≤ record_count) where
  abbrev L : List ℕ
  L = linked first second

  passed_first : Passed first table
  passed_first = (passed first table [] checked-first).0

  passed-second : Passed second table
  passed-second = (passed second table [] checked-second).0

  pub fits : Fits first second
  fits = record { some_first = passed_first.some_labels; some_second = passed-second.some_labels; few = few }

  linked-record : (l : ℕ) → l < labels L → record_ok L l ≡ true
  linked-record l h = case (either first second fits l h)
    where
      case : (l < labels first) ⊎ ((m : ℕ) × (m < labels second) × (l ≡ m + labels first)) → record_ok L l ≡ true
      case (inl k) =
          rw (add-zero l) at
          (record-passes 0 first L (first_part first second fits) l k (passed_first.records l k))
      case (inr k) =
          rw k.2
          (record-passes (labels first) second L (second-part first second fits) k.0 k.1
          (passed-second.records k.0 k.1))

  -- THE LINKED IMAGE PASSES THE IMAGE CHECK
  pub linked-checked : Checked L table
  unfolding image_length_fault record_fault
  linked-checked =
      let n : labels L ≡ labels first + labels second = labels-linked first second fits in
      let k = faultless first table checked-first in
      let some-labels : ltb 0 (labels L) ≡ true = lt-ltb 0 (labels L) (omega (arith, fits.some_first)) in
      checked-by L table (record {
        image_length = rw some-labels refl;
        table_length = k.table_length;
        rows = k.rows;
        records = no-fault (record_ok L) (labels L) bad_record_number linked-record;
      })

-- ---- the call

pub link-accepted : (first second table out : List ℕ) → link_return first second table out ≡ 0 → LinkAccepted first second table out
unfolding link_return link_out shared_block_fault too_many_records_fault
link-accepted first second table out h =
    let four = both-checked first second table _ h in
    let thirteen = first-of-zero _ _ four.2 in
    let fourteen = first-of-zero _ _ thirteen.1 in
    record {
      checked_first = four.0;
      checked_second = four.1;
      apart = not-true (share_block first second) (refusal-zero _ shared_block_number 0 (omega arith) thirteen.0);
      few = leb-true _ record_count (refusal-zero _ too_many_records_number 0 (omega arith) fourteen.0);
      result = rw h refl;
    }

-- THE LINK'S RESULT PASSES THE IMAGE CHECK, of what the calls return and leave
pub linked-passes : (first second table out : List ℕ) → link_return first second table out ≡ 0
    → check_return (link_out first second table out) table ≡ 0
unfolding check_return
linked-passes first second table out h =
    let k : LinkAccepted first second table out = link-accepted first second table out h in
    rw k.result (linked-checked first second table k.checked_first k.checked_second k.few)
