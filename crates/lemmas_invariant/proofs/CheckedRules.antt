-- The rules that a checked image and its block table make keep the laws of Laws: a job that goes on stays in its block, or asks for the
-- lock of the block that it enters, because a record that breaks no rule has its inner and local labels in its own block; and of any
-- image an EXIT leaves with the signals that its job holds.
use Rattle.std.specs.Prelude.{◌≡◌, Bool, ℕ, eqb}
use Rattle.std.proofs.Math.Path.{refl}
use Rattle.std.proofs.Math.Bool.{true, false}
use mathlib.Core.List.{List, []}
use Rattle.std.proofs.Math.Dec.{ltb}
use borrow.Author.Tests.{ltb-true, eqb-true}
use Rattle.rules.specs.Image.{labels, record_at, block_field, entry, label_a, label_b, row_at}
use Rattle.rules.specs.Statements.{operation_at, other_at, statement_of, role_a, role_b, data_of}
use Rattle.rules.specs.Check.{label_ok, rule_ok, record_ok, Checked}
use Rattle.rules.specs.Steps.{act_by, rules_by, view}
use Rattle.rules.specs.declared.statement.Role.{Role}
use Rattle.rules.specs.declared.statement.Role.TheVariants.{Unused, Inner, Direct, Local, Buffered}
use Rattle.lemmas_rules.specs.Logic.{and_both}
use Rattle.lemmas_invariant.specs.Laws.{Laws}
use Rattle.lemmas_invariant.proofs.Blocks.{Home, statement-stays}
use Rattle.lemmas_rules.specs.Passed.{Passed, passed, no_record, rule-parts}

module _ (image table : List ℕ) where
  -- a label that a record uses as an inner or a local label is in the record's block
  home-label : (role : Role) (b v : ℕ) → label_ok image role b v ≡ true → Home (rules_by image table) b role v
  unfolding label_ok
  home-label Unused b v h = tt
  home-label Inner b v h = eqb-true _ b (and_both (ltb v (labels image)) _ h).1
  home-label Direct b v h = tt
  home-label Local b v h = eqb-true _ b (and_both (ltb v (labels image)) _ (and_both _ (eqb (entry (record_at image v)) 1) h).0).1
  home-label Buffered b v h = tt

  record Homes (r : List ℕ) : Type 0 where
    a : Home (rules_by image table) (block_field r) (role_a (statement_of r)) (label_a r)
    b : Home (rules_by image table) (block_field r) (role_b (statement_of r)) (label_b r)

  rule-homes : (r : List ℕ) → rule_ok image r ≡ true → Homes r
  rule-homes r h =
      let k = rule-parts image r h in
      record {
        a = home-label (role_a (statement_of r)) (block_field r) (label_a r) k.a;
        b = home-label (role_b (statement_of r)) (block_field r) (label_b r) k.b;
      }

  no-homes : Homes []
  unfolding operation_at other_at statement_of
  no-homes = record { a = tt; b = tt }

  record-homes : Passed image table → (l : ℕ) → Homes (record_at image l)
  unfolding record_ok
  record-homes p l = case (ltb l (labels image)) refl
    where
      case : (b : Bool) → ltb l (labels image) ≡ b → Homes (record_at image l)
      case true e = rule-homes (record_at image l) (p.records l (ltb-true l (labels image) e))
      case false e = rw (no_record image l e) no-homes

  -- the law of the one-by-one reading
  pub checked-laws : Checked image table → Laws (rules_by image table)
  unfolding act_by
  checked-laws checked = record {
    stays = λ t j words n.
        let r = record_at image j.label in
        let h = record-homes (passed image table [] checked).0 j.label in
        statement-stays (rules_by image table) (row_at table) t j (statement_of r) (label_a r) (label_b r) h.a h.b (view j words n)
        (data_of r);
  }
