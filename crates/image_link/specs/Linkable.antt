-- Two images that can be linked into an output: each has records, those of the second break no rule of their heads and have labels that
-- leave room for a shift, and the output has exactly their length. Images that pass the check can, where the output has that length.
use Rattle.std.specs.Prelude.{◌≡◌, refl, true, List, ℕ, ◌+◌, ◌≤◌, ◌<◌, length}
use Rattle.std.proofs.Common.{arith, eqb-true}
use Rattle.rules.specs.Sizes.{record_count}
use Rattle.rules.specs.Image.{labels, record_at, label_a, label_b, block_field}
use Rattle.rules.specs.Statements.{statement_of, role_a, role_b}
use Rattle.rules.specs.Check.{head_ok, label_ok, record_ok}
use Rattle.rules.specs.declared.statement.Role.{Role}
use Rattle.rules.specs.declared.statement.Role.TheVariants.{Unused, Inner, Direct, Local, Buffered}
use Rattle.lemmas_rules.specs.Passed.{Passed, rule-parts, label-below}
use Rattle.image_record.specs.Records.{labels-small, labels-whole}

-- how many records an image has, for `link`
pub ruleset counting = (labels-small, labels-whole)

pub record Linkable (first second out : List ℕ) : Type 0 where
  pub some : 0 < labels first
  pub more : 0 < labels second
  pub heads : (l : ℕ) → l < labels second → head_ok (record_at second l) ≡ true
  pub low_a : (l : ℕ) → l < labels second → label_a (record_at second l) ≤ record_count
  pub low_b : (l : ℕ) → l < labels second → label_b (record_at second l) ≤ record_count
  pub exact : length out ≡ length first + length second

-- a label that breaks no rule of its role is 0 or below n
label-low : (image : List ℕ) (role : Role) (b v : ℕ) → label_ok image role b v ≡ true → v ≤ record_count
unfolding label_ok
label-low image Unused b v h = omega (arith, eqb-true v 0 h)
label-low image Inner b v h = omega (arith, label-below image Inner b v h refl, labels-small image)
label-low image Direct b v h = omega (arith, label-below image Direct b v h refl, labels-small image)
label-low image Local b v h = omega (arith, label-below image Local b v h refl, labels-small image)
label-low image Buffered b v h = omega (arith, label-below image Buffered b v h refl, labels-small image)

pub linkable-of : (first second table out : List ℕ) → Passed first table → Passed second table → length out ≡ length first + length second
    → Linkable first second out
unfolding record_ok
linkable-of first second table out p q e = record {
  some = p.some_labels;
  more = q.some_labels;
  heads = λ l h. (rule-parts second (record_at second l) (q.records l h)).head;
  low_a = λ l h. label-low second (role_a (statement_of (record_at second l))) (block_field (record_at second l)) _
      (rule-parts second (record_at second l) (q.records l h)).a;
  low_b = λ l h. label-low second (role_b (statement_of (record_at second l))) (block_field (record_at second l)) _
      (rule-parts second (record_at second l) (q.records l h)).b;
  exact = e;
}
