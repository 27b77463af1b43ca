-- The part of an image has a record's length exactly if the image has the label.
use Rattle.std.proofs.Common.{◌≡◌, ◌≢◌, ◌<◌, ◌≤◌, ap, subst, List, ℕ, length, MatchOption, ⊎_elim, arith}
use Rattle.std.proofs.lemmas.Bool.{cases_lt}
use Rattle.std.specs.Array.{IsWholeChunk}
use Rattle.std.specs.Prelude.{Option, Some, None}
use Rattle.rules.specs.Sizes.{record_size}
use Rattle.rules.specs.Image.{labels, record_at}
use Rattle.image_record.specs.Records.{no_record, length-record}
use Rattle.image_record.proofs.records.find_record.Goals as goal

module _ {X : Type 0} (now : X → List ℕ) (s : List ℕ) (l : ℕ) where
  found : (o : Option X) → MatchOption o (length (record_at s l) ≢ record_size) (λ y. IsWholeChunk (record_at s l) (now y) record_size)
      → MatchOption o (labels s ≤ l) (λ r. (l < labels s) × (now r ≡ record_at s l))
  found None h = ⊎_elim (λ p. absurd (h (length-record s l p))) (λ p. p) (cases_lt l (labels s))
  found (Some y) h =
      ⊎_elim (λ p. (p, h.same)) (λ p. absurd (omega (arith, h.long, ap length (no_record s l p)))) (cases_lt l (labels s))

pub returns : goal.returns
returns c =
    let a = c.args in
    found (λ r. r.now) a.image.now a.at.0 c.as_array.result
    (subst (λ x. MatchOption c.as_array.result (length x ≢ record_size) (λ y. IsWholeChunk x y.now record_size)) c.record_at.ensures
    c.as_array.ensures.cases)
