-- Two images are parts of the linked image.
use Rattle.std.specs.Prelude.{◌≡◌, refl, ◌⊎◌, ℕ, ◌+◌, ◌*◌, ◌-◌, ◌<◌, get_or, take, drop}
use Rattle.std.proofs.Math.Path.{sym, ap}
use Rattle.std.proofs.Common.{◌∙◌, inl, inr, add-zero, length-append}
use mathlib.Core.List.{List, [], ◌++◌}
use Rattle.std.proofs.Math.Decide.{dec_lt}
use native.Mathlib.Omega.{arith}
use Rattle.std.proofs.Math.ListN.{length, length-drop}
use Rattle.std.proofs.Math.Seq.{take-append-le, drop-append-le, drop-append-add}
use Rattle.rules.specs.Sizes.{record_size}
use Rattle.rules.specs.Bytes.{blocks}
use Rattle.rules.specs.Image.{labels, record_at}
use Rattle.rules.specs.Link.{shift_record, records, linked}
use Rattle.bytes_fields.specs.Blocks.{AllSized, length-sized, sized-at}
use Rattle.lemmas_encoding.specs.Runs.{length-chunks, chunks-at, each-chunks}
use Rattle.image_record.specs.Records.{labels-of, labels-whole, record-part, length-record}
use Rattle.image_record.specs.Shifts.{length-shifted}
use Rattle.theorem_guests.proofs.Shifted.{shifted_none, shifted_by}
use Rattle.theorem_guests.specs.Parts.{Part, Fits, BothParts}

module _ (first second : List ℕ) (fits : Fits first second) where
  abbrev behind : List ℕ
  behind = blocks (shift_record (labels first)) (records second)

  length-records : length (records second) ≡ labels second
  unfolding records
  length-records = length-chunks (take record_size) record_size (labels second) second

  record_of : (l : ℕ) → l < labels second → get_or (records second) l [] ≡ record_at second l
  unfolding records
  record_of l h = chunks-at (take record_size) record_size (labels second) second [] l h ∙ sym (record-part second l h)

  sized : AllSized (shift_record (labels first)) record_size (records second)
  unfolding records
  sized =
      each-chunks _ (take record_size) record_size (labels second) second
      (λ l h. length-shifted (labels first) _ (rw (← record-part second l h) (length-record second l h)))

  length-behind : length behind ≡ record_size * labels second
  length-behind = length-sized (shift_record (labels first)) record_size (records second) sized ∙ rw length-records refl

  -- the linked image has as many records as both
  pub labels-linked : labels (linked first second) ≡ labels first + labels second
  unfolding linked
  labels-linked =
      labels-of (first ++ behind) (labels first + labels second)
      (simp (length-append, labels-whole first fits.some_first, length-behind) (omega arith)) fits.few

  first-at : (l : ℕ) → l < labels first → record_at (linked first second) l ≡ record_at first l
  unfolding linked
  first-at l h =
      let whole : length first ≡ record_size * labels first = labels-whole first fits.some_first in
      let n : labels (first ++ behind) ≡ labels first + labels second = labels-linked in
      record-part (first ++ behind) l (omega arith)
      ∙ rw (
        drop-append-le (record_size * l) first behind (omega arith),
        take-append-le record_size (drop (record_size * l) first) behind
            (simp length-drop (omega arith)),
      )
      (sym (record-part first l h))

  second_at : (l : ℕ) → l < labels second
      → record_at (linked first second) (l + labels first) ≡ shift_record (labels first) (record_at second l)
  unfolding linked
  second_at l h =
      let whole : length first ≡ record_size * labels first = labels-whole first fits.some_first in
      let n : labels (first ++ behind) ≡ labels first + labels second = labels-linked in
      let place : record_size * (l + labels first) ≡ length first + record_size * l = omega arith in
      record-part (first ++ behind) (l + labels first) (omega arith)
      ∙ rw (place, drop-append-add first behind (record_size * l))
      (sized-at (shift_record (labels first)) record_size (records second) [] l sized (rw length-records h)
      ∙ ap (shift_record (labels first)) (record_of l h))

  -- the first guest's records are its own
  pub first_part : Part 0 first (linked first second)
  first_part = record {
    inside = omega (arith, labels-linked);
    at = λ l h. rw (add-zero l, first-at l h) (shifted_none (record_at first l));
  }

  -- the second guest's have their labels shifted by the first's record count
  pub second-part : Part (labels first) second (linked first second)
  second-part = record {
    inside = omega (arith, labels-linked);
    at = λ l h. rw (second_at l h) (shifted_by (labels first) (record_at second l) (length-record second l h));
  }

  -- every label is of one of the two
  pub either : (l : ℕ) → l < labels (linked first second)
      → (l < labels first) ⊎ ((m : ℕ) × (m < labels second) × (l ≡ m + labels first))
  either l h = case (dec_lt l (labels first))
    where
      case : Dec (l < labels first) → (l < labels first) ⊎ ((m : ℕ) × (m < labels second) × (l ≡ m + labels first))
      case (yes k) = inl k
      case (no k) = inr (l - labels first, omega (arith, labels-linked), omega arith)

  pub both_parts : BothParts first second
  both_parts = record { first_part = first_part; second-part = second-part }
