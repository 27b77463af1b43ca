-- Images of n copies of one record, over n: what numbers 1 and 4 say of them, and which block they name.
use Rattle.std.specs.Prelude.{◌≡◌, true, false, List, length, drop}
use Rattle.std.proofs.Math.Path.{refl}
use Rattle.std.proofs.Common.{ap, ◌∙◌, zero-add, arith, length-append}
use Rattle.std.proofs.Math.Bool.{Bool}
use Prim.Native.Nat.{ℕ, zero, suc, ◌+◌, ◌*◌, ◌-◌, ◌≤◌, ◌<◌}
use Rattle.std.proofs.Math.Dec.{eqb}
use Rattle.std.proofs.Math.Seq.{take-append_seam, drop-append-add}
use borrow.Author.Tests.{lt-ltb}
use Rattle.rules.specs.Sizes.{record_count, record_size}
use Rattle.rules.specs.Codes.{bad_record_number}
use Rattle.rules.specs.Bytes.{any_from}
use Rattle.rules.specs.Image.{labels, record_at, block_field}
use Rattle.rules.specs.Check.{rule_ok, record_ok, image_length_fault, record_fault}
use Rattle.rules.specs.Link.{names}
use Rattle.bytes_fields.specs.Runs.{any_at, any_none, no-fault}
use Rattle.image_record.specs.Records.{labels-of, record-part}
use Rattle.theorem_trials.specs.Lent.{times}

-- a record that breaks no rule in any image, once or more and not too often
pub record Copies (r : List ℕ) (n : ℕ) : Type 0 where
  pub whole : length r ≡ record_size
  pub sound : (image : List ℕ) → rule_ok image r ≡ true
  pub some_of : 0 < n
  pub few : n ≤ record_count

module _ (r : List ℕ) (whole : length r ≡ record_size) where
  pub length-times : (n : ℕ) → length (times n r) ≡ record_size * n
  length-times zero = refl
  length-times (suc n) = simp (length-append, whole, length-times n) (omega arith)

  drop-times : (l n : ℕ) → drop (record_size * l) (times (l + n) r) ≡ times n r
  drop-times zero n = rw (zero-add n) refl
  drop-times (suc l) n =
      let more : suc l + n ≡ suc (l + n) = omega arith in
      let place : record_size * suc l ≡ length r + record_size * l = omega (arith, whole) in
      rw (more, place, drop-append-add r (times (l + n) r) (record_size * l)) (drop-times l n)

module _ (r : List ℕ) (n : ℕ) (c : Copies r n) where
  abbrev image : List ℕ
  image = times n r

  pub labels-copies : labels image ≡ n
  labels-copies = labels-of image n (length-times r c.whole n) c.few

  record-copies : (l : ℕ) → l < n → record_at image l ≡ r
  record-copies l h =
      let e : n ≡ l + suc (n - suc l) = omega arith in
      let d : drop (record_size * l) image ≡ times (suc (n - suc l)) r =
      ap (λ k. drop (record_size * l) (times k r)) e ∙ drop-times r c.whole l (suc (n - suc l))
      in
      record-part image l (rw labels-copies h) ∙ rw (d, ← c.whole) (take-append_seam r (times (n - suc l) r))

  pub right-length : image_length_fault image ≡ 0
  unfolding image_length_fault
  right-length = rw (labels-copies, lt-ltb 0 n c.some_of) refl

  pub no-bad-record : record_fault image ≡ 0
  unfolding record_fault record_ok
  no-bad-record =
      rw labels-copies (no-fault (record_ok image) n bad_record_number (λ l h. rw (record-copies l h) (c.sound image)))

  -- it names the record's block and no other
  pub names-copies : (b : ℕ) → names image b ≡ eqb (block_field r) b
  unfolding names
  names-copies b = rw labels-copies (case (eqb (block_field r) b) refl)
    where
      test : ℕ → Bool
      test l = eqb (block_field (record_at image l)) b

      at : (l : ℕ) → l < n → test l ≡ eqb (block_field r) b
      at l h = rw (record-copies l h) refl

      case : (t : Bool) → eqb (block_field r) b ≡ t → any_from test 0 n ≡ t
      case true e = any_at test 0 n 0 (at 0 c.some_of ∙ e) (omega arith) (omega (arith, c.some_of))
      case false e = any_none test 0 n (λ l p q. at l (omega arith) ∙ e)
