-- The stores that lay two images behind one another and shift the records of the second where they stand.
use Rattle.std.specs.Prelude.{◌≡◌, ℕ, ◌+◌, ◌*◌, ◌≤◌, ◌<◌, take}
use Rattle.std.proofs.Math.Path.{sym, ap}
use Rattle.std.proofs.Common.{◌∙◌, arith}
use mathlib.Core.List.{List, ◌++◌, append_assoc}
use Rattle.std.proofs.Math.ListN.{length, length-append}
use Rattle.std.proofs.Math.Seq.{sets-eq, take-length}
use Rattle.rules.specs.Sizes.{record_size, label_a_place, label_b_place}
use Rattle.rules.specs.Bytes.{part, le16}
use Rattle.rules.specs.Image.{labels, record_at}
use Rattle.rules.specs.Link.{with_labels, records, linked}
use Rattle.bytes_fields.specs.Put.{put, put-more, put_then, put-after, put_whole, part-after}
use Rattle.bytes_fields.specs.Inside.{put_in, put_self, part-beyond}
use Rattle.image_record.specs.Records.{record-fits, record-part}
use Rattle.image_record.specs.Shifts.{shifted_run, length_run}

-- a record, and over its labels two others
module _ (r : List ℕ) (size : length r ≡ record_size) (a b : ℕ) where
  labels-put : put r label_a_place (le16 a ++ le16 b) ≡ with_labels a b r
  unfolding put
  labels-put = sets-eq (le16 a ++ le16 b) r label_a_place (omega arith) ∙ simp append_assoc

  -- the same where the record stands in a longer list
  pub labels-stored : (s : List ℕ) (at i j : ℕ) → at + record_size ≤ length s → part s at record_size ≡ r → i ≡ at + label_a_place
      → j ≡ at + label_b_place → put (put s i (le16 a)) j (le16 b) ≡ put s at (with_labels a b r)
  labels-stored s at i j h here e f =
      let there : put s at r ≡ s = rw here at (put_self s at record_size h) in
      put-more s i (le16 a) j (le16 b) (omega arith)
      ∙ rw e (ap (λ z. put z (at + label_a_place) (le16 a ++ le16 b)) (sym there))
      ∙ put_in s at r label_a_place (le16 a ++ le16 b) (omega arith) (omega arith)
      ∙ ap (put s at) labels-put

module _ (first second : List ℕ) where
  -- both images copied
  pub both-copied : (out : List ℕ) (n at m : ℕ) {s₁ s₂ : List ℕ} → s₁ ≡ put out 0 (part first 0 n) → s₂ ≡ put s₁ at (part second 0 m)
      → n ≡ length first → at ≡ length first → m ≡ length second → length out ≡ length first + length second → s₂ ≡ first ++ second
  unfolding part
  both-copied out n at m e₁ e₂ k i l w =
      put_then out 0 (take n first) at (take m second) e₁ e₂ (rw (k, take-length) (omega arith))
      ∙ rw (k, l, take-length first, take-length second)
      (put_whole out (first ++ second) (w ∙ sym (length-append first second)))

  -- the record whose turn it is, l of the second shifted, stands as it was copied
  pub still-copied : (d l at : ℕ) → l < labels second → at ≡ length first + record_size * l
      → part (put (first ++ second) (length first) (shifted_run d l second)) at record_size ≡ record_at second l
  unfolding part
  still-copied d l at h e =
      let run = shifted_run d l second in
      let fits = record-fits second l h in
      let here : at ≡ length first + length run = e ∙ rw (length_run d l second (omega arith)) in
      rw here (part-beyond (first ++ second) (length first) run record_size (simp length-append (omega arith)))
      ∙ part-after first second (length first + length run) (record_size * l) record_size (omega arith)
      ∙ sym (record-part second l h)

  -- all records of the second shifted: the linked image
  pub all-shifted : (d l : ℕ) → d ≡ labels first → l ≡ labels second → length second ≡ record_size * labels second
      → put (first ++ second) (length first) (shifted_run d l second) ≡ linked first second
  unfolding linked records
  all-shifted d l e n w =
      put-after first second (length first) 0 (shifted_run d l second) (omega arith)
      ∙ ap (λ z. first ++ z) (put_whole second (shifted_run d l second) (sym (length_run d l second (omega arith) ∙ omega arith)))
      ∙ rw (e, n)
