-- The records of an image with their labels shifted, one behind the other: how long they are, and one more of them.
use Rattle.std.specs.Prelude.{◌≡◌, refl, List, [], ◌∷◌, ◌++◌, ℕ, zero, suc, ◌+◌, ◌*◌, ◌≤◌, length, take, drop}
use Rattle.std.proofs.Common.{add-one, arith, length-append, length-drop, length-take-le}
use Rattle.rules.specs.Sizes.{record_size, label_a_place}
use Rattle.rules.specs.Bytes.{blocks, chunks}
use Rattle.rules.specs.Link.{shift_record}
use Rattle.bytes_fields.specs.Blocks.{blocks-append, blocks-one, chunks-suc}

pub length-shifted : (d : ℕ) (r : List ℕ) → length r ≡ record_size → length (shift_record d r) ≡ record_size
unfolding shift_record
length-shifted d r e = simp (length-append, length-drop, length-take-le label_a_place r (omega arith)) (omega arith)

-- the first l records of an image, shifted
abbrev pub shifted_run : ℕ → ℕ → List ℕ → List ℕ
shifted_run d l s = blocks (shift_record d) (chunks (take record_size) record_size l s)

pub one_more : (d l : ℕ) (s : List ℕ)
    → shifted_run d (l + 1) s ≡ shifted_run d l s ++ shift_record d (take record_size (drop (record_size * l) s))
one_more d l s =
    let r = take record_size (drop (record_size * l) s) in
    rw (add-one l, chunks-suc (take record_size) record_size l s, ← blocks-one (shift_record d) r)
    (blocks-append (shift_record d) (chunks (take record_size) record_size l s) (r ∷ []))

pub length_run : (d l : ℕ) (s : List ℕ) → record_size * l ≤ length s → length (shifted_run d l s) ≡ record_size * l
unfolding blocks chunks
length_run d zero s h = refl
length_run d (suc l) s h =
    let one : length (shift_record d (take record_size s)) ≡ record_size = length-shifted d (take record_size s)
    (length-take-le record_size s (omega arith)) in
    simp (length-append, one, length_run d l (drop record_size s) (simp length-drop (omega arith))) (omega arith)
