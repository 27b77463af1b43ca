-- The laws of the image's records: how many there are, and the bytes of each.
use Rattle.std.specs.Prelude.{◌≡◌, refl, Bool, true, false, cond, ◌&&◌, List, [], ◌∷◌, ℕ, zero, suc, ◌+◌, ◌*◌, ◌-◌, ◌/◌, ◌≤◌, ◌<◌, leb, eqb}
use Rattle.std.specs.Prelude.{length, get_or, take, drop}
use Rattle.std.proofs.Common.{sym, arith, length-drop, length-take-le, get_or-take, get_or-drop, eqb-true, eq-eqb}
use Rattle.std.proofs.Common.{leb-true, le-leb, lt-ltb, le-ltb}
use Rattle.rules.specs.Sizes.{record_count, record_size}
use Rattle.rules.specs.Image.{labels, record_at}

-- a byte within a list is the same with any default
pub get_d_any : (xs : List ℕ) (i d e : ℕ) → i < length xs → get_or xs i d ≡ get_or xs i e
get_d_any [] i d e h = absurd (omega arith)
get_d_any (x ∷ xs) zero d e h = refl
get_d_any (x ∷ xs) (suc i) d e h = get_d_any xs i d e (omega arith)

-- a number, or 0, is at most what the number is at most
cond-le : (t : Bool) (q m : ℕ) → q ≤ m → cond t q 0 ≤ m
cond-le true q m h = h
cond-le false q m h = omega arith

pub labels-fit : (s : List ℕ) → record_size * labels s ≤ length s
unfolding labels
labels-fit s = omega (
  arith,
  cond-le (eqb (length s) (record_size * (length s / record_size)) && leb (length s / record_size) record_count)
      (length s / record_size) (length s / record_size) (omega arith),
)

-- an image of so many records has that many
pub labels-of : (s : List ℕ) (n : ℕ) → length s ≡ record_size * n → n ≤ record_count → labels s ≡ n
unfolding labels
labels-of s n e h =
    let q : length s / record_size ≡ n = omega arith in
    rw (q, eq-eqb (length s) (record_size * n) e, le-leb n record_count h) refl

-- an image that has records has nothing behind them
whole : (a : Bool) (n q : ℕ) → 0 < cond a q 0 → (a ≡ true → n ≡ record_size * q) → n ≡ record_size * cond a q 0
whole true n q h k = k refl
whole false n q h k = absurd (omega arith)

pub labels-whole : (s : List ℕ) → 0 < labels s → length s ≡ record_size * labels s
unfolding labels
labels-whole s h =
    let n = length s / record_size in
    whole (eqb (length s) (record_size * n) && leb n record_count) (length s) n h
    (λ e. eqb-true (length s) (record_size * n) (first_holds (eqb (length s) (record_size * n)) (leb n record_count) e))
  where
    first_holds : (a b : Bool) → (a && b) ≡ true → a ≡ true
    first_holds true b e = refl
    first_holds false b e = e

small : (a b : Bool) (q : ℕ) → (b ≡ true → q ≤ record_count) → cond (a && b) q 0 ≤ record_count
small true true q h = h refl
small true false q h = omega arith
small false b q h = omega arith

pub labels-small : (s : List ℕ) → labels s ≤ record_count
unfolding labels
labels-small s = small (eqb (length s) (record_size * (length s / record_size))) (leb (length s / record_size) record_count)
    (length s / record_size) (leb-true (length s / record_size) record_count)

pub no_record : (s : List ℕ) (l : ℕ) → labels s ≤ l → record_at s l ≡ []
unfolding record_at
no_record s l h = rw (le-ltb l (labels s) h)

-- the record at a label that the image has
module _ (s : List ℕ) (l : ℕ) (h : l < labels s) where
  pub record-fits : record_size * l + record_size ≤ length s
  record-fits = omega (arith, labels-fit s)

  pub record-part : record_at s l ≡ take record_size (drop (record_size * l) s)
  unfolding record_at
  record-part = rw (lt-ltb l (labels s) h)

  -- as the code takes it: from its place up to the next
  pub record-taken : take (record_size * l + record_size - record_size * l) (drop (record_size * l) s) ≡ record_at s l
  record-taken =
      let e : record_size * l + record_size - record_size * l ≡ record_size = omega arith in
      rw e (sym record-part)

  pub length-record : length (record_at s l) ≡ record_size
  length-record = rw record-part (length-take-le record_size (drop (record_size * l) s) (simp length-drop (omega (arith, record-fits))))

  pub record-byte : (j d : ℕ) → j < record_size → get_or (record_at s l) j d ≡ get_or s (record_size * l + j) 0
  record-byte j d k = rw (record-part, get_or-take, get_or-drop) (get_d_any s (record_size * l + j) d 0 (omega (arith, record-fits)))
