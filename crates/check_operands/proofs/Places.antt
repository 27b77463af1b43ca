-- A run is the byte before five places, and these places.
use Rattle.std.proofs.Common.{◌≡◌, ℕ, zero, suc, ◌+◌, ◌-◌, ◌*◌, ◌%◌, ◌<◌, ◌≤◌, Bool, true, false, cond, ◌&&◌, eqb, ltb, leb, List, ◌∷◌}
use Rattle.std.proofs.Common.{length, get_or, sym, refl, ap, ◌∙◌, add-zero, mod-eq_of_lt, zero-add, add-one, arith, get_or-drop, drop-cons}
use Rattle.std.proofs.Common.{ltb-false, ltb-true, le-ltb, lt-ltb, eqb-true, le-leb}
use mathlib.Core.Bool.{and_assoc, false≢true}
use lib.Bits.{bit_and, bit_or, and_zero_r, and_mask, or_zero_l, or_zero_r}
use Rattle.rules.specs.Sizes.{operand_count, operand_count_place, operands_place, operand_size, record_size}
use Rattle.rules.specs.Bytes.{part, is_zeros, num16, all_from}
use Rattle.rules.specs.Image.{operands, value}
use Rattle.rules.specs.Check.{operand_ok, operand_slot_ok}
use Rattle.bytes_fields.specs.Put.{part_none}
use Rattle.bytes_fields.specs.Tests.{join-none}
use Rattle.bytes_fields.specs.Runs.{all-at, all_same, all_split, all-threes}
use Rattle.check_operands.specs.Operands.{run_size, numbers_of, low_of, high_of, least_of, limit_of, fewer, bound_of, byte_ok, run_ok}
use Rattle.check_operands.proofs.Bytes.{operand}

-- ---- the bytes of a run

pub number_at : (i : ℕ) → i < run_size → get_or numbers_of i 0 ≡ i
unfolding all_from
number_at i h = eqb-true (get_or numbers_of i 0) i
    (all-at (λ i. eqb (get_or numbers_of i 0) i) 0 run_size i refl (omega arith) (omega arith))

-- a byte as the loop tests it: the patterns are those of a run, and its bytes are counted from the record's
pub as-tested : (r : List ℕ) (at end from i z b : ℕ) {numbers low high least limit : List ℕ} → numbers ≡ numbers_of → low ≡ low_of
    → high ≡ high_of → least ≡ least_of → limit ≡ limit_of → from ≡ operand_count_place + at
    → b ≡ bound_of (bit_or (bit_and (get_or r (from + i - 1) 0) (get_or low i 0)) (bit_and (get_or r (from + i - 2) 0) (get_or high i 0)))
    (get_or limit i 0) (bit_and fewer (get_or low i 0))
    → eqb z 0 ≡ byte_ok (get_or r (from + i) 0) (get_or least i 0) b (ltb (get_or numbers i 0 + at) end) → eqb z 0 ≡ run_ok r at end i
unfolding run_ok
as-tested r at end from i z b n l h m t f e g = g ∙ rw (e, n, l, h, m, t, f) refl

-- what stands at byte d of every place
at_each : (l : List ℕ) (d x t : ℕ) → all_from (λ t. eqb (get_or l (3 * t + d) 0) x) 0 5 ≡ true → t < 5 → get_or l (3 * t + d) 0 ≡ x
at_each l d x t e h = eqb-true _ x (all-at (λ t. eqb (get_or l (3 * t + d) 0) x) 0 5 t e (omega arith) (omega arith))

-- the value at place k
value-is : (r : List ℕ) (k : ℕ)
    → value r k ≡ get_or r (operands_place + (operand_size * k + 1)) 0 + 256 * get_or r (operands_place + (operand_size * k + 2)) 0
unfolding num16
value-is r k =
    let low : operands_place + 1 + operand_size * k + 0 ≡ operands_place + (operand_size * k + 1) = omega arith in
    let high : operands_place + 1 + operand_size * k + 1 ≡ operands_place + (operand_size * k + 2) = omega arith in
    rw (get_or-drop, get_or-drop, low, high) refl

-- a place that is not used
unused : (r : List ℕ) (k : ℕ) → operands r ≤ k
    → (eqb (get_or r (operands_place + operand_size * k) 0) 0 && eqb (get_or r (operands_place + (operand_size * k + 1)) 0) 0
    && eqb (get_or r (operands_place + (operand_size * k + 2)) 0) 0) ≡ operand_slot_ok r k
unfolding operand_slot_ok
unused r k h = rw (le-ltb k (operands r) h, value-is r k, join-none _ 256 _ (omega arith), and_assoc)

last : (a b : Bool) → (a && b) ≡ true → b ≡ true
last true b e = e
last false b e = absurd (false≢true e)

high-unused : (r : List ℕ) (k : ℕ) → operands r ≤ k → operand_slot_ok r k ≡ true
    → eqb (get_or r (operands_place + (operand_size * k + 2)) 0) 0 ≡ true
high-unused r k h e =
    last (eqb (get_or r (operands_place + operand_size * k) 0) 0 && eqb (get_or r (operands_place + (operand_size * k + 1)) 0) 0)
    (eqb (get_or r (operands_place + (operand_size * k + 2)) 0) 0) (unused r k h ∙ e)

-- a place of a run
module _ (r : List ℕ) (bytes : (i : ℕ) → get_or r i 0 < 256) (m t c : ℕ) (h : t < 5) where
  abbrev k : ℕ
  k = 5 * m + t

  -- the bytes of place k
  abbrev q : ℕ
  q = get_or r (operands_place + operand_size * k) 0

  abbrev x : ℕ
  x = get_or r (operands_place + (operand_size * k + 1)) 0

  abbrev y : ℕ
  y = get_or r (operands_place + (operand_size * k + 2)) 0

  -- byte d of it is used exactly if it is
  used : (d : ℕ) → 0 < d → d < 4 → ltb (3 * t + d + 15 * m) (1 + 3 * c) ≡ ltb k c
  used d p l = go (ltb k c) refl
    where
      go : (s : Bool) → ltb k c ≡ s → ltb (3 * t + d + 15 * m) (1 + 3 * c) ≡ s
      go true e = lt-ltb (3 * t + d + 15 * m) (1 + 3 * c) (omega (arith, ltb-true k c e))
      go false e = le-ltb (3 * t + d + 15 * m) (1 + 3 * c) (omega (arith, ltb-false k c e))

  kind-byte : run_ok r (15 * m) (1 + 3 * c) (3 * t + 1) ≡ cond (ltb k c) (leb ((q + 255) % 256) 2) (eqb q 0)
  unfolding run_ok byte_ok all_from
  kind-byte =
      let at : operand_count_place + 15 * m + (3 * t + 1) ≡ operands_place + operand_size * k = omega arith in
      rw (
        number_at (3 * t + 1) (omega arith),
        at_each low_of 1 0 t refl h,
        at_each high_of 1 0 t refl h,
        at_each least_of 1 1 t refl h,
        at_each limit_of 1 2 t refl h,
        and_zero_r,
        and_zero_r,
        at,
        used 1 (omega arith) (omega arith),
      ) refl

  low_byte : run_ok r (15 * m) (1 + 3 * c) (3 * t + 2) ≡ cond (ltb k c) (leb ((x + 256) % 256) (bound_of q 24 fewer)) (eqb x 0)
  unfolding run_ok byte_ok all_from
  low_byte =
      let at : operand_count_place + 15 * m + (3 * t + 2) ≡ operands_place + (operand_size * k + 1) = omega arith in
      let one : operands_place + (operand_size * k + 1) - 1 ≡ operands_place + operand_size * k = omega arith in
      let whole : bit_and q 255 ≡ q = and_mask q 8 ∙ mod-eq_of_lt (bytes (operands_place + operand_size * k)) in
      rw (
        number_at (3 * t + 2) (omega arith),
        at_each low_of 2 255 t refl h,
        at_each high_of 2 0 t refl h,
        at_each least_of 2 0 t refl h,
        at_each limit_of 2 24 t refl h,
        at,
        one,
        whole,
        and_zero_r,
        or_zero_r,
        used 2 (omega arith) (omega arith),
      ) refl

  high_byte : run_ok r (15 * m) (1 + 3 * c) (3 * t + 3) ≡ cond (ltb k c) (leb ((y + 256) % 256) (bound_of q 0 0)) (eqb y 0)
  unfolding run_ok byte_ok all_from
  high_byte =
      let at : operand_count_place + 15 * m + (3 * t + 3) ≡ operands_place + (operand_size * k + 2) = omega arith in
      let two : operands_place + (operand_size * k + 2) - 2 ≡ operands_place + operand_size * k = omega arith in
      let whole : bit_and q 255 ≡ q = and_mask q 8 ∙ mod-eq_of_lt (bytes (operands_place + operand_size * k)) in
      rw (
        number_at (3 * t + 3) (omega arith),
        at_each low_of 3 0 t refl h,
        at_each high_of 3 255 t refl h,
        at_each least_of 3 0 t refl h,
        at_each limit_of 3 0 t refl h,
        at,
        two,
        whole,
        and_zero_r,
        or_zero_l,
        used 3 (omega arith) (omega arith),
      ) refl

  place : c ≡ operands r → (run_ok r (15 * m) (1 + 3 * c) (3 * t + 1) && run_ok r (15 * m) (1 + 3 * c) (3 * t + 2)
      && run_ok r (15 * m) (1 + 3 * c) (3 * t + 3)) ≡ operand_slot_ok r k
  unfolding operand_slot_ok
  place e = rw (kind-byte, low_byte, high_byte, value-is r k, ← e) (go (ltb k c))
    where
      go : (s : Bool)
          → (cond s (leb ((q + 255) % 256) 2) (eqb q 0) && cond s (leb ((x + 256) % 256) (bound_of q 24 fewer)) (eqb x 0)
          && cond s (leb ((y + 256) % 256) (bound_of q 0 0)) (eqb y 0))
          ≡ cond s (operand_ok q (x + 256 * y)) (eqb q 0 && eqb (x + 256 * y) 0)
      go true = operand q x y (bytes _) (bytes _) (bytes _)
      go false = rw (join-none x 256 y (omega arith), and_assoc) refl

-- ---- the runs

-- a test of numbers that are all greater by d
all-shift : (f : ℕ → Bool) (d i n : ℕ) → all_from (λ k. f (k + d)) i n ≡ all_from f (i + d) n
unfolding all_from
all-shift f d i zero = refl
all-shift f d i (suc n) =
    let e : i + 1 + d ≡ i + d + 1 = omega arith in
    ap (λ b. f (i + d) && b) (rw e at (all-shift f d (i + 1) n))

module _ (r : List ℕ) (bytes : (i : ℕ) → get_or r i 0 < 256) (c : ℕ) (is : c ≡ operands r) where
  abbrev run : ℕ → ℕ → Bool
  run m i = run_ok r (15 * m) (1 + 3 * c) i

  five : (m : ℕ) → all_from (run m) 1 15 ≡ all_from (operand_slot_ok r) (5 * m) 5
  five m =
      let places : all_from (λ t. run m (3 * t + 1) && run m (3 * t + 1 + 1) && run m (3 * t + 2 + 1)) 0 5
      ≡ all_from (λ t. operand_slot_ok r (t + 5 * m)) 0 5 =
      all_same (λ t. run m (3 * t + 1) && run m (3 * t + 1 + 1) && run m (3 * t + 2 + 1)) (λ t. operand_slot_ok r (t + 5 * m)) 0 5 (λ t p l.
      let h : t < 5 = omega arith in
      let two : 3 * t + 1 + 1 ≡ 3 * t + 2 = omega arith in
      let three : 3 * t + 2 + 1 ≡ 3 * t + 3 = omega arith in
      let k : t + 5 * m ≡ 5 * m + t = omega arith in
      rw (two, three, k) (place r bytes m t c h is)) in
      let from : 0 + 5 * m ≡ 5 * m = omega arith in
      sym (all-shift (run m) 1 0 15) ∙ all-threes (λ j. run m (j + 1)) 0 5 ∙ places ∙ rw from at (all-shift (operand_slot_ok r) (5 * m) 0 5)

  -- the first byte of a run is the high byte of the place before, which is zero where it is not used
  abbrev before : ℕ → Bool
  before m = cond (ltb (15 * m) (1 + 3 * c)) true (eqb (get_or r (operand_count_place + 15 * m) 0) 0)

  first_byte : (m : ℕ) → run m 0 ≡ before m
  unfolding run_ok byte_ok
  first_byte m =
      let x = get_or r (operand_count_place + 15 * m) 0 in
      let all : leb ((x + 256) % 256) 255 ≡ true = le-leb ((x + 256) % 256) 255 (omega arith) in
      rw (add-zero (operand_count_place + 15 * m), and_zero_r, and_zero_r, zero-add, all) refl

  free : (m : ℕ) → all_from (operand_slot_ok r) 0 (5 * m) ≡ true → before m ≡ true
  free zero e = rw (lt-ltb (15 * 0) (1 + 3 * c) (omega arith)) refl
  free (suc m) e = go (ltb (15 * suc m) (1 + 3 * c)) refl
    where
      go : (t : Bool) → ltb (15 * suc m) (1 + 3 * c) ≡ t → cond t true (eqb (get_or r (operand_count_place + 15 * suc m) 0) 0) ≡ true
      go true p = refl
      go false p =
          let k : ℕ = 5 * m + 4 in
          let at : operand_count_place + 15 * suc m ≡ operands_place + (operand_size * k + 2) = omega arith in
          rw at
          (high-unused r k (omega (arith, ltb-false (15 * suc m) (1 + 3 * c) p))
          (all-at (operand_slot_ok r) 0 (5 * suc m) k e (omega arith) (omega arith)))

  -- the places up to a run, and the run, are the places up to its end
  next : (m : ℕ) → (all_from (operand_slot_ok r) 0 (5 * m) && all_from (run m) 0 run_size) ≡ all_from (operand_slot_ok r) 0 (5 * m + 5)
  unfolding all_from
  next m = rw (first_byte m, five m, all_split (operand_slot_ok r) 0 (5 * m) 5, zero-add) (go (all_from (operand_slot_ok r) 0 (5 * m)) refl)
    where
      go : (t : Bool) → all_from (operand_slot_ok r) 0 (5 * m) ≡ t → (t && (before m && all_from (operand_slot_ok r) (5 * m) 5))
          ≡ (t && all_from (operand_slot_ok r) (5 * m) 5)
      go true p = rw (free m p) refl
      go false p = refl

  pub first_run : all_from (run 0) 0 run_size ≡ all_from (operand_slot_ok r) 0 5
  unfolding all_from
  first_run = next 0

  -- of six operands and more every byte of the first run is used
  pub whole_run : 5 < c → all_from (run_ok r 0 run_size) 0 run_size ≡ all_from (operand_slot_ok r) 0 5
  unfolding run_ok
  whole_run h =
      all_same (run_ok r 0 run_size) (run 0) 0 run_size (λ i p l.
      let e = number_at i (omega arith) in
      rw (lt-ltb (get_or numbers_of i 0 + 0) run_size (omega arith), lt-ltb (get_or numbers_of i 0 + 0) (1 + 3 * c) (omega arith)) refl)
      ∙ first_run

  -- the first five places and the other runs
  pub other-runs : (all_from (operand_slot_ok r) 0 5
      && (all_from (run 1) 0 run_size && all_from (run 2) 0 run_size && all_from (run 3) 0 run_size && all_from (run 4) 0 run_size))
      ≡ all_from (operand_slot_ok r) 0 operand_count
  other-runs = rw (← and_assoc, ← and_assoc, ← and_assoc, next 1, next 2, next 3) (next 4)

-- ---- places that are not used

part-first : (s : List ℕ) (i n : ℕ) → i < length s → part s i (suc n) ≡ get_or s i 0 ∷ part s (i + 1) n
unfolding part
part-first s i n h = rw (drop-cons s i 0 h, add-one)

zeros-from : (s : List ℕ) (at k n : ℕ) → at + k + n ≤ length s
    → is_zeros (part s (at + k) n) ≡ all_from (λ i. eqb (get_or s (at + i) 0) 0) k n
unfolding is_zeros all_from
zeros-from s at k zero h = rw (part_none s (at + k)) refl
zeros-from s at k (suc n) h =
    let e : at + k + 1 ≡ at + (k + 1) = omega arith in
    rw (part-first s (at + k) n (omega arith), e) (ap (λ b. eqb (get_or s (at + k) 0) 0 && b) (zeros-from s at (k + 1) n (omega arith)))

pub rest : (r : List ℕ) (k : ℕ) → length r ≡ record_size → operands r ≤ k → k ≤ operand_count
    → is_zeros (part r (operands_place + operand_size * k) (operand_size * (operand_count - k)))
    ≡ all_from (operand_slot_ok r) k (operand_count - k)
rest r k size h most =
    zeros-from r operands_place (operand_size * k) (operand_size * (operand_count - k)) (omega arith)
    ∙ all-threes (λ i. eqb (get_or r (operands_place + i) 0) 0) k (operand_count - k)
    ∙ all_same _ (operand_slot_ok r) k (operand_count - k) (λ j p q. unused r j (omega arith))
