-- Fields of lists of bytes. Multi-byte fields are little-endian. What lies past a list's end reads as 0.
use Rattle.std.specs.Prelude.{Bool, true, false, cond, ◌&&◌, ◌||◌, List, [], ◌∷◌, ◌++◌, ℕ, zero, suc, ◌+◌, ◌*◌, ◌/◌, ◌%◌, ◌^◌, get_or, take}
use Rattle.std.specs.Prelude.{drop, eqb}
use Rattle.std.proofs.Math.Option.{Option, none, some}

-- the number that a list begins with, of 16 and of 32 bits
unfoldable pub num16 : List ℕ → ℕ
num16 b = get_or b 0 0 + 256 * get_or b 1 0

unfoldable pub num32 : List ℕ → ℕ
num32 b = num16 b + 65536 * num16 (drop 2 b)

-- the two bytes of a 16-bit number, the four of a 32-bit number
abbrev pub le16 : ℕ → List ℕ
le16 v = v % 256 ∷ v / 256 ∷ []

abbrev pub le32 : ℕ → List ℕ
le32 v = le16 (v % 65536) ++ le16 (v / 65536)

-- the n bytes of s from place i on
unfoldable pub part : List ℕ → ℕ → ℕ → List ℕ
part s i n = take n (drop i s)

-- every byte is 0
unfoldable pub is_zeros : List ℕ → Bool
is_zeros [] = true
is_zeros (x ∷ xs) = eqb x 0 && is_zeros xs

-- bit i of a set
abbrev pub has : ℕ → ℕ → Bool
has i set = eqb (set / 2 ^ i % 2) 1

-- a test holds of the k numbers from i on
unfoldable pub all_from : (ℕ → Bool) → ℕ → ℕ → Bool
all_from ok i zero = true
all_from ok i (suc k) = ok i && all_from ok (i + 1) k

-- a test holds of one of the k numbers from i on
unfoldable pub any_from : (ℕ → Bool) → ℕ → ℕ → Bool
any_from ok i zero = false
any_from ok i (suc k) = ok i || any_from ok (i + 1) k

-- the first of the k numbers from i on at which a test fails, or i + k where it fails at none
unfoldable pub first_bad : (ℕ → Bool) → ℕ → ℕ → ℕ
first_bad ok i zero = i
first_bad ok i (suc k) = cond (ok i) (first_bad ok (i + 1) k) i

-- how many of the k numbers from i on pass a test, and the first that does
unfoldable pub count_from : (ℕ → Bool) → ℕ → ℕ → ℕ
count_from ok i zero = 0
count_from ok i (suc k) = cond (ok i) 1 0 + count_from ok (i + 1) k

unfoldable pub first_from : (ℕ → Bool) → ℕ → ℕ → Option ℕ
first_from ok i zero = none
first_from ok i (suc k) = cond (ok i) (some i) (first_from ok (i + 1) k)

module _ {A : Type 0} where
  -- what f makes of each element, one after the other
  unfoldable pub blocks : (A → List ℕ) → List A → List ℕ
  blocks f [] = []
  blocks f (x ∷ xs) = f x ++ blocks f xs

  -- exactly n elements, with d for those that are missing
  unfoldable pub pad : A → ℕ → List A → List A
  pad d zero xs = []
  pad d (suc n) [] = d ∷ pad d n []
  pad d (suc n) (x ∷ xs) = x ∷ pad d n xs

  -- what g reads at the start of each of the first n pieces of k bytes
  unfoldable pub chunks : (List ℕ → A) → ℕ → ℕ → List ℕ → List A
  chunks g k zero s = []
  chunks g k (suc n) s = g s ∷ chunks g k n (drop k s)

  -- a test holds of every element
  unfoldable pub every : (A → Bool) → List A → Bool
  every ok [] = true
  every ok (x ∷ xs) = ok x && every ok xs
