-- The return labels of a thread: 8 places, of which the first are in use, oldest first, and zeros in the others.
use Rattle.std.specs.Prelude.{◌≡◌, refl, List, [], ◌∷◌, ◌++◌, ℕ, suc, ◌+◌, ◌-◌, ◌≤◌, ◌<◌, length, get_or, set, take, drop, replicate}
use Rattle.std.proofs.Common.{sym, ap, ◌∙◌, add-one, arith, length-set, take-suc-set, drop-set-lt, drop-cons, get_or-set_same}
use Rattle.std.proofs.Common.{length-take-le, take-take, get_or-take}
use Rattle.std.proofs.lemmas.List.{take-set-le}
use Rattle.rules.specs.Sizes.{return_count}
use Rattle.rules.specs.Steps.{newest, older}

-- RETURN takes the newest return label, if there is one; the older ones stay
abbrev pub newest_of : List ℕ → ℕ
newest_of [] = 0
newest_of (a ∷ l) = newest a l

abbrev pub older_of : List ℕ → List ℕ
older_of [] = []
older_of (a ∷ l) = older a l

pub record TidyReturns (depth : ℕ) (returns : List ℕ) : Type 0 where
  pub sized : length returns ≡ return_count
  pub within : depth ≤ return_count
  pub unused : drop depth returns ≡ replicate (return_count - depth) 0

pub no-returns : TidyReturns 0 (replicate return_count 0)
no-returns = record { sized = refl; within = omega arith; unused = refl }

-- the last of a list that is not empty, and the ones before it
newest-is : (a : ℕ) (l : List ℕ) → newest a l ≡ get_or (a ∷ l) (length l) 0
newest-is a [] = refl
newest-is a (b ∷ l) = newest-is b l

older-is : (a : ℕ) (l : List ℕ) → older a l ≡ take (length l) (a ∷ l)
older-is a [] = refl
older-is a (b ∷ l) = ap (λ q. a ∷ q) (older-is b l)

last-is : (l : List ℕ) (n : ℕ) → length l ≡ n + 1 → (newest_of l ≡ get_or l n 0) × (older_of l ≡ take n l)
last-is [] n e = absurd (omega arith)
last-is (a ∷ l) n e = let k : length l ≡ n = omega arith in (newest-is a l ∙ rw k, older-is a l ∙ rw k)

module _ (depth : ℕ) (returns : List ℕ) (z : TidyReturns depth returns) where
  -- one more return label
  module _ (l : ℕ) (h : depth < return_count) where
    pub pushed : take (depth + 1) (set returns depth l) ≡ take depth returns ++ l ∷ []
    pushed = rw add-one (take-suc-set returns depth l (omega (arith, z.sized)))

    pub pushed-tidy : TidyReturns (depth + 1) (set returns depth l)
    pushed-tidy =
        let n : return_count - depth ≡ suc (return_count - (depth + 1)) = omega arith in
        let e : get_or returns depth 0 ∷ drop (suc depth) returns ≡ 0 ∷ replicate (return_count - (depth + 1)) 0 = sym
        (drop-cons returns depth 0 (omega (arith, z.sized))) ∙ z.unused ∙ rw n in
        record {
          sized = length-set returns depth l ∙ z.sized;
          within = omega arith;
          unused = drop-set-lt (depth + 1) returns depth l
              (omega arith) ∙ ap (λ k. drop k returns) (add-one depth) ∙ ap (drop 1) e;
        }

  -- the newest goes
  module _ (h : 0 < depth) where
    counted : length (take depth returns) ≡ depth - 1 + 1
    counted = length-take-le depth returns (omega (arith, z.sized, z.within)) ∙ omega arith

    pub popped-label : get_or returns (depth - 1) 0 ≡ newest_of (take depth returns)
    popped-label = sym ((last-is (take depth returns) (depth - 1) counted).0 ∙ get_or-take depth returns (depth - 1) 0 (omega arith))

    pub popped : take (depth - 1) (set returns (depth - 1) 0) ≡ older_of (take depth returns)
    popped =
        take-set-le (depth - 1) returns (depth - 1) 0 (omega arith)
        ∙ sym ((last-is (take depth returns) (depth - 1) counted).1 ∙ take-take (depth - 1) depth returns (omega arith))

    pub popped-tidy : TidyReturns (depth - 1) (set returns (depth - 1) 0)
    popped-tidy =
        let r = set returns (depth - 1) 0 in
        let s : length r ≡ return_count = length-set returns (depth - 1) 0 ∙ z.sized in
        let n : return_count - (depth - 1) ≡ suc (return_count - depth) = omega (arith, z.within) in
        let m : suc (depth - 1) ≡ depth = omega arith in
        let g : get_or r (depth - 1) 0 ≡ 0 = get_or-set_same returns (depth - 1) 0 0 (omega (arith, z.sized, z.within)) in
        let d : drop depth r ≡ replicate (return_count - depth) 0 = drop-set-lt depth returns (depth - 1) 0 (omega arith) ∙ z.unused in
        record {
          sized = s;
          within = omega (arith, z.within);
          unused = drop-cons r (depth - 1) 0 (omega (arith, z.within))
              ∙ rw (g, m, d, n);
        }
