-- The laws of runs of blocks of one length: written, read back, stored to, and filled up.
use Rattle.std.specs.Prelude.{◌≡◌, length, get_or, take, set, replicate}
use Rattle.std.proofs.Math.Path.{refl, sym, ap}
use Rattle.std.proofs.Common.{◌∙◌, mul-suc, le_of_lt, add-one, length-append, take_at, take-suc, take-suc-set, length-take-le}
use mathlib.Core.List.{List, [], ◌∷◌, ◌++◌, append_assoc, append-nil}
use Prim.Native.Nat.{ℕ, zero, suc, ◌+◌, ◌*◌, ◌-◌, ◌≤◌, ◌<◌}
use Rattle.std.proofs.Math.Nat.{mul-zero, add_comm, sub-zero, suc-sub-suc}
use native.Mathlib.Omega.{arith}
use Rattle.std.proofs.Math.ListN.{drop}
use Rattle.std.proofs.Math.Seq.{drop_at, split_at, drop-drop}
use Rattle.std.proofs.lemmas.List.{set_split}
use Rattle.rules.specs.Bytes.{blocks, pad, chunks}
use Rattle.bytes_fields.specs.Each.{Each}
use Rattle.bytes_fields.specs.Put.{put, put-at, put-inside}

regroup : (p a m b q : List ℕ) → p ++ (a ++ m ++ b) ++ q ≡ (p ++ a) ++ m ++ (b ++ q)
regroup p a m b q = simp append_assoc

module _ {A : Type 0} (f : A → List ℕ) where
  pub blocks-append : (xs ys : List A) → blocks f (xs ++ ys) ≡ blocks f xs ++ blocks f ys
  unfolding blocks
  blocks-append [] ys = refl
  blocks-append (x ∷ xs) ys = rw (blocks-append xs ys, append_assoc)

  pub blocks-one : (x : A) → blocks f (x ∷ []) ≡ f x
  unfolding blocks
  blocks-one x = append-nil (f x)

  -- the bytes up to the i-th block, that block, and the rest
  pub blocks-cut : (xs : List A) (i : ℕ) (d : A) → i < length xs → blocks f xs ≡ blocks f (take i xs) ++ f (get_or xs i d) ++ blocks f
      (drop (suc i) xs)
  unfolding blocks
  blocks-cut xs i d h = ap (blocks f) (split_at xs i d h) ∙ blocks-append (take i xs) (get_or xs i d ∷ drop (suc i) xs)
      ∙ sym (append_assoc (blocks f (take i xs)) (f (get_or xs i d)) (blocks f (drop (suc i) xs)))

  pub blocks-set : (xs : List A) (i : ℕ) (x : A) → i < length xs → blocks f (set xs i x) ≡ blocks f (take i xs) ++ f x ++ blocks f
      (drop (suc i) xs)
  unfolding blocks
  blocks-set xs i x h = ap (blocks f) (set_split xs i x h) ∙ blocks-append (take i xs) (x ∷ drop (suc i) xs)
      ∙ sym (append_assoc (blocks f (take i xs)) (f x) (blocks f (drop (suc i) xs)))

  pub blocks-take : (xs : List A) (k : ℕ) (d : A) → k < length xs → blocks f (take (k + 1) xs) ≡ blocks f (take k xs) ++ f (get_or xs k d)
  blocks-take xs k d h = rw (add-one, take-suc xs k d, blocks-append, blocks-one)

  -- every block has n bytes
  module _ (n : ℕ) (same : (x : A) → length (f x) ≡ n) where
    pub length-blocks : (xs : List A) → length (blocks f xs) ≡ n * length xs
    unfolding blocks
    length-blocks [] = omega arith
    length-blocks (x ∷ xs) = simp (length-append, same, length-blocks xs, mul-suc) (omega arith)

    front : (p : List ℕ) (xs : List A) (i : ℕ) → i < length xs → length p + n * i ≡ length (p ++ blocks f (take i xs))
    front p xs i h = simp (length-append, length-blocks, length-take-le i xs (le_of_lt h))

    -- the i-th block is stored to
    pub blocks-put : (p q : List ℕ) (xs : List A) (d : A) (at i : ℕ) (x : A) → at ≡ length p + n * i → i < length xs
        → put (p ++ blocks f xs ++ q) at (f x) ≡ p ++ blocks f (set xs i x) ++ q
    blocks-put p q xs d at i x e h =
        rw (
          blocks-cut xs i d h,
          blocks-set xs i x h,
          regroup p (blocks f (take i xs)) (f (get_or xs i d)) (blocks f (drop (suc i) xs)) q,
          regroup p (blocks f (take i xs)) (f x) (blocks f (drop (suc i) xs)) q,
        )
        (put-at (p ++ blocks f (take i xs)) (f (get_or xs i d)) (blocks f (drop (suc i) xs) ++ q) (f x) at (e ∙ front p xs i h)
        (same _ ∙ sym (same _)))

module _ {A : Type 0} (g : List ℕ → A) (n : ℕ) where
  pub chunks-suc : (k : ℕ) (s : List ℕ) → chunks g n (suc k) s ≡ chunks g n k s ++ (g (drop (n * k) s) ∷ [])
  unfolding chunks
  chunks-suc zero s = rw mul-zero
  chunks-suc (suc k) s = rw (mul-suc, add_comm (n * k) n, ← drop-drop) (ap (λ l. g s ∷ l) (chunks-suc k (drop n s)))

  -- a turn of a loop that fills `out`
  pub fill_step : (out : List A) (k : ℕ) (r : A) (b : List ℕ) → k < length out → take k out ≡ chunks g n k b → r ≡ g (drop (n * k) b)
      → take (k + 1) (set out k r) ≡ chunks g n (k + 1) b
  fill_step out k r b h e er = rw (add-one, chunks-suc) (take-suc-set out k r h ∙ rw (e, er))

module _ {A : Type 0} (d : A) where
  pub length-pad : (n : ℕ) (xs : List A) → length (pad d n xs) ≡ n
  unfolding pad
  length-pad zero xs = refl
  length-pad (suc n) [] = ap suc (length-pad n [])
  length-pad (suc n) (x ∷ xs) = ap suc (length-pad n xs)

  -- what there is, and then what is missing
  pub pad-split : (n : ℕ) (xs : List A) → length xs ≤ n → pad d n xs ≡ xs ++ replicate (n - length xs) d
  unfolding pad
  pad-split zero [] h = refl
  pad-split zero (x ∷ xs) h = absurd (omega arith)
  pad-split (suc n) [] h = rw (sub-zero (suc n)) (ap (λ l. d ∷ l) (rw (sub-zero n) at (pad-split n [] (omega arith))))
  pad-split (suc n) (x ∷ xs) h = rw (suc-sub-suc n (length xs)) (ap (λ l. x ∷ l) (pad-split n xs (omega arith)))

  pub pad-full : (n : ℕ) (xs : List A) → length xs ≡ n → pad d n xs ≡ xs
  unfolding pad
  pad-full zero [] e = refl
  pad-full zero (x ∷ xs) e = absurd (omega arith)
  pad-full (suc n) [] e = absurd (omega arith)
  pad-full (suc n) (x ∷ xs) e = ap (λ l. x ∷ l) (pad-full n xs (omega arith))

-- what `blocks` wrote `chunks` reads
module _ {A : Type 0} (f : A → List ℕ) (g : List ℕ → A) (n : ℕ) (same : (x : A) → length (f x) ≡ n) (P : A → Type 0) (back : (x : A)
    → P x → (r : List ℕ) → g (f x ++ r) ≡ x) where
  pub chunks-blocks : (xs : List A) (q : List ℕ) → Each P xs → chunks g n (length xs) (blocks f xs ++ q) ≡ xs
  unfolding chunks blocks
  chunks-blocks [] q h = refl
  chunks-blocks (x ∷ xs) q h = rw (append_assoc, back x h.0 (blocks f xs ++ q), drop_at (f x) (blocks f xs ++ q) n (same x))
      (ap (λ l. x ∷ l) (chunks-blocks xs q h.1))

-- the same of a list that is cut p, then blocks, then q, the parts nested to the right
module _ {A : Type 0} (f : A → List ℕ) (n : ℕ) (same : (x : A) → length (f x) ≡ n) (d : A) where
  -- a store inside the i-th block that makes it the block of y
  pub block-put : (p q : List ℕ) (xs : List A) (at i j : ℕ) (a : List ℕ) (y : A) → at ≡ length p + n * i + j → i < length xs
      → j + length a ≤ n
      → put (f (get_or xs i d)) j a ≡ f y → put (p ++ (blocks f xs ++ q)) at a ≡ p ++ (blocks f (set xs i y) ++ q)
  block-put p q xs at i j a y e h k w =
      let x : List ℕ = f (get_or xs i d) in
      let b : List ℕ = blocks f (take i xs) in
      let c : List ℕ = blocks f (drop (suc i) xs) in
      let m : length b ≡ n * i = length-blocks f n same (take i xs) ∙ rw (length-take-le i xs (le_of_lt h)) in
      let cut : p ++ (b ++ x ++ c ++ q) ≡ (p ++ b) ++ x ++ (c ++ q) = simp append_assoc in
      let cut' : p ++ (b ++ f y ++ c ++ q) ≡ (p ++ b) ++ f y ++ (c ++ q) = simp append_assoc in
      rw (blocks-cut f xs i d h, blocks-set f xs i y h, cut, cut')
      (put-inside (p ++ b) x (c ++ q) at j a (simp length-append (omega arith)) (omega (arith, same (get_or xs i d))) ∙ rw w)

  -- what follows from the i-th block on
  pub block-drop : (p q : List ℕ) (xs : List A) (at i : ℕ) → at ≡ length p + n * i → i < length xs
      → drop at (p ++ (blocks f xs ++ q)) ≡ f (get_or xs i d) ++ (blocks f (drop (suc i) xs) ++ q)
  block-drop p q xs at i e h =
      let x : List ℕ = f (get_or xs i d) in
      let b : List ℕ = blocks f (take i xs) in
      let c : List ℕ = blocks f (drop (suc i) xs) in
      let m : length b ≡ n * i = length-blocks f n same (take i xs) ∙ rw (length-take-le i xs (le_of_lt h)) in
      let cut : p ++ (b ++ x ++ c ++ q) ≡ (p ++ b) ++ (x ++ (c ++ q)) = simp append_assoc in
      rw (blocks-cut f xs i d h, cut) (drop_at (p ++ b) (x ++ (c ++ q)) at (simp length-append (omega arith)))

-- a run of blocks of which each has n bytes: how long it is, and its i-th block
module _ {A : Type 0} (f : A → List ℕ) (n : ℕ) where
  abbrev pub AllSized : List A → Type 0
  AllSized xs = Each (λ x. length (f x) ≡ n) xs

  pub length-sized : (xs : List A) → AllSized xs → length (blocks f xs) ≡ n * length xs
  unfolding blocks
  length-sized [] h = omega arith
  length-sized (x ∷ xs) h = simp (length-append, h.0, length-sized xs h.1, mul-suc) (omega arith)

  pub sized-at : (xs : List A) (d : A) (i : ℕ) → AllSized xs → i < length xs → take n (drop (n * i) (blocks f xs)) ≡ f (get_or xs i d)
  unfolding blocks
  sized-at [] d i h l = absurd (omega arith)
  sized-at (x ∷ xs) d zero h l = rw mul-zero (take_at (f x) (blocks f xs) n h.0)
  sized-at (x ∷ xs) d (suc i) h l =
      rw (mul-suc, add_comm (n * i) n, ← drop-drop (n * i) n (f x ++ blocks f xs), drop_at (f x) (blocks f xs) n h.0)
      (sized-at xs d i h.1 (omega arith))
