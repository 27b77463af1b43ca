-- The laws of runs of blocks that are filled up to a fixed number: one more, one less, one changed.
use Rattle.std.specs.Prelude.{◌≡◌, get_or, set}
use Rattle.std.proofs.Math.Path.{refl, sym, ap}
use Rattle.std.proofs.Common.{◌∙◌, le_of_lt, le_refl, length-take-le}
use mathlib.Core.List.{List, [], ◌∷◌, ◌++◌, append_assoc, append-nil}
use Prim.Native.Nat.{ℕ, zero, suc, ◌+◌, ◌*◌, ◌-◌, ◌≤◌, ◌<◌}
use native.Mathlib.Omega.{arith}
use Rattle.std.proofs.Math.ListN.{length, take, drop, length-append, replicate, length-replicate, length-drop, get_or-eq_default}
use Rattle.rules.specs.Bytes.{blocks, pad, part}
use Rattle.bytes_fields.specs.Put.{put, put-at, part_at}
use Rattle.bytes_fields.specs.Blocks.{blocks-append, blocks-cut, length-blocks, length-pad, pad-split, block-put}

-- xs without its i-th element
unfoldable pub remove_at : {A : Type 0} → ℕ → List A → List A
remove_at i xs = take i xs ++ drop (suc i) xs

module _ {A : Type 0} (d : A) where
  pub pad-push : (n : ℕ) (xs : List A) (y : A) → length xs < n → set (pad d n xs) (length xs) y ≡ pad d n (xs ++ (y ∷ []))
  unfolding pad
  pad-push zero xs y h = absurd (omega arith)
  pad-push (suc n) [] y h = refl
  pad-push (suc n) (x ∷ xs) y h = ap (λ l. x ∷ l) (pad-push n xs y (omega arith))

  pub pad-set : (n : ℕ) (xs : List A) (i : ℕ) (y : A) → i < length xs → set (pad d n xs) i y ≡ pad d n (set xs i y)
  unfolding pad
  pad-set zero xs i y h = refl
  pad-set (suc n) [] i y h = absurd (omega arith)
  pad-set (suc n) (x ∷ xs) zero y h = refl
  pad-set (suc n) (x ∷ xs) (suc i) y h = ap (λ l. x ∷ l) (pad-set n xs i y (omega arith))

  pub pad-at : (n : ℕ) (xs : List A) (i : ℕ) → length xs ≤ n → get_or (pad d n xs) i d ≡ get_or xs i d
  pad-at n xs i h = rw (pad-split d n xs h) (go xs (n - length xs) i)
    where
      none : (k i : ℕ) → get_or (replicate k d) i d ≡ d
      none zero i = refl
      none (suc k) zero = refl
      none (suc k) (suc i) = none k i

      go : (xs : List A) (k i : ℕ) → get_or (xs ++ replicate k d) i d ≡ get_or xs i d
      go [] k i = none k i
      go (x ∷ xs) k zero = refl
      go (x ∷ xs) k (suc i) = go xs k i

pub length-remove_at : {A : Type 0} (i : ℕ) (xs : List A) → i < length xs → length (remove_at i xs) ≡ length xs - 1
unfolding remove_at
length-remove_at i xs h = simp (length-append, length-drop, length-take-le i xs (le_of_lt h)) (omega arith)

module _ {A : Type 0} (f : A → List ℕ) (n : ℕ) (same : (x : A) → length (f x) ≡ n) (d : A) (N : ℕ) where
  pub blocks-push : (xs : List A) (y : A) (at : ℕ) (a : List ℕ) → length xs < N → at ≡ n * length xs → length a ≤ n → put (f d) 0 a ≡ f y
      → put (blocks f (pad d N xs)) at a ≡ blocks f (pad d N (xs ++ (y ∷ [])))
  blocks-push xs y at a h e k w =
      let g : get_or (pad d N xs) (length xs) d ≡ d = pad-at d N xs (length xs) (le_of_lt h)
      ∙ get_or-eq_default xs d (le_refl (length xs)) in
      let r = block-put f n same d [] [] (pad d N xs) at (length xs) 0 a y (omega arith) (omega (arith, length-pad d N xs)) (omega arith)
      (rw g w) in
      rw (← pad-push d N xs y h) (simp append-nil at r)

  -- the i-th block goes, and the later ones move down
  pub blocks-remove : (xs : List A) (i at from more : ℕ) → i < length xs → length xs ≤ N → f d ≡ replicate n 0
      → at ≡ n * i → from ≡ at + n → more ≡ n * (length xs - 1 - i)
      → put (blocks f (pad d N xs)) at (part (blocks f (pad d N xs)) from more ++ replicate n 0) ≡ blocks f (pad d N (remove_at i xs))
  unfolding blocks remove_at
  blocks-remove xs i at from more h l z ea ef em =
      let a : List ℕ = blocks f (take i xs) in
      let x : List ℕ = f (get_or xs i d) in
      let b : List ℕ = blocks f (drop (suc i) xs) in
      let y : List ℕ = blocks f (replicate (N - length xs) d) in
      let o : List ℕ = replicate n 0 in
      let ys : List A = take i xs ++ drop (suc i) xs in
      let la : length a ≡ n * i = length-blocks f n same (take i xs) ∙ rw (length-take-le i xs (le_of_lt h)) in
      let lx : length x ≡ n = same (get_or xs i d) in
      let k : length (drop (suc i) xs) ≡ length xs - 1 - i = length-drop (suc i) xs ∙ omega arith in
      let lb : length b ≡ n * (length xs - 1 - i) = length-blocks f n same (drop (suc i) xs) ∙ rw k in
      let lo : length o ≡ n = length-replicate {A = ℕ} n 0 in
      let w : blocks f (pad d N xs) ≡ a ++ x ++ b ++ y = ap (blocks f) (pad-split d N xs l)
      ∙ blocks-append f xs (replicate (N - length xs) d) ∙ ap (λ q. q ++ y) (blocks-cut f xs i d h) in
      let w' : a ++ x ++ b ++ y ≡ a ++ (x ++ b) ++ y = simp append_assoc in
      let p : part (blocks f (pad d N xs)) from more ≡ b =
      rw w (part_at (a ++ x) b y from more (simp length-append (omega arith)) (omega arith)) in
      let ly : length ys ≡ length xs - 1 = length-remove_at i xs h in
      let c : N - length ys ≡ suc (N - length xs) = omega arith in
      let r : blocks f (pad d N ys) ≡ (a ++ b) ++ (o ++ y) =
      ap (blocks f) (pad-split d N ys (omega arith)) ∙ blocks-append f ys (replicate (N - length ys) d)
      ∙ ap (λ q. blocks f ys ++ blocks f (replicate q d)) c
      ∙ rw (blocks-append f (take i xs) (drop (suc i) xs), z) in
      rw (p, w, w') (put-at a (x ++ b) y (b ++ o) at (omega arith) (simp length-append (omega arith)) ∙ sym (r ∙ simp append_assoc))
