-- What holds of each element of a list.
use Rattle.std.specs.Prelude.{List, [], ◌∷◌, ◌++◌, ℕ, zero, suc, ◌<◌, length, get_or, set, drop}
use Rattle.std.proofs.Common.{arith}

abbrev pub Each : {A : Type 0} → (A → Type 0) → List A → Type 0
Each P [] = Unit {0}
Each P (x ∷ xs) = P x × Each P xs

module _ {A : Type 0} (P : A → Type 0) where
  pub each_at : (xs : List A) (i : ℕ) (d : A) → Each P xs → i < length xs → P (get_or xs i d)
  each_at [] i d e h = absurd (omega arith)
  each_at (x ∷ xs) zero d e h = e.0
  each_at (x ∷ xs) (suc i) d e h = each_at xs i d e.1 (omega arith)

  -- and, of a place that there is not, if it holds of what stands in for it
  pub each_or : (xs : List A) (i : ℕ) (d : A) → Each P xs → P d → P (get_or xs i d)
  each_or [] i d e h = h
  each_or (x ∷ xs) zero d e h = e.0
  each_or (x ∷ xs) (suc i) d e h = each_or xs i d e.1 h

  pub each_set : (xs : List A) (i : ℕ) (y : A) → Each P xs → P y → Each P (set xs i y)
  each_set [] i y e h = tt
  each_set (x ∷ xs) zero y e h = (h, e.1)
  each_set (x ∷ xs) (suc i) y e h = (e.0, each_set xs i y e.1 h)

  pub each_append : (xs ys : List A) → Each P xs → Each P ys → Each P (xs ++ ys)
  each_append [] ys h k = k
  each_append (x ∷ xs) ys h k = (h.0, each_append xs ys h.1 k)

  pub each-front : (xs ys : List A) → Each P (xs ++ ys) → Each P xs
  each-front [] ys h = tt
  each-front (x ∷ xs) ys h = (h.0, each-front xs ys h.1)

  pub each_tail : (xs : List A) → Each P xs → Each P (drop 1 xs)
  each_tail [] e = tt
  each_tail (x ∷ xs) e = e.1
