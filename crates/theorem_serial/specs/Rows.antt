-- The rows of the threads, one after the other: a row with those before it and those behind it.
use Rattle.std.specs.Prelude.{◌≡◌, refl, ◌≢◌, ◌⊎◌, ℕ, zero, suc, ◌+◌, ◌<◌, length, get_or, set, take, drop}
use Rattle.std.proofs.Common.{sym, ap, ◌∙◌, inl, inr, suc-le-suc, arith, length-take, get_or-take, get_or-drop}
use mathlib.Core.List.Memᴰ
use mathlib.Core.List.{List, [], ◌∷◌, ◌++◌, append_assoc, flatten, Memᴰ}
use Rattle.std.proofs.lemmas.List.{set_split}
use Rattle.std.proofs.Math.Seq.{split_at}
use Rattle.rules.specs.Order.{Entry}

flatten-append : (a b : List (List Entry)) → flatten (a ++ b) ≡ flatten a ++ flatten b
unfolding flatten
flatten-append [] b = refl
flatten-append (x ∷ a) b = rw (flatten-append a b) (sym (append_assoc x (flatten a) (flatten b)))

unfoldable pub before : List (List Entry) → ℕ → List Entry
before l t = flatten (take t l)

unfoldable pub behind : List (List Entry) → ℕ → List Entry
behind l t = flatten (drop (suc t) l)

flatten-cons : (x : List Entry) (l : List (List Entry)) → flatten (x ∷ l) ≡ x ++ flatten l
unfolding flatten
flatten-cons x l = refl

pub flatten-row : (l : List (List Entry)) (t : ℕ) → t < length l → flatten l ≡ before l t ++ (get_or l t [] ++ behind l t)
unfolding before behind
flatten-row l t h =
    ap flatten (split_at l t [] h) ∙ flatten-append _ _ ∙ ap (λ (z : List Entry). flatten (take t l) ++ z) (flatten-cons _ _)

pub flatten-set : (l : List (List Entry)) (t : ℕ) (r : List Entry) → t < length l → flatten (set l t r) ≡ before l t ++ (r ++ behind l t)
unfolding before behind
flatten-set l t r h =
    ap flatten (set_split l t r h) ∙ flatten-append _ _ ∙ ap (λ (z : List Entry). flatten (take t l) ++ z) (flatten-cons _ _)

-- an entry of the rows stands in one of them
pub mem-flatten : (n : Entry) (l : List (List Entry)) → Memᴰ n (flatten l) → (k : ℕ) × (k < length l) × Memᴰ n (get_or l k [])
unfolding flatten
mem-flatten n [] m = absurd (Memᴰ.not-nil m)
mem-flatten n (x ∷ l) m = case (λ m'. mem-flatten n l m') (Memᴰ.append_cases x m)
  where
    case : (Memᴰ n (flatten l) → (k : ℕ) × (k < length l) × Memᴰ n (get_or l k [])) → Memᴰ n x ⊎ Memᴰ n (flatten l)
        → (k : ℕ) × (k < suc (length l)) × Memᴰ n (get_or (x ∷ l) k [])
    case ih (inl a) = (zero, omega arith, a)
    case ih (inr a) = let r = ih a in (suc r.0, suc-le-suc r.1, r.2)

pub mem-before : (n : Entry) (l : List (List Entry)) (t : ℕ) → Memᴰ n (before l t) → (k : ℕ) × (k ≢ t) × Memᴰ n (get_or l k [])
unfolding before
mem-before n l t m =
    let r = mem-flatten n (take t l) m in
    let h : r.0 < t = omega (arith, r.1, length-take t l) in
    (r.0, omega arith, rw (get_or-take t l r.0 [] h) at r.2)

pub mem-behind : (n : Entry) (l : List (List Entry)) (t : ℕ) → Memᴰ n (behind l t) → (k : ℕ) × (k ≢ t) × Memᴰ n (get_or l k [])
unfolding behind
mem-behind n l t m =
    let r = mem-flatten n (drop (suc t) l) m in
    (suc t + r.0, omega arith, rw (get_or-drop (suc t) l r.0 []) at r.2)
