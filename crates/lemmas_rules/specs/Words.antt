-- The shared words of two blocks have none in common: what is written to one is not read in the other, and the order of the two
-- writes does not matter.
use Rattle.std.specs.Prelude.{◌≡◌, refl, ◌≢◌, ◌⊎◌, List, [], ◌∷◌, ℕ, zero, suc, ◌+◌, ◌*◌, ◌≤◌, ◌<◌, get_or, set}
use Rattle.std.proofs.Common.{sym, ap, ap₂, ◌∙◌, inl, inr, arith, get_or-set_other}
use Rattle.std.proofs.Math.Decide.{dec_lt}
use Rattle.std.proofs.lemmas.List.{set_comm}
use Rattle.rules.specs.Sizes.{word_count}
use Rattle.rules.specs.Machine.{cells, stores, window, keep}

get-stores : (n i k : ℕ) (vs ws : List ℕ) → (k < i) ⊎ (i + n ≤ k) → get_or (stores n i vs ws) k 0 ≡ get_or ws k 0
unfolding stores
get-stores zero i k vs ws h = refl
get-stores (suc n) i k [] ws h = refl
get-stores (suc n) i k (v ∷ vs) ws (inl h) =
    get_or-set_other (stores n (suc i) vs ws) i k v 0 (omega arith) ∙ get-stores n (suc i) k vs ws (inl (omega arith))
get-stores (suc n) i k (v ∷ vs) ws (inr h) =
    get_or-set_other (stores n (suc i) vs ws) i k v 0 (omega arith) ∙ get-stores n (suc i) k vs ws (inr (omega arith))

cells-stores : (n i m j : ℕ) (vs ws : List ℕ) → (m + j ≤ i) ⊎ (i + n ≤ j) → cells m j (stores n i vs ws) ≡ cells m j ws
unfolding cells
cells-stores n i zero j vs ws h = refl
cells-stores n i (suc m) j vs ws (inl h) =
    ap₂ (λ (a : ℕ) (r : List ℕ). a ∷ r) (get-stores n i j vs ws (inl (omega arith))) (cells-stores n i m (suc j) vs ws (inl (omega arith)))
cells-stores n i (suc m) j vs ws (inr h) =
    ap₂ (λ (a : ℕ) (r : List ℕ). a ∷ r) (get-stores n i j vs ws (inr (omega arith))) (cells-stores n i m (suc j) vs ws (inr (omega arith)))

set-stores : (n i k a : ℕ) (vs ws : List ℕ) → (k < i) ⊎ (i + n ≤ k) → set (stores n i vs ws) k a ≡ stores n i vs (set ws k a)
unfolding stores
set-stores zero i k a vs ws h = refl
set-stores (suc n) i k a [] ws h = refl
set-stores (suc n) i k a (v ∷ vs) ws (inl h) =
    set_comm (stores n (suc i) vs ws) i k v a (omega arith)
    ∙ ap (λ (z : List ℕ). set z i v) (set-stores n (suc i) k a vs ws (inl (omega arith)))
set-stores (suc n) i k a (v ∷ vs) ws (inr h) =
    set_comm (stores n (suc i) vs ws) i k v a (omega arith)
    ∙ ap (λ (z : List ℕ). set z i v) (set-stores n (suc i) k a vs ws (inr (omega arith)))

stores-comm : (n i m j : ℕ) (vs us ws : List ℕ) → (m + j ≤ i) ⊎ (i + n ≤ j)
    → stores n i vs (stores m j us ws) ≡ stores m j us (stores n i vs ws)
unfolding stores
stores-comm n i zero j vs us ws h = refl
stores-comm n i (suc m) j vs [] ws h = refl
stores-comm n i (suc m) j vs (u ∷ us) ws (inl h) =
    sym (set-stores n i j u vs (stores m (suc j) us ws) (inl (omega arith)))
    ∙ ap (λ (z : List ℕ). set z j u) (stores-comm n i m (suc j) vs us ws (inl (omega arith)))
stores-comm n i (suc m) j vs (u ∷ us) ws (inr h) =
    sym (set-stores n i j u vs (stores m (suc j) us ws) (inr (omega arith)))
    ∙ ap (λ (z : List ℕ). set z j u) (stores-comm n i m (suc j) vs us ws (inr (omega arith)))

separate : (b c : ℕ) → b ≢ c → (word_count + word_count * c ≤ word_count * b) ⊎ (word_count * b + word_count ≤ word_count * c)
separate b c n = case (dec_lt b c)
  where
    case : Dec (b < c) → (word_count + word_count * c ≤ word_count * b) ⊎ (word_count * b + word_count ≤ word_count * c)
    case (yes h) = inr (omega arith)
    case (no h) = inl (omega arith)

-- the windows of two blocks have nothing in common
pub window-keep-other : (b c : ℕ) (vs ws : List ℕ) → c ≢ b → window c (keep b vs ws) ≡ window c ws
unfolding window keep
window-keep-other b c vs ws h = cells-stores word_count (word_count * b) word_count (word_count * c) vs ws (separate b c (λ e. h (sym e)))

pub keep-comm : (b c : ℕ) (vs us ws : List ℕ) → b ≢ c → keep b vs (keep c us ws) ≡ keep c us (keep b vs ws)
unfolding keep
keep-comm b c vs us ws h = stores-comm word_count (word_count * b) word_count (word_count * c) vs us ws (separate b c h)
