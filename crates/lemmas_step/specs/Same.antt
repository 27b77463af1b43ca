-- Stores that change nothing: a block's own words, a tree's own signals.
use Rattle.std.specs.Prelude.{◌≡◌, List, [], ◌∷◌, ℕ, zero, suc, ◌+◌, ◌*◌, ◌<◌, length, get_or, set}
use Rattle.std.proofs.Math.Path.{refl}
use Rattle.std.proofs.Common.{sym, ap, ◌∙◌, arith, set-set}
use Rattle.std.proofs.Math.Option.{some}
use Rattle.std.proofs.Math.Decide.{ℕ_discrete}
use Rattle.std.proofs.lemmas.List.{set-get_or, set_comm}
use Rattle.rules.specs.Sizes.{word_count}
use Rattle.rules.specs.Machine.{Signal, Tree, first, put, cells, stores, window, keep}
use Rattle.lemmas_rules.specs.Trees.{first-here, first-there, put-here, put-there}

-- ---- words

stores-cells : (n i : ℕ) (ws : List ℕ) → stores n i (cells n i ws) ws ≡ ws
unfolding stores cells
stores-cells zero i ws = refl
stores-cells (suc n) i ws = rw (stores-cells n (suc i) ws) (set-get_or ws i 0)

-- a block's own words, stored to it again
pub keep-window : (b : ℕ) (ws : List ℕ) → keep b (window b ws) ws ≡ ws
unfolding keep window
keep-window b ws = stores-cells word_count (word_count * b) ws

stores-below : (n i k v : ℕ) (ws vs : List ℕ) → k < i → set (stores n i vs ws) k v ≡ stores n i vs (set ws k v)
unfolding stores
stores-below zero i k v ws vs h = refl
stores-below (suc n) i k v ws [] h = refl
stores-below (suc n) i k v ws (x ∷ vs) h =
    set_comm (stores n (suc i) vs ws) i k x v (omega arith)
    ∙ ap (λ (z : List ℕ). set z i x) (stores-below n (suc i) k v ws vs (omega arith))

stores-set : (n i k v : ℕ) (ws : List ℕ) → k < n → stores n i (set (cells n i ws) k v) ws ≡ set ws (i + k) v
unfolding stores cells
stores-set zero i k v ws h = absurd (omega arith)
stores-set (suc n) i zero v ws h = let e : i + 0 ≡ i = omega arith in rw (stores-cells n (suc i) ws, e) refl
stores-set (suc n) i (suc k) v ws h =
    let e : suc i + k ≡ i + suc k = omega arith in
    rw (stores-set n (suc i) k v ws (omega arith), e)
    (set_comm ws (i + suc k) i v (get_or ws i 0) (omega arith) ∙ ap (λ (z : List ℕ). set z (i + suc k) v) (set-get_or ws i 0))

stores-more : (n i k v : ℕ) (vs ws : List ℕ) → k < n → k < length vs → set (stores n i vs ws) (i + k) v ≡ stores n i (set vs k v) ws
unfolding stores
stores-more zero i k v vs ws h l = absurd (omega arith)
stores-more (suc n) i k v [] ws h l = absurd (omega arith)
stores-more (suc n) i zero v (x ∷ vs) ws h l = let e : i + 0 ≡ i = omega arith in rw e (set-set (stores n (suc i) vs ws) i x v)
stores-more (suc n) i (suc k) v (x ∷ vs) ws h l =
    let e : i + suc k ≡ suc i + k = omega arith in
    let ih = stores-more n (suc i) k v vs ws (omega arith) (omega arith) in
    let m : set (stores n (suc i) vs ws) (i + suc k) v ≡ stores n (suc i) (set vs k v) ws = rw e ih in
    set_comm (stores n (suc i) vs ws) i (i + suc k) x v (omega arith) ∙ ap (λ (z : List ℕ). set z i x) m

-- one word more of a block stored to
pub keep-more : (b w v : ℕ) (vs ws : List ℕ) → w < word_count → length vs ≡ word_count
    → set (keep b vs ws) (word_count * b + w) v ≡ keep b (set vs w v) ws
unfolding keep
keep-more b w v vs ws h l = stores-more word_count (word_count * b) w v vs ws h (omega (arith, l))

cells_at : (n i k : ℕ) (ws : List ℕ) → k < n → get_or (cells n i ws) k 0 ≡ get_or ws (i + k) 0
unfolding cells
cells_at zero i k ws h = absurd (omega arith)
cells_at (suc n) i zero ws h = let e : i + 0 ≡ i = omega arith in rw e refl
cells_at (suc n) i (suc k) ws h = let e : suc i + k ≡ i + suc k = omega arith in cells_at n (suc i) k ws (omega arith) ∙ rw e refl

pub window-at : (b w : ℕ) (ws : List ℕ) → w < word_count → get_or (window b ws) w 0 ≡ get_or ws (word_count * b + w) 0
unfolding window
window-at b w ws h = cells_at word_count (word_count * b) w ws h

-- ---- trees

tree-path : (t : ℕ) (x : Tree) → x.thread ≡ t → ◌≡◌ {A = Tree} (record { thread = t; pending = x.pending }) x
tree-path t x e = λ i. record { thread = sym e i; pending = x.pending }

-- the first tree's own pending signals, given to it again
pub put_same : (t : ℕ) (p : List Signal) (l : List Tree) → first t l ≡ some p → put t (some p) l ≡ l
put_same t p [] h = unfold put in refl
put_same t p (x ∷ l) h = case (ℕ_discrete x.thread t) (put_same t p l)
  where
    case : Dec (x.thread ≡ t) → (first t l ≡ some p → put t (some p) l ≡ l) → put t (some p) (x ∷ l) ≡ x ∷ l
    case (yes e) ih =
        let q : p ≡ x.pending = cc (first-here t x l e) in
        put-here t x l (some p) e ∙ rw q (ap (λ (z : Tree). z ∷ l) (tree-path t x e))
    case (no e) ih = put-there t x l (some p) e ∙ ap (λ (z : List Tree). x ∷ z) (ih (sym (first-there t x l e) ∙ h))
