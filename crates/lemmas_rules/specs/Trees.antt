-- Job trees in list order, and the two things that an event does to a thread's first tree: read its pending signals, and put others
-- in their place (or take the tree out). What one thread does to its first tree, another's first tree does not notice.
use Rattle.std.specs.Prelude.{◌≡◌, ◌≢◌, List, [], ◌∷◌, ◌++◌, ℕ}
use Rattle.std.proofs.Math.Path.{refl}
use Rattle.std.proofs.Common.{sym, ap, ◌∙◌}
use Rattle.std.proofs.Math.Logic.{if_pos, if_neg}
use Rattle.std.proofs.Math.Option.{Option, none, some}
use Rattle.std.proofs.Math.Decide.{ℕ_discrete}
use Rattle.rules.specs.Machine.{Signal, Tree, first, refit, put, tree_threads}

module _ (t : ℕ) (x : Tree) (l : List Tree) where
  pub first-here : x.thread ≡ t → first t (x ∷ l) ≡ some x.pending
  unfolding first
  first-here e = if_pos (ℕ_discrete x.thread t) e _ _

  pub first-there : x.thread ≢ t → first t (x ∷ l) ≡ first t l
  unfolding first
  first-there e = if_neg (ℕ_discrete x.thread t) e _ _

  pub put-here : (o : Option (List Signal)) → x.thread ≡ t → put t o (x ∷ l) ≡ refit t o l
  unfolding put
  put-here o e = if_pos (ℕ_discrete x.thread t) e _ _

  pub put-there : (o : Option (List Signal)) → x.thread ≢ t → put t o (x ∷ l) ≡ x ∷ put t o l
  unfolding put
  put-there o e = if_neg (ℕ_discrete x.thread t) e _ _

-- an event of another thread leaves a thread's first tree as it was
first-refit-other : (t u : ℕ) (o : Option (List Signal)) (l : List Tree) → t ≢ u → first t (refit u o l) ≡ first t l
first-refit-other t u none l h = refl
first-refit-other t u (some p) l h = first-there t _ l (λ e. h (sym e))

put-refit-other : (t u : ℕ) (o q : Option (List Signal)) (l : List Tree) → t ≢ u → put t q (refit u o l) ≡ refit u o (put t q l)
put-refit-other t u none q l h = refl
put-refit-other t u (some p) q l h = put-there t _ l q (λ e. h (sym e))

pub first-put-other : (t u : ℕ) (o : Option (List Signal)) (l : List Tree) → t ≢ u → first t (put u o l) ≡ first t l
first-put-other t u o [] h = unfold put in refl
first-put-other t u o (x ∷ l) h = go (ℕ_discrete x.thread u) (ℕ_discrete x.thread t) (first-put-other t u o l h)
  where
    go : Dec (x.thread ≡ u) → Dec (x.thread ≡ t) → first t (put u o l) ≡ first t l → first t (put u o (x ∷ l)) ≡ first t (x ∷ l)
    go (yes e) d ih = rw (put-here, first-there t x l (λ k. h (sym k ∙ e))) (first-refit-other t u o l h)
    go (no e) (yes k) ih = rw (put-there, first-here t x (put u o l) k, first-here t x l k) refl
    go (no e) (no k) ih = rw (put-there, first-there t x (put u o l) k, first-there t x l k) ih

first-nil : (t : ℕ) → first t [] ≡ none
unfolding first
first-nil t = refl

pub first-put-same : (t : ℕ) (q p : List Signal) (l : List Tree) → first t l ≡ some p → first t (put t (some q) l) ≡ some q
first-put-same t q p [] h = cc (first-nil t)
first-put-same t q p (x ∷ l) h = go (ℕ_discrete x.thread t) (first-put-same t q p l)
  where
    go : Dec (x.thread ≡ t) → (first t l ≡ some p → first t (put t (some q) l) ≡ some q) → first t (put t (some q) (x ∷ l)) ≡ some q
    go (yes e) ih = rw (put-here) (first-here t _ l refl)
    go (no e) ih = rw (put-there, first-there t x (put t (some q) l) e) (ih (sym (first-there t x l e) ∙ h))

pub put-comm : (t u : ℕ) (o q : Option (List Signal)) (l : List Tree) → t ≢ u → put t q (put u o l) ≡ put u o (put t q l)
put-comm t u o q [] h = unfold put in refl
put-comm t u o q (x ∷ l) h = go (ℕ_discrete x.thread u) (ℕ_discrete x.thread t) (put-comm t u o q l h)
  where
    go : Dec (x.thread ≡ u) → Dec (x.thread ≡ t) → put t q (put u o l) ≡ put u o (put t q l)
        → put t q (put u o (x ∷ l)) ≡ put u o (put t q (x ∷ l))
    go (yes e) d ih =
        rw (put-here u x l o e, put-there t x l q (λ k. h (sym k ∙ e)), put-here u x (put t q l) o e) (put-refit-other t u o q l h)
    go (no e) (yes k) ih =
        rw (put-there u x l o e, put-here t x (put u o l) q k, put-here t x l q k) (sym (put-refit-other u t q o l (λ j. h (sym j))))
    go (no e) (no k) ih =
        rw (put-there u x l o e, put-there t x (put u o l) q k, put-there t x l q k, put-there u x (put t q l) o e)
        (ap (λ (r : List Tree). x ∷ r) ih)

refit-append : (t : ℕ) (o : Option (List Signal)) (l r : List Tree) → refit t o (l ++ r) ≡ refit t o l ++ r
refit-append t none l r = refl
refit-append t (some p) l r = refl

pub first-append : (t : ℕ) (p : List Signal) (l r : List Tree) → first t l ≡ some p → first t (l ++ r) ≡ some p
first-append t p [] r h = cc (first-nil t)
first-append t p (x ∷ l) r h = go (ℕ_discrete x.thread t) (first-append t p l r)
  where
    go : Dec (x.thread ≡ t) → (first t l ≡ some p → first t (l ++ r) ≡ some p) → first t (x ∷ (l ++ r)) ≡ some p
    go (yes e) ih = first-here t x (l ++ r) e ∙ sym (first-here t x l e) ∙ h
    go (no e) ih = first-there t x (l ++ r) e ∙ ih (sym (first-there t x l e) ∙ h)

pub put-append : (t : ℕ) (o : Option (List Signal)) (p : List Signal) (l r : List Tree) → first t l ≡ some p
    → put t o (l ++ r) ≡ put t o l ++ r
put-append t o p [] r h = cc (first-nil t)
put-append t o p (x ∷ l) r h = go (ℕ_discrete x.thread t) (put-append t o p l r)
  where
    go : Dec (x.thread ≡ t) → (first t l ≡ some p → put t o (l ++ r) ≡ put t o l ++ r) → put t o (x ∷ (l ++ r)) ≡ put t o (x ∷ l) ++ r
    go (yes e) ih = rw (put-here t x (l ++ r) o e, put-here t x l o e) (refit-append t o l r)
    go (no e) ih = rw (put-there t x (l ++ r) o e, put-there t x l o e)
        (ap (λ (s : List Tree). x ∷ s) (ih (sym (first-there t x l e) ∙ h)))

-- a tree that gets other signals stays on its thread
pub threads-put : (t : ℕ) (p : List Signal) (l : List Tree) → tree_threads (put t (some p) l) ≡ tree_threads l
threads-put t p [] = unfold put in refl
threads-put t p (x ∷ l) = case (ℕ_discrete x.thread t) (threads-put t p l)
  where
    case : Dec (x.thread ≡ t) → tree_threads (put t (some p) l) ≡ tree_threads l
        → tree_threads (put t (some p) (x ∷ l)) ≡ tree_threads (x ∷ l)
    case (yes e) ih = rw (put-here t x l (some p) e, e) refl
    case (no e) ih = rw (put-there t x l (some p) e) (ap (λ (z : List ℕ). x.thread ∷ z) ih)
