-- The place of a thread's first tree: what the law says of a thread's first tree is said of the tree at this place, and a search of
-- the bytes finds it.
use Rattle.std.specs.Prelude.{◌≡◌, Bool, not, cond, eqb, get_or, set}
use Rattle.std.proofs.Math.Path.{refl, ap}
use Rattle.std.proofs.Common.{◌∙◌, arith, eq-eqb, ne_eqb}
use Rattle.std.proofs.Math.Logic.{ite}
use Rattle.std.proofs.Math.Option.{none, some}
use mathlib.Core.List.{List, [], ◌∷◌, ◌++◌}
use Prim.Native.Nat.{ℕ, suc, ◌+◌, ◌*◌, ◌≤◌, ◌<◌}
use Rattle.std.proofs.Math.Decide.{ℕ_discrete}
use Rattle.std.proofs.Math.ListN.{length, take, drop}
use Rattle.rules.specs.Sizes.{tree_count, tree_size, trees_place}
use Rattle.rules.specs.Bytes.{first_bad}
use Rattle.rules.specs.Machine.{Signal, Tree, Machine, first, put}
use Rattle.rules.specs.Encoding.{no_tree, encode}
use Rattle.bytes_fields.specs.Filled.{remove_at}
use Rattle.lemmas_encoding.specs.SignalStores.{thread-byte-is}

-- the place of the first tree on thread t; the number of trees where there is none
unfoldable pub first_tree : ℕ → List Tree → ℕ
first_tree t [] = 0
first_tree t (x ∷ l) = ite (ℕ_discrete x.thread t) 0 (suc (first_tree t l))

-- there is none
module _ (t : ℕ) where
  pub first-none : (l : List Tree) → length l ≤ first_tree t l → first t l ≡ none
  unfolding first_tree first
  first-none [] h = refl
  first-none (x ∷ l) h = go (ℕ_discrete x.thread t) h (first-none l)
    where
      go : (d : Dec (x.thread ≡ t)) → suc (length l) ≤ ite d 0 (suc (first_tree t l)) → (length l ≤ first_tree t l → first t l ≡ none)
          → ite d (some x.pending) (first t l) ≡ none
      go (yes p) h ih = absurd (omega arith)
      go (no p) h ih = ih (omega arith)

  -- there is one
  pub first-thread : (l : List Tree) → first_tree t l < length l → (get_or l (first_tree t l) no_tree).thread ≡ t
  unfolding first_tree
  first-thread [] h = absurd (omega arith)
  first-thread (x ∷ l) h = go (ℕ_discrete x.thread t) h (first-thread l)
    where
      go : (d : Dec (x.thread ≡ t)) → ite d 0 (suc (first_tree t l)) < suc (length l)
          → (first_tree t l < length l → (get_or l (first_tree t l) no_tree).thread ≡ t)
          → (get_or (x ∷ l) (ite d 0 (suc (first_tree t l))) no_tree).thread ≡ t
      go (yes p) h ih = p
      go (no p) h ih = ih (omega arith)

  pub first_some : (l : List Tree) → first_tree t l < length l → first t l ≡ some (get_or l (first_tree t l) no_tree).pending
  unfolding first_tree first
  first_some [] h = absurd (omega arith)
  first_some (x ∷ l) h = go (ℕ_discrete x.thread t) h (first_some l)
    where
      go : (d : Dec (x.thread ≡ t)) → ite d 0 (suc (first_tree t l)) < suc (length l)
          → (first_tree t l < length l → first t l ≡ some (get_or l (first_tree t l) no_tree).pending)
          → ite d (some x.pending) (first t l) ≡ some (get_or (x ∷ l) (ite d 0 (suc (first_tree t l))) no_tree).pending
      go (yes p) h ih = refl
      go (no p) h ih = ih (omega arith)

  pub put-none : (l : List Tree) → first_tree t l < length l → put t none l ≡ remove_at (first_tree t l) l
  unfolding first_tree put remove_at
  put-none [] h = absurd (omega arith)
  put-none (x ∷ l) h = go (ℕ_discrete x.thread t) h (put-none l)
    where
      go : (d : Dec (x.thread ≡ t)) → ite d 0 (suc (first_tree t l)) < suc (length l)
          → (first_tree t l < length l → put t none l ≡ take (first_tree t l) l ++ drop (suc (first_tree t l)) l)
          → ite d l (x ∷ put t none l) ≡ take (ite d 0 (suc (first_tree t l))) (x ∷ l)
          ++ drop (suc (ite d 0 (suc (first_tree t l)))) (x ∷ l)
      go (yes p) h ih = refl
      go (no p) h ih = ap (λ r. x ∷ r) (ih (omega arith))

  pub put_some : (p : List Signal) (l : List Tree) → first_tree t l < length l
      → put t (some p) l ≡ set l (first_tree t l) (record { thread = t; pending = p })
  unfolding first_tree put
  put_some p [] h = absurd (omega arith)
  put_some p (x ∷ l) h = go (ℕ_discrete x.thread t) h (put_some p l)
    where
      y : Tree
      y = record { thread = t; pending = p }

      go : (d : Dec (x.thread ≡ t)) → ite d 0 (suc (first_tree t l)) < suc (length l)
          → (first_tree t l < length l → put t (some p) l ≡ set l (first_tree t l) y)
          → ite d (y ∷ l) (x ∷ put t (some p) l) ≡ set (x ∷ l) (ite d 0 (suc (first_tree t l))) y
      go (yes q) h ih = refl
      go (no q) h ih = ap (λ r. x ∷ r) (ih (omega arith))

-- ---- the search

-- tree i of these bytes is on another thread
unfoldable pub elsewhere : List ℕ → ℕ → ℕ → Bool
elsewhere b t i = not (eqb (get_or b (trees_place + tree_size * i) 0) t)

-- a test that is that of the trees from i on
search : (t : ℕ) (ok : ℕ → Bool) (l : List Tree) (i : ℕ) → ((j : ℕ) → j < length l → ok (i + j) ≡ not (eqb (get_or l j no_tree).thread t))
    → first_bad ok i (length l) ≡ i + first_tree t l
unfolding first_bad first_tree
search t ok [] i h = omega arith
search t ok (x ∷ l) i h =
    let e : ok i ≡ not (eqb x.thread t) = ap ok (omega arith) ∙ h 0 (omega arith) in
    rw e (go (ℕ_discrete x.thread t) (search t ok l (i + 1) (λ j lj. ap ok (omega arith) ∙ h (suc j) (omega arith))))
  where
    go : (d : Dec (x.thread ≡ t)) → first_bad ok (i + 1) (length l) ≡ i + 1 + first_tree t l
        → cond (not (eqb x.thread t)) (first_bad ok (i + 1) (length l)) i ≡ i + ite d 0 (suc (first_tree t l))
    go (yes p) ih = rw (eq-eqb x.thread t p) (omega arith)
    go (no p) ih = rw (ne_eqb x.thread t p) (omega arith)

pub first_found : (s : Machine) {b : List ℕ} (t : ℕ) → b ≡ encode s → length s.trees ≤ tree_count
    → first_bad (elsewhere b t) 0 (length s.trees) ≡ first_tree t s.trees
unfolding elsewhere
first_found s {b} t e l =
    search t (elsewhere b t) s.trees 0 (λ j h. ap (λ n. not (eqb n t)) (ap (λ k. get_or b (trees_place + tree_size * k) 0) (omega arith)
    ∙ thread-byte-is s j e l h (trees_place + tree_size * j) refl)) ∙ omega arith
