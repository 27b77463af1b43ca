-- What becomes of the tree list, in the words of the law, from what the stores leave.
use Rattle.std.specs.Prelude.{◌≡◌, refl, true, length, get_or, take}
use Rattle.std.proofs.Common.{sym, ◌∙◌, arith, length-append, drop_of_length-le, ltb-true}
use Rattle.std.proofs.Math.Option.{none}
use mathlib.Core.List.{List, [], ◌∷◌, ◌++◌, append-nil}
use Prim.Native.Nat.{ℕ, zero, suc, ◌+◌, ◌<◌}
use Rattle.std.proofs.Math.ListN.{drop}
use Rattle.std.proofs.lemmas.List.{length-map}
use Rattle.std.proofs.Math.Seq.{split_at}
use Rattle.rules.specs.Sizes.{tree_count}
use Rattle.rules.specs.Machine.{Signal, Tree, Machine, put, tree_threads}
use Rattle.rules.specs.Encoding.{no_tree}
use Rattle.rules.specs.Steps.{room_for}
use Rattle.bytes_fields.specs.Each.{Each, each_append}
use Rattle.bytes_fields.specs.Filled.{remove_at, length-remove_at}
use Rattle.lemmas_encoding.specs.Sized.{SizedSignal, SizedTree, Sized}
use Rattle.lemmas_encoding.specs.TreeStores.{with_trees, sized-trees}
use Rattle.lemmas_encoding.specs.SignalStores.{moved}
use Rattle.lemmas_encoding.specs.FirstTree.{first_tree, put-none}
use Rattle.state_pending.specs.Canon.{tree_at, pending_at}

-- ---- the machines

-- thread u's first tree is tree i. Its job has ended: it leaves the list and, if not empty, goes to the list's end, on thread t
abbrev pub requeued_on : ℕ → List Signal → List Tree
requeued_on t [] = []
requeued_on t (g ∷ p) = record { thread = t; pending = g ∷ p } ∷ []

abbrev pub ended : ℕ → ℕ → ℕ → Machine → Machine
ended u t i s = with_trees s (put u none s.trees ++ requeued_on t (pending_at s i))

-- a tree of one signal comes to the list's end
abbrev pub arrived : ℕ → Signal → Machine → Machine
arrived t g s = with_trees s (s.trees ++ record { thread = t; pending = g ∷ [] } ∷ [])

-- ---- they stay within limits

module _ (s : Machine) (z : Sized s) where
  pub sized-append : (x : Tree) → SizedTree x → length s.trees < tree_count → Sized (with_trees s (s.trees ++ x ∷ []))
  sized-append x h l = sized-trees s (s.trees ++ x ∷ []) (simp length-append (omega arith))
      (each_append SizedTree s.trees (x ∷ []) z.each_tree (h, tt)) z

  pub sized-remove : (i : ℕ) → i < length s.trees → Sized (with_trees s (remove_at i s.trees))
  unfolding remove_at
  sized-remove i h = sized-trees s (remove_at i s.trees) (rw (length-remove_at i s.trees h) (omega (arith, z.trees)))
      (go s.trees i z.each_tree) z
    where
      go : (l : List Tree) (i : ℕ) → Each SizedTree l → Each SizedTree (take i l ++ drop (suc i) l)
      go [] zero e = tt
      go [] (suc i) e = tt
      go (x ∷ l) zero e = e.1
      go (x ∷ l) (suc i) e = (e.0, go l i e.1)

pub sized-moved : (x : Tree) (t : ℕ) → SizedTree x → SizedTree (moved x t)
sized-moved x t h = record { count = h.count; each = h.each }

pub sized-one : (t : ℕ) (g : Signal) → SizedSignal g → SizedTree (record { thread = t; pending = g ∷ [] })
sized-one t g h = record { count = omega arith; each = (h, tt) }

-- ---- tree i, where it is the first of thread u

none-requeued : (t : ℕ) (p : List Signal) → length p ≡ 0 → requeued_on t p ≡ []
none-requeued t [] l = refl
none-requeued t (g ∷ p) l = absurd (omega arith)

some-requeued : (t : ℕ) (p : List Signal) → 0 < length p → requeued_on t p ≡ record { thread = t; pending = p } ∷ []
some-requeued t [] l = absurd (omega arith)
some-requeued t (g ∷ p) l = refl

module _ (s : Machine) (i u : ℕ) (e : i ≡ first_tree u s.trees) (h : i < length s.trees) where
  pub remove_first : remove_at i s.trees ≡ put u none s.trees
  remove_first =
      let k : first_tree u s.trees < length s.trees = rw e at h in
      rw (e, ← put-none u s.trees k)

  -- the tree of an ended job: nothing is pending, or something is
  pub ended-empty : (t : ℕ) → length (pending_at s i) ≡ 0 → with_trees s (remove_at i s.trees) ≡ ended u t i s
  ended-empty t l = rw (none-requeued t (pending_at s i) l, append-nil, remove_first)

  pub ended-pending : (t : ℕ) → 0 < length (pending_at s i) → with_trees s (remove_at i s.trees ++ moved (tree_at s i) t ∷ [])
      ≡ ended u t i s
  ended-pending t l = rw (some-requeued t (pending_at s i) l, remove_first)

-- ---- the last tree

pub last-stays : (l : List Tree) (i : ℕ) → length l ≡ i + 1 → remove_at i l ++ get_or l i no_tree ∷ [] ≡ l
unfolding remove_at
last-stays l i e =
    let o : drop (suc i) l ≡ [] = drop_of_length-le l {i = suc i} (omega arith) in
    rw (o, append-nil) (sym (split_at l i no_tree (omega arith) ∙ rw o))

-- room for one more tree is room in the list
pub room-below : (s : Machine) (t : ℕ) → room_for (tree_threads s.trees) t ≡ true → length s.trees < tree_count
room-below s t e = omega (arith, ltb-true (length (tree_threads s.trees)) tree_count e, length-map s.trees (λ (x : Tree). x.thread))
