-- What becomes of a tree's pending signals, in the words of the law, from what the stores leave.
use Rattle.std.specs.Prelude.{◌≡◌, List, [], ◌∷◌, ◌++◌, ℕ, ◌<◌, length, drop, set}
use Rattle.std.proofs.Math.Option.{some}
use Rattle.std.proofs.Common.{arith, length-append, length-set, length-drop}
use Rattle.rules.specs.Sizes.{pending_count}
use Rattle.rules.specs.Machine.{Signal, Tree, Machine, put}
use Rattle.rules.specs.Encoding.{no_tree}
use Rattle.bytes_fields.specs.Each.{each_at, each_set, each_append, each_tail}
use Rattle.lemmas_encoding.specs.Sized.{SizedSignal, SizedTree, Sized}
use Rattle.lemmas_encoding.specs.TreeStores.{with_trees, sized-trees}
use Rattle.lemmas_encoding.specs.SignalStores.{pushed, rest}
use Rattle.lemmas_encoding.specs.FirstTree.{first_tree, first-thread, put_some}
use Rattle.state_pending.specs.Canon.{tree_at, pending_at}

-- ---- the machines

-- thread u's first tree is tree i. Its oldest signal is taken
abbrev pub taken : ℕ → ℕ → Machine → Machine
taken u i s = with_trees s (put u (some (drop 1 (pending_at s i))) s.trees)

-- a signal comes to its end
abbrev pub sent : ℕ → ℕ → Signal → Machine → Machine
sent u i g s = with_trees s (put u (some (pending_at s i ++ g ∷ [])) s.trees)

-- ---- they stay within limits

module _ (s : Machine) (z : Sized s) (i : ℕ) (h : i < length s.trees) where
  pub sized-at : SizedTree (tree_at s i)
  sized-at = each_at SizedTree s.trees i no_tree z.each_tree h

  pub sized_set : (x : Tree) → SizedTree x → Sized (with_trees s (set s.trees i x))
  sized_set x k = sized-trees s (set s.trees i x) (rw length-set z.trees) (each_set SizedTree s.trees i x z.each_tree k) z

pub sized-pushed : (x : Tree) (g : Signal) → SizedTree x → SizedSignal g → length x.pending < pending_count → SizedTree (pushed x g)
sized-pushed x g h k l = record {
  count = simp length-append (omega arith);
  each =
      each_append SizedSignal x.pending (g ∷ []) h.each (k, tt);
}

pub sized-rest : (x : Tree) → SizedTree x → SizedTree (rest x)
sized-rest x h = record { count = rw length-drop (omega (arith, h.count)); each = each_tail SizedSignal x.pending h.each }

-- ---- tree i, where it is the first of thread u

module _ (s : Machine) (i u : ℕ) (e : i ≡ first_tree u s.trees) (h : i < length s.trees) where
  pub set_first : (p : List Signal) → with_trees s (set s.trees i (record { thread = (tree_at s i).thread; pending = p }))
      ≡ with_trees s (put u (some p) s.trees)
  set_first p =
      let k : first_tree u s.trees < length s.trees = rw e at h in
      let f : (tree_at s i).thread ≡ u = rw e (first-thread u s.trees k) in
      rw (f, e, ← put_some u p s.trees k)
