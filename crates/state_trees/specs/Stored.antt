-- What runs of stores into the tree list leave: the bytes are a machine's again, and which machine.
use Rattle.std.specs.Prelude.{◌≡◌, refl, List, [], ◌∷◌, ◌++◌, ℕ, ◌+◌, ◌*◌, ◌-◌, ◌<◌, length, get_or, replicate}
use Rattle.std.proofs.Common.{sym, ◌∙◌, arith, length-append}
use Rattle.std.proofs.lemmas.List.{get_or_at, set_at}
use Rattle.rules.specs.Sizes.{tree_count, tree_size, tree_count_place, trees_place}
use Rattle.rules.specs.Bytes.{part, first_bad}
use Rattle.rules.specs.Machine.{Signal, Tree, Machine}
use Rattle.rules.specs.Encoding.{no_tree, signal_bytes, tree_bytes, machine_from}
use Rattle.bytes_fields.specs.Put.{put, put_whole}
use Rattle.bytes_fields.specs.Filled.{remove_at, length-remove_at}
use Rattle.lemmas_encoding.specs.Sized.{SizedSignal, SizedTree}
use Rattle.lemmas_encoding.specs.Lengths.{length-tree}
use Rattle.lemmas_encoding.specs.TreeStores.{with_trees, tree-remove, tree-append, signal-append}
use Rattle.lemmas_encoding.specs.SignalStores.{moved, tree-move, tree-bytes-are}
use Rattle.lemmas_encoding.specs.FirstTree.{first_tree, elsewhere, first_found}
use Rattle.state_pending.specs.Canon.{Canon, tree_at, says, canon}
use Rattle.state_pending.specs.Changes.{sized-at, sized_set}
use Rattle.state_trees.specs.Changes.{arrived, sized-append, sized-remove, sized-moved, sized-one}

-- ---- what is read

pub found : {b : List ℕ} (k : Canon b) (t thread n : ℕ) {i : ℕ} → thread ≡ t → n ≡ get_or b tree_count_place 0
    → i ≡ first_bad (elsewhere b thread) 0 n → i ≡ first_tree t (machine_from b).trees
found k t thread n et en e = e ∙ rw (et, en ∙ k.count) (first_found _ t k.same k.sized.trees)

-- ---- the list's end

module _ {b : List ℕ} (k : Canon b) where
  pub signal-arrived : {b₁ b₂ : List ℕ} (t n at : ℕ) (g : Signal) → SizedSignal g → length (machine_from b).trees < tree_count
      → n ≡ length (machine_from b).trees
      → at ≡ trees_place + tree_size * n → b₁ ≡ put b at (t ∷ 1 ∷ signal_bytes g) → b₂ ≡ put b₁ tree_count_place ((n + 1) ∷ [])
      → Canon b₂ × (machine_from b₂ ≡ arrived t g (machine_from b))
  signal-arrived t n at g zg room en ea e₁ e₂ =
      let s = machine_from b in
      let q = signal-append s t n at g k.same room en ea e₁ e₂ in
      let z = sized-append s k.sized _ (sized-one t g zg) room in
      (canon _ z q, says _ z q)

  pub tree-appended : {b₁ b₂ : List ℕ} (n at : ℕ) (x : Tree) → SizedTree x → length (machine_from b).trees < tree_count
      → n ≡ length (machine_from b).trees
      → at ≡ trees_place + tree_size * n → b₁ ≡ put b at (tree_bytes x) → b₂ ≡ put b₁ tree_count_place ((n + 1) ∷ [])
      → Canon b₂ × (machine_from b₂ ≡ with_trees (machine_from b) ((machine_from b).trees ++ x ∷ []))
  tree-appended n at x zx room en ea e₁ e₂ =
      let s = machine_from b in
      let q = tree-append s n at x k.same room en ea e₁ e₂ in
      let z = sized-append s k.sized x zx room in
      (canon _ z q, says _ z q)

-- ---- tree i

module _ {b : List ℕ} (k : Canon b) (i : ℕ) (h : i < length (machine_from b).trees) where
  pub tree-removed : {b₁ b₂ : List ℕ} (n at : ℕ) → n ≡ length (machine_from b).trees → at ≡ trees_place + tree_size * i
      → b₁ ≡ put b at (part b (at + tree_size) (tree_size * (n - 1 - i)) ++ replicate tree_size 0)
      → b₂ ≡ put b₁ tree_count_place ((n - 1) ∷ [])
      → Canon b₂ × (machine_from b₂ ≡ with_trees (machine_from b) (remove_at i (machine_from b).trees))
  tree-removed n at en ea e₁ e₂ =
      let s = machine_from b in
      let q = tree-remove s i n at k.same k.sized.trees h en ea e₁ e₂ in
      let z = sized-remove s k.sized i h in
      (canon _ z q, says _ z q)

  -- it is copied to a buffer, leaves the list and comes to its end
  pub tree-copied : {tree : List ℕ} → tree ≡ put (replicate tree_size 0) 0 (part b (trees_place + tree_size * i) tree_size)
      → tree ≡ tree_bytes (tree_at (machine_from b) i)
  tree-copied e =
      let x = tree_at (machine_from b) i in
      e ∙ rw (tree-bytes-are (machine_from b) i k.same k.sized.trees h (trees_place + tree_size * i) refl)
      (put_whole (replicate tree_size 0) (tree_bytes x) (sym (length-tree x)))

  pub tree-moved : {b₁ b₂ tree : List ℕ} (n : ℕ) → n ≡ length (machine_from b).trees → tree ≡ tree_bytes (tree_at (machine_from b) i)
      → Canon b₁ → machine_from b₁ ≡ with_trees (machine_from b) (remove_at i (machine_from b).trees)
      → b₂ ≡ put (put b₁ (trees_place + tree_size * (n - 1)) tree) tree_count_place ((n - 1 + 1) ∷ [])
      → Canon b₂ × (machine_from b₂ ≡ with_trees (machine_from b) (remove_at i (machine_from b).trees ++ tree_at (machine_from b) i ∷ []))
  tree-moved {b₁} n en et k₁ m e =
      let s = machine_from b in
      let l : length (machine_from b₁).trees ≡ length s.trees - 1 = rw m (length-remove_at i s.trees h) in
      let r = tree-appended k₁ (n - 1) (trees_place + tree_size * (n - 1)) (tree_at s i) (sized-at s k.sized i h)
      (omega (arith, k.sized.trees)) (omega arith) refl refl (rw et at e) in
      (r.0, r.1 ∙ rw m)

-- the last tree gets another thread
pub last-moved : {b b' : List ℕ} (k : Canon b) (s : Machine) (a : List Tree) (x : Tree) (t n : ℕ)
    → machine_from b ≡ with_trees s (a ++ x ∷ []) → n ≡ length a + 1
    → b' ≡ put b (trees_place + tree_size * (n - 1)) (t ∷ []) → Canon b' × (machine_from b' ≡ with_trees s (a ++ moved x t ∷ []))
last-moved {b} {b'} k s a x t n m en e =
    let l : length (machine_from b).trees ≡ length a + 1 = rw m (length-append a (x ∷ [])) in
    let p : n - 1 ≡ length a = omega arith in
    let h : n - 1 < length (machine_from b).trees = omega arith in
    let y = moved (tree_at (machine_from b) (n - 1)) t in
    let q = tree-move (machine_from b) (n - 1) k.same k.sized.trees h t (trees_place + tree_size * (n - 1)) refl e in
    let moves = sized-moved (tree_at (machine_from b) (n - 1)) t (sized-at (machine_from b) k.sized (n - 1) h) in
    let z = sized_set (machine_from b) k.sized (n - 1) h y moves in
    (canon _ z q, says _ z q ∙ rw m (rw (get_or_at a x [] no_tree (n - 1) (sym p), set_at a x [] (moved x t) (n - 1) (sym p))))
