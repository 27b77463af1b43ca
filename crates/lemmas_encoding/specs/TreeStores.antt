-- The tree list in a machine's bytes: a tree leaves it, or comes to its end; and the bytes of one tree, for the time being others.
use Rattle.std.specs.Prelude.{◌≡◌, refl, length, get_or, take, drop, set, replicate}
use Rattle.std.proofs.Math.Path.{sym}
use Rattle.std.proofs.Common.{ap, ◌∙◌, arith, length-append, length-take-le}
use mathlib.Core.List.{List, [], ◌∷◌, ◌++◌, append_assoc}
use Prim.Native.Nat.{ℕ, suc, ◌+◌, ◌*◌, ◌-◌, ◌≤◌, ◌<◌}
use Rattle.std.proofs.Math.ListN.{length-set, length-drop}
use Rattle.std.proofs.lemmas.List.{drop-append-le, take-append-le}
use Rattle.rules.specs.Sizes.{tree_count, tree_size, tree_count_place, trees_place}
use Rattle.rules.specs.Bytes.{part, blocks, pad}
use Rattle.rules.specs.Machine.{Signal, Tree, Machine}
use Rattle.rules.specs.Encoding.{no_signal, no_tree, signal_bytes, tree_bytes, encode}
use Rattle.bytes_fields.specs.Each.{Each}
use Rattle.bytes_fields.specs.Put.{put, put-at, put_whole, put-inside, put-after, part-after}
use Rattle.bytes_fields.specs.Blocks.{blocks-cut, blocks-set, length-blocks, length-pad}
use Rattle.bytes_fields.specs.Filled.{remove_at, pad-set, pad-at, length-remove_at, blocks-push, blocks-remove}
use Rattle.lemmas_encoding.specs.Sized.{SizedTree, Sized}
use Rattle.lemmas_encoding.specs.Lengths.{length-signal, length-tree}
use Rattle.lemmas_encoding.specs.Layout.{header, length-header, slots, encode-header}
use Rattle.lemmas_encoding.specs.Trees.{no-tree}

abbrev pub with_trees : Machine → List Tree → Machine
with_trees s l = record { words = s.words; threads = s.threads; trees = l }

pub sized-trees : (s : Machine) (l : List Tree) → length l ≤ tree_count → Each SizedTree l → Sized s → Sized (with_trees s l)
sized-trees s l n h z = record { words = z.words; threads = z.threads; trees = n; each_thread = z.each_thread; each_tree = h }

-- ---- all after the tree count, behind n bytes h

module _ (h : List ℕ) (n : ℕ) (l : length h ≡ n) (c : ℕ) where
  slots-put : (r : List ℕ) (at j : ℕ) (a : List ℕ) → at ≡ n + 1 + j → put (h ++ (c ∷ r)) at a ≡ h ++ (c ∷ put r j a)
  slots-put r at j a e = put-after h (c ∷ r) at (suc j) a (omega arith) ∙ ap (λ q. h ++ q) (put-after (c ∷ []) r (suc j) j a (omega arith))

  slots-part : (r : List ℕ) (at j k : ℕ) → at ≡ n + 1 + j → part (h ++ (c ∷ r)) at k ≡ part r j k
  slots-part r at j k e = part-after h (c ∷ r) at (suc j) k (omega arith) ∙ part-after (c ∷ []) r (suc j) j k (omega arith)

  count-put : (r : List ℕ) (c' : ℕ) → put (h ++ (c ∷ r)) n (c' ∷ []) ≡ h ++ (c' ∷ r)
  unfolding put
  count-put r c' = put-after h (c ∷ r) n 0 (c' ∷ []) (omega arith)

-- ---- tree i leaves the list: the later ones move down, and the count is one less

pub tree-remove : (s : Machine) {b b₁ b₂ : List ℕ} (i n at : ℕ) → b ≡ encode s → length s.trees ≤ tree_count → i < length s.trees
    → n ≡ length s.trees
    → at ≡ trees_place + tree_size * i → b₁ ≡ put b at (part b (at + tree_size) (tree_size * (n - 1 - i)) ++ replicate tree_size 0)
    → b₂ ≡ put b₁ tree_count_place ((n - 1) ∷ [])
    → b₂ ≡ encode (with_trees s (remove_at i s.trees))
unfolding slots header
tree-remove s {b} {b₁} {b₂} i n at e l h en ea e₁ e₂ =
    let hd = header s in
    let lh = length-header s in
    let c = length s.trees in
    let r : List ℕ = blocks tree_bytes (pad no_tree tree_count s.trees) in
    let r' : List ℕ = blocks tree_bytes (pad no_tree tree_count (remove_at i s.trees)) in
    let more = tree_size * (n - 1 - i) in
    let f : b ≡ hd ++ (c ∷ r) = e ∙ encode-header s in
    let p : part b (at + tree_size) more ≡ part r (tree_size * i + tree_size) more =
    rw f (slots-part hd tree_count_place lh c r (at + tree_size) (tree_size * i + tree_size) more (omega arith)) in
    let w : put r (tree_size * i) (part r (tree_size * i + tree_size) more ++ replicate tree_size 0) ≡ r' =
    blocks-remove tree_bytes tree_size length-tree no_tree tree_count s.trees i (tree_size * i) (tree_size * i + tree_size) more h l no-tree
    refl refl (rw en) in
    let g₁ : b₁ ≡ hd ++ (c ∷ r') = e₁ ∙ rw (p, f) (slots-put hd tree_count_place lh c r at (tree_size * i) _ (omega arith) ∙ rw w) in
    let g₂ : b₂ ≡ hd ++ ((n - 1) ∷ r') = e₂ ∙ rw g₁ (count-put hd tree_count_place lh c r' (n - 1)) in
    let k : n - 1 ≡ length (remove_at i s.trees) = rw (length-remove_at i s.trees h, en) in
    g₂ ∙ rw k (sym (encode-header (with_trees s (remove_at i s.trees))))

-- ---- a tree comes to the list's end: bytes that make an unused place the tree, and the count is one more

pub tree-push : (s : Machine) {b b₁ b₂ : List ℕ} (n at : ℕ) (x : Tree) (a : List ℕ) → b ≡ encode s → length s.trees < tree_count
    → n ≡ length s.trees
    → at ≡ trees_place + tree_size * n → length a ≤ tree_size → put (tree_bytes no_tree) 0 a ≡ tree_bytes x → b₁ ≡ put b at a
    → b₂ ≡ put b₁ tree_count_place ((n + 1) ∷ [])
    → b₂ ≡ encode (with_trees s (s.trees ++ x ∷ []))
unfolding slots header
tree-push s {b} {b₁} {b₂} n at x a e l en ea la w e₁ e₂ =
    let hd = header s in
    let lh = length-header s in
    let c = length s.trees in
    let r : List ℕ = blocks tree_bytes (pad no_tree tree_count s.trees) in
    let r' : List ℕ = blocks tree_bytes (pad no_tree tree_count (s.trees ++ x ∷ [])) in
    let f : b ≡ hd ++ (c ∷ r) = e ∙ encode-header s in
    let v : put r (tree_size * n) a ≡ r' = blocks-push tree_bytes tree_size length-tree no_tree tree_count s.trees x (tree_size * n) a l
    (rw en) la w in
    let g₁ : b₁ ≡ hd ++ (c ∷ r') = e₁ ∙ rw f (slots-put hd tree_count_place lh c r at (tree_size * n) a (omega arith) ∙ rw v) in
    let g₂ : b₂ ≡ hd ++ ((n + 1) ∷ r') = e₂ ∙ rw g₁ (count-put hd tree_count_place lh c r' (n + 1)) in
    let k : n + 1 ≡ length (s.trees ++ x ∷ []) = simp length-append (omega arith) in
    g₂ ∙ rw k (sym (encode-header (with_trees s (s.trees ++ x ∷ []))))

-- a whole tree, and a tree of one signal
pub whole-tree : (x : Tree) → put (tree_bytes no_tree) 0 (tree_bytes x) ≡ tree_bytes x
whole-tree x = put_whole (tree_bytes no_tree) (tree_bytes x) (length-tree no_tree ∙ sym (length-tree x))

pub one-signal : (t : ℕ) (g : Signal) → put (tree_bytes no_tree) 0 (t ∷ 1 ∷ signal_bytes g)
    ≡ tree_bytes (record { thread = t; pending = g ∷ [] })
unfolding tree_bytes blocks pad
one-signal t g =
    put-at [] (0 ∷ 0 ∷ signal_bytes no_signal) (blocks signal_bytes (pad no_signal 7 [])) (t ∷ 1 ∷ signal_bytes g) 0 refl
    (omega (arith, length-signal no_signal, length-signal g))

pub tree-append : (s : Machine) {b b₁ b₂ : List ℕ} (n at : ℕ) (x : Tree) → b ≡ encode s → length s.trees < tree_count
    → n ≡ length s.trees
    → at ≡ trees_place + tree_size * n → b₁ ≡ put b at (tree_bytes x) → b₂ ≡ put b₁ tree_count_place ((n + 1) ∷ [])
    → b₂ ≡ encode (with_trees s (s.trees ++ x ∷ []))
tree-append s n at x e l en ea e₁ e₂ = tree-push s n at x (tree_bytes x) e l en ea (omega (arith, length-tree x)) (whole-tree x) e₁ e₂

pub signal-append : (s : Machine) {b b₁ b₂ : List ℕ} (t n at : ℕ) (g : Signal) → b ≡ encode s → length s.trees < tree_count
    → n ≡ length s.trees
    → at ≡ trees_place + tree_size * n → b₁ ≡ put b at (t ∷ 1 ∷ signal_bytes g) → b₂ ≡ put b₁ tree_count_place ((n + 1) ∷ [])
    → b₂ ≡ encode (with_trees s (s.trees ++ record { thread = t; pending = g ∷ [] } ∷ []))
signal-append s t n at g e l en ea e₁ e₂ = tree-push s n at _ (t ∷ 1 ∷ signal_bytes g) e l en ea (omega (arith, length-signal g))
    (one-signal t g) e₁ e₂

-- ---- inside tree i: its bytes are c for the time being

unfoldable pub opened : Machine → ℕ → List ℕ → List ℕ
opened s i c = header s ++ (length s.trees ∷ (blocks tree_bytes (take i (pad no_tree tree_count s.trees)) ++ c ++ blocks tree_bytes
    (drop (suc i) (pad no_tree tree_count s.trees))))

module _ (s : Machine) (i : ℕ) (l : length s.trees ≤ tree_count) (h : i < length s.trees) where
  pub tree-open : encode s ≡ opened s i (tree_bytes (get_or s.trees i no_tree))
  unfolding opened slots
  tree-open = encode-header s ∙ rw (
    blocks-cut tree_bytes (pad no_tree tree_count s.trees) i no_tree
        (omega (arith, length-pad no_tree tree_count s.trees)),
    pad-at no_tree tree_count s.trees i l,
  )

  pub tree-close : (y : Tree) → opened s i (tree_bytes y) ≡ encode (with_trees s (set s.trees i y))
  unfolding opened slots header
  tree-close y =
      sym (encode-header (with_trees s (set s.trees i y))
      ∙ rw (
        length-set s.trees i y,
        ← pad-set no_tree tree_count s.trees i y h,
        blocks-set tree_bytes
            (pad no_tree tree_count s.trees) i y (omega (arith, length-pad no_tree tree_count s.trees)),
      ))

  front : length (blocks tree_bytes (take i (pad no_tree tree_count s.trees))) ≡ tree_size * i
  front = length-blocks tree_bytes tree_size length-tree (take i (pad no_tree tree_count s.trees))
      ∙ rw (length-take-le i (pad no_tree tree_count s.trees) (omega (arith, length-pad no_tree tree_count s.trees)))

  pub tree-put : (c : List ℕ) {b b' : List ℕ} (at j : ℕ) (a : List ℕ) → b ≡ opened s i c → b' ≡ put b at a → length c ≡ tree_size
      → at ≡ trees_place + tree_size * i + j
      → j + length a ≤ tree_size → b' ≡ opened s i (put c j a)
  unfolding opened
  tree-put c at j a e e' lc ea k =
      e'
      ∙ rw e (slots-put (header s) tree_count_place (length-header s) _ _ at (tree_size * i + j) a (omega arith)
      ∙ rw (put-inside (blocks tree_bytes (take i (pad no_tree tree_count s.trees))) c
      (blocks tree_bytes (drop (suc i) (pad no_tree tree_count s.trees))) (tree_size * i + j) j a (omega (arith, front)) (omega arith)))

  pub tree-part : (c : List ℕ) {b : List ℕ} (at j n : ℕ) → b ≡ opened s i c → length c ≡ tree_size → at ≡ trees_place + tree_size * i + j
      → j + n ≤ tree_size → part b at n ≡ part c j n
  unfolding opened part
  tree-part c at j n e lc ea k =
      let x : List ℕ = blocks tree_bytes (take i (pad no_tree tree_count s.trees)) in
      let y : List ℕ = blocks tree_bytes (drop (suc i) (pad no_tree tree_count s.trees)) in
      let f₁ : part (x ++ c ++ y) (tree_size * i + j) n ≡ part (c ++ y) j n =
      rw append_assoc (part-after x (c ++ y) (tree_size * i + j) j n (omega (arith, front))) in
      let f₂ : part (c ++ y) j n ≡ part c j n =
      rw (drop-append-le j c y (omega arith)) (take-append-le n (drop j c) y (simp length-drop (omega arith))) in
      rw e (slots-part (header s) tree_count_place (length-header s) _ _ at (tree_size * i + j) n (omega arith) ∙ f₁ ∙ f₂)
