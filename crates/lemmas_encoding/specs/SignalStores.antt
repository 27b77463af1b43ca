-- The signals of one tree in a machine's bytes: one comes to the end, the oldest is taken; and what is read of a tree.
use Rattle.std.specs.Prelude.{◌≡◌, refl, List, [], ◌∷◌, ◌++◌, ℕ, ◌+◌, ◌*◌, ◌-◌, ◌≤◌, ◌<◌, length, drop, set, replicate}
use Rattle.std.proofs.Common.{sym, ap, ◌∙◌, add-zero, arith, length-append, length-drop, take_at, drop-drop, get_or-drop}
use Rattle.std.proofs.Math.ListN.{get_or}
use Rattle.std.proofs.lemmas.List.{length-replicate}
use Rattle.rules.specs.Sizes.{tree_count, pending_count, signal_size, signals_place, tree_size, trees_place}
use Rattle.rules.specs.Bytes.{part, blocks, pad}
use Rattle.rules.specs.Machine.{Signal, Tree, Machine}
use Rattle.rules.specs.Encoding.{no_signal, no_tree, signal_bytes, signal_from, signals_bytes, tree_bytes, encode}
use Rattle.bytes_fields.specs.Each.{Each, each_at}
use Rattle.bytes_fields.specs.Put.{put, length-put, put-after, part-after, length_part}
use Rattle.bytes_fields.specs.Filled.{remove_at, blocks-remove}
use Rattle.lemmas_encoding.specs.Sized.{SizedSignal, SizedTree}
use Rattle.lemmas_encoding.specs.Lengths.{length-signal, length-tree}
use Rattle.lemmas_encoding.specs.Layout.{tree-on}
use Rattle.lemmas_encoding.specs.Signals.{no-signal, signal-back, places-push}
use Rattle.lemmas_encoding.specs.Trees.{signal-at, tree-thread-back, pending-back}
use Rattle.lemmas_encoding.specs.TreeStores.{with_trees, tree-open, tree-close, tree-put, tree-part}

-- a tree with one more signal, a tree without its oldest one, and a tree on another thread
abbrev pub pushed : Tree → Signal → Tree
pushed x g = record { thread = x.thread; pending = x.pending ++ g ∷ [] }

abbrev pub rest : Tree → Tree
rest x = record { thread = x.thread; pending = drop 1 x.pending }

abbrev pub moved : Tree → ℕ → Tree
moved x t = record { thread = t; pending = x.pending }

-- ---- a tree's own bytes

-- one more signal comes behind k others, and is counted
signals-push : (n k : ℕ) (gs : List Signal) (g : Signal) → length gs < n → k ≡ length gs
    → put (put (signals_bytes n gs) (1 + signal_size * k) (signal_bytes g)) 0 ((k + 1) ∷ []) ≡ signals_bytes n (gs ++ g ∷ [])
unfolding put
signals-push n k gs g h e =
    let c : k + 1 ≡ length (gs ++ g ∷ []) = simp length-append (omega arith) in
    ap (λ l. put l 0 ((k + 1) ∷ [])) (put-after (length gs ∷ []) (blocks signal_bytes (pad no_signal n gs)) (1 + signal_size * k)
    (signal_size * k) (signal_bytes g) refl) ∙ rw (places-push n k gs g h e, c)

push-bytes : (x : Tree) (k : ℕ) (g : Signal) → length x.pending < pending_count → k ≡ length x.pending
    → put (put (tree_bytes x) (2 + signal_size * k) (signal_bytes g)) 1 ((k + 1) ∷ []) ≡ tree_bytes (pushed x g)
unfolding tree_bytes
push-bytes x k g h e =
    let S : List ℕ = signals_bytes pending_count x.pending in
    let a : List ℕ = x.thread ∷ [] in
    ap (λ l. put l 1 ((k + 1) ∷ [])) (put-after a S (2 + signal_size * k) (1 + signal_size * k) (signal_bytes g) (omega arith))
    ∙ put-after a (put S (1 + signal_size * k) (signal_bytes g)) 1 0 ((k + 1) ∷ []) (omega arith)
    ∙ ap (λ l. x.thread ∷ l) (signals-push pending_count k x.pending g h e)

take-bytes : (x : Tree) (k : ℕ) → 0 < length x.pending → length x.pending ≤ pending_count → k ≡ length x.pending
    → put (put (tree_bytes x) 2 (part (tree_bytes x) (2 + signal_size) (signal_size * (k - 1)) ++ replicate signal_size 0)) 1 ((k - 1) ∷ [])
    ≡ tree_bytes (rest x)
unfolding tree_bytes put remove_at
take-bytes x k h l e =
    let r : List ℕ = blocks signal_bytes (pad no_signal pending_count x.pending) in
    let z : k - 1 ≡ length x.pending - 1 - 0 = omega arith in
    let p : part (x.thread ∷ length x.pending ∷ r) (signals_place + signal_size) (signal_size * (k - 1))
    ≡ part r signal_size (signal_size * (k - 1)) =
    part-after (x.thread ∷ length x.pending ∷ []) r (signals_place + signal_size) signal_size (signal_size * (k - 1)) refl in
    let w : put r 0 (part r signal_size (signal_size * (k - 1)) ++ replicate signal_size 0)
    ≡ blocks signal_bytes (pad no_signal pending_count (drop 1 x.pending)) =
    blocks-remove signal_bytes signal_size length-signal no_signal pending_count x.pending 0 0 signal_size (signal_size * (k - 1)) h l
    no-signal refl refl (rw z) in
    let n : k - 1 ≡ length (drop 1 x.pending) = rw (length-drop, e) in
    rw p (ap (λ l. put l 1 ((k - 1) ∷ []))
    (put-after (x.thread ∷ length x.pending ∷ []) r 2 0 (part r signal_size (signal_size * (k - 1)) ++ replicate signal_size 0) refl)
    ∙ rw (w, n))

pub move-bytes : (x : Tree) (t : ℕ) → put (tree_bytes x) 0 (t ∷ []) ≡ tree_bytes (moved x t)
unfolding tree_bytes put
move-bytes x t = refl

-- ---- what stores do to tree i, along equations

module _ (s : Machine) (i : ℕ) {b : List ℕ} (e : b ≡ encode s) (l : length s.trees ≤ tree_count) (h : i < length s.trees) where
  pub signal-push : {b₁ b₂ : List ℕ} (k at : ℕ) (g : Signal) → k ≡ length (get_or s.trees i no_tree).pending
      → length (get_or s.trees i no_tree).pending < pending_count
      → at ≡ trees_place + tree_size * i → b₁ ≡ put b (at + 2 + signal_size * k) (signal_bytes g) → b₂ ≡ put b₁ (at + 1) ((k + 1) ∷ [])
      → b₂ ≡ encode (with_trees s (set s.trees i (pushed (get_or s.trees i no_tree) g)))
  signal-push {b₁} {b₂} k at g ek few ea e₁ e₂ =
      let x = get_or s.trees i no_tree in
      let f₁ = tree-put s i l h (tree_bytes x) (at + signals_place + signal_size * k) (signals_place + signal_size * k) (signal_bytes g)
      (e ∙ tree-open s i l h) e₁ (length-tree x) (omega arith) (omega (arith, length-signal g)) in
      let f₂ = tree-put s i l h (put (tree_bytes x) (signals_place + signal_size * k) (signal_bytes g)) (at + 1) 1 ((k + 1) ∷ []) f₁ e₂
      (length-put _ _ _ ∙ length-tree x) (omega arith) (omega arith) in
      f₂ ∙ rw (push-bytes x k g few ek) (tree-close s i l h (pushed x g))

  pub signal-take : {b₁ b₂ : List ℕ} (k at : ℕ) → k ≡ length (get_or s.trees i no_tree).pending
      → 0 < length (get_or s.trees i no_tree).pending
      → length (get_or s.trees i no_tree).pending ≤ pending_count → at ≡ trees_place + tree_size * i
      → b₁ ≡ put b (at + 2) (part b (at + 2 + signal_size) (signal_size * (k - 1)) ++ replicate signal_size 0)
      → b₂ ≡ put b₁ (at + 1) ((k - 1) ∷ [])
      → b₂ ≡ encode (with_trees s (set s.trees i (rest (get_or s.trees i no_tree))))
  signal-take {b₁} {b₂} k at ek some few ea e₁ e₂ =
      let x = get_or s.trees i no_tree in
      let f = e ∙ tree-open s i l h in
      let p : part b (at + signals_place + signal_size) (signal_size * (k - 1)) ≡ part (tree_bytes x) (signals_place + signal_size)
      (signal_size * (k - 1)) = tree-part s i l h (tree_bytes x) (at + signals_place + signal_size) (signals_place + signal_size)
      (signal_size * (k - 1)) f (length-tree x) (omega arith) (omega arith) in
      let a : List ℕ = part (tree_bytes x) (signals_place + signal_size) (signal_size * (k - 1)) ++ replicate signal_size 0 in
      let la : length a ≡ signal_size * (k - 1) + signal_size =
      simp (
        length-append,
        length-replicate,
        length_part (tree_bytes x) (signals_place + signal_size) (signal_size * (k - 1))
            (omega (arith, length-tree x)),
      ) in
      let f₁ = tree-put s i l h (tree_bytes x) (at + 2) 2 a f (rw p at e₁) (length-tree x) (omega arith) (omega arith) in
      let f₂ = tree-put s i l h (put (tree_bytes x) 2 a) (at + 1) 1 ((k - 1) ∷ []) f₁ e₂ (length-put _ _ _ ∙ length-tree x) (omega arith)
      (omega arith) in
      f₂ ∙ rw (take-bytes x k some few ek) (tree-close s i l h (rest x))

  pub tree-move : {b₁ : List ℕ} (t at : ℕ) → at ≡ trees_place + tree_size * i → b₁ ≡ put b at (t ∷ [])
      → b₁ ≡ encode (with_trees s (set s.trees i (moved (get_or s.trees i no_tree) t)))
  tree-move t at ea e₁ =
      let x = get_or s.trees i no_tree in
      tree-put s i l h (tree_bytes x) at 0 (t ∷ []) (e ∙ tree-open s i l h) e₁ (length-tree x) (omega arith) (omega arith)
      ∙ rw (move-bytes x t) (tree-close s i l h (moved x t))

-- ---- what is read of tree i, along equations

module _ (s : Machine) (i : ℕ) {b : List ℕ} (e : b ≡ encode s) (l : length s.trees ≤ tree_count) (h : i < length s.trees) (at : ℕ)
    (ea : at ≡ trees_place + tree_size * i) where
  pub thread-byte-is : get_or b at 0 ≡ (get_or s.trees i no_tree).thread
  thread-byte-is =
      let d = tree-on s i at l h ea in
      let f : get_or (drop at b) 0 0 ≡ get_or b at 0 = get_or-drop at b 0 0 ∙ rw add-zero in
      sym f ∙ rw (e, d.1) (tree-thread-back _ d.0)

  pub pending-is : get_or b (at + 1) 0 ≡ length (get_or s.trees i no_tree).pending
  pending-is =
      let d = tree-on s i at l h ea in
      sym (get_or-drop at b 1 0) ∙ rw (e, d.1) (pending-back _ d.0)

  pub tree-bytes-are : part b at tree_size ≡ tree_bytes (get_or s.trees i no_tree)
  unfolding part
  tree-bytes-are =
      let x = get_or s.trees i no_tree in
      let d = tree-on s i at l h ea in
      rw (e, d.1) (take_at (tree_bytes x) d.0 tree_size (length-tree x))

  pub signal-on : Each SizedTree s.trees → (k : ℕ) → k < length (get_or s.trees i no_tree).pending
      → (r : List ℕ) × (drop (at + (2 + signal_size * k)) b ≡ signal_bytes (get_or (get_or s.trees i no_tree).pending k no_signal) ++ r)
  signal-on z k hk =
      let x = get_or s.trees i no_tree in
      let d = tree-on s i at l h ea in
      let g = signal-at x d.0 (signals_place + signal_size * k) k (each_at SizedTree s.trees i no_tree z h) hk refl in
      let f : drop at b ≡ tree_bytes x ++ d.0 = ap (drop at) e ∙ d.1 in
      (g.0, sym (drop-drop (signals_place + signal_size * k) at b) ∙ rw f g.1)

  pub signal-is : Each SizedTree s.trees → (k : ℕ) → k < length (get_or s.trees i no_tree).pending
      → signal_from (drop (at + (2 + signal_size * k)) b) ≡ get_or (get_or s.trees i no_tree).pending k no_signal
  signal-is z k hk =
      let x = get_or s.trees i no_tree in
      let g = signal-on z k hk in
      rw g.1 (signal-back (get_or x.pending k no_signal)
      (each_at SizedSignal x.pending k no_signal (each_at SizedTree s.trees i no_tree z h).each hk) g.0)
