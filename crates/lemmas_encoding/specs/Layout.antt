-- The parts of a machine's bytes: words and thread records, then the tree count, then 16 places for trees.
use Rattle.std.specs.Prelude.{◌≡◌, List, [], ◌∷◌, ◌++◌, ℕ, suc, ◌+◌, ◌*◌, ◌≤◌, ◌<◌, length, get_or, drop}
use Rattle.std.proofs.Common.{sym, ap, ◌∙◌, append_assoc, append-nil, arith, length-append}
use Rattle.rules.specs.Sizes.{thread_count, word_total, tree_count, thread_size, tree_size, words_size, tree_count_place, trees_place}
use Rattle.rules.specs.Bytes.{le16, blocks, pad}
use Rattle.rules.specs.Machine.{Machine, idle, thread_at}
use Rattle.rules.specs.Encoding.{no_tree, thread_bytes, tree_bytes, encode}
use Rattle.bytes_fields.specs.Put.{get_d_after}
use Rattle.bytes_fields.specs.Blocks.{length-pad, pad-full, block-drop}
use Rattle.bytes_fields.specs.Filled.{pad-at}
use Rattle.lemmas_encoding.specs.Lengths.{length-thread, length-tree, length-words, length-threads}

-- the bytes before the tree count
unfoldable pub header : Machine → List ℕ
header s = blocks le16 (pad 0 word_total s.words) ++ blocks thread_bytes (pad idle thread_count s.threads)

pub length-header : (s : Machine) → length (header s) ≡ tree_count_place
unfolding header
length-header s = simp length-append (omega (arith, length-words s, length-threads s))

-- the bytes after the tree count
unfoldable pub slots : Machine → List ℕ
slots s = blocks tree_bytes (pad no_tree tree_count s.trees)

pub encode-header : (s : Machine) → encode s ≡ header s ++ (length s.trees ∷ slots s)
unfolding encode header slots
encode-header s =
    sym (append_assoc (blocks le16 (pad 0 word_total s.words)) (blocks thread_bytes (pad idle thread_count s.threads))
    (length s.trees ∷ blocks tree_bytes (pad no_tree tree_count s.trees)))

-- the same with all before the trees in one part
pub encode-slots : (s : Machine) → encode s ≡ (header s ++ (length s.trees ∷ [])) ++ (slots s ++ [])
encode-slots s = encode-header s ∙ rw append-nil (sym (append_assoc (header s) (length s.trees ∷ []) (slots s)))

pub length_before : (s : Machine) → length (header s ++ (length s.trees ∷ [])) ≡ trees_place
length_before s = simp length-append (omega (arith, length-header s))

-- the tree count
pub count-back : (s : Machine) → get_or (encode s) tree_count_place 0 ≡ length s.trees
count-back s = rw encode-header (get_d_after (header s) (length s.trees ∷ slots s) tree_count_place 0 0 (omega (arith, length-header s)))

-- what follows from thread t's record on, and from tree i's
pub thread-on : (s : Machine) (t at : ℕ) → length s.threads ≡ thread_count → t < thread_count → at ≡ words_size + thread_size * t
    → (r : List ℕ) × (drop at (encode s) ≡ thread_bytes (thread_at s t) ++ r)
unfolding encode
thread-on s t at n h e =
    let words : List ℕ = blocks le16 (pad 0 word_total s.words) in
    let after : List ℕ = length s.trees ∷ blocks tree_bytes (pad no_tree tree_count s.trees) in (
      blocks thread_bytes (drop (suc t) s.threads) ++ after,
      rw (pad-full idle thread_count s.threads n) (block-drop thread_bytes thread_size length-thread idle words after s.threads at t
          (omega (arith, length-words s)) (omega arith)),
    )

pub tree-on : (s : Machine) (i at : ℕ) → length s.trees ≤ tree_count → i < length s.trees → at ≡ trees_place + tree_size * i
    → (r : List ℕ) × (drop at (encode s) ≡ tree_bytes (get_or s.trees i no_tree) ++ r)
unfolding slots
tree-on s i at n h e =
    let xs = pad no_tree tree_count s.trees in
    let before : List ℕ = header s ++ (length s.trees ∷ []) in
    let d : drop at (before ++ (blocks tree_bytes xs ++ []))
    ≡ tree_bytes (get_or xs i no_tree) ++ (blocks tree_bytes (drop (suc i) xs) ++ []) =
    block-drop tree_bytes tree_size length-tree no_tree before [] xs at i (omega (arith, length_before s))
    (omega (arith, length-pad no_tree tree_count s.trees)) in
    (blocks tree_bytes (drop (suc i) xs) ++ [], ap (drop at) (encode-slots s) ∙ rw (pad-at no_tree tree_count s.trees i n) at d)
