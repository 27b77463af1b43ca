-- The bytes of a fresh machine, part by part.
use Rattle.std.specs.Prelude.{◌≡◌, ℕ, ◌+◌, ◌*◌, ◌-◌, ◌<◌}
use Rattle.std.proofs.Math.Path.{refl, sym, ap}
use Rattle.std.proofs.Common.{◌∙◌}
use mathlib.Core.List.{List, [], ◌∷◌, ◌++◌, append_assoc, append-nil}
use Rattle.std.proofs.Math.Nat.{sub-zero}
use native.Mathlib.Omega.{arith}
use Rattle.std.proofs.Math.ListN.{length, replicate, length-append, length-replicate, replicate-append-replicate}
use Rattle.std.proofs.Math.Seq.{take_all}
use Rattle.rules.specs.Sizes.{word_total, thread_count, tree_count, words_size, thread_size, tree_size, state_size, idle_label}
use Rattle.rules.specs.Bytes.{num16, le16, part, blocks, pad}
use Rattle.rules.specs.Machine as law
use Rattle.rules.specs.Machine.{idle, fresh}
use Rattle.rules.specs.Encoding.{thread_raw, thread_bytes, signal_bytes, tree_bytes, no_tree, encode, words_from}
use Rattle.bytes_fields.specs.Put.{put, put_then, put_whole, put-inside}
use Rattle.bytes_fields.specs.Blocks.{pad-full, blocks-append, blocks-one, length-blocks}
use Rattle.lemmas_encoding.specs.Lengths.{length-thread}
use Rattle.lemmas_encoding.specs.Numbers.{AreBytes, nums-forth}
use Rattle.lemmas_encoding.specs.Runs.{length-chunks, padded-zeros}
use Rattle.lemmas_encoding.specs.Trees.{no-tree}

-- k idle threads
abbrev pub idle_threads : ℕ → List ℕ
idle_threads k = blocks thread_bytes (replicate k idle)

more-threads : (k : ℕ) → idle_threads (k + 1) ≡ idle_threads k ++ thread_bytes idle
more-threads k =
    ap (blocks thread_bytes) (sym (replicate-append-replicate {A = law.ThreadState} k 1 idle))
    ∙ blocks-append thread_bytes (replicate k idle) (idle ∷ [])
    ∙ ap (λ (z : List ℕ). idle_threads k ++ z) (blocks-one thread_bytes idle)

length-threads : (k : ℕ) → length (idle_threads k) ≡ thread_size * k
length-threads k = length-blocks thread_bytes thread_size length-thread (replicate k idle)
    ∙ ap (λ n. thread_size * n) (length-replicate {A = law.ThreadState} k idle)

-- the label makes an idle thread of zeros
idle-record : put (replicate thread_size 0) 0 (le16 idle_label) ≡ thread_bytes idle
unfolding put thread_bytes thread_raw signal_bytes blocks pad
idle-record = refl

-- the words, k idle threads, and zeros, n bytes after the words in all
abbrev pub Begun : List ℕ → ℕ → ℕ → List ℕ → Type 0
Begun words n k b = b ≡ words ++ idle_threads k ++ replicate (n - thread_size * k) 0

module _ (words : List ℕ) (l : length words ≡ words_size) (n : ℕ) (en : n ≡ state_size - words_size) where
  pub begun-none : (s : List ℕ) {b b' : List ℕ} → length s ≡ state_size → b ≡ put s 0 (part words 0 words_size)
      → b' ≡ put b words_size (replicate n 0) → Begun words n 0 b'
  unfolding part blocks
  begun-none s {b} m e e' =
      let g : b ≡ put s 0 words = rw (take_all words_size words (omega arith)) at e in
      let k : length (words ++ replicate n 0) ≡ state_size =
      omega (arith, length-append words (replicate n 0), length-replicate {A = ℕ} n 0) in
      put_then s 0 words words_size (replicate n 0) g e' (omega arith) ∙ put_whole s (words ++ replicate n 0) (m ∙ sym k)
      ∙ rw (append-nil words, sub-zero n)

  pub begun_more : {b b' : List ℕ} (k : ℕ) → k < thread_count → Begun words n k b
      → b' ≡ put b (words_size + thread_size * k) (le16 idle_label) → Begun words n (k + 1) b'
  begun_more k h e e' =
      let p : List ℕ = words ++ idle_threads k in
      let o : List ℕ = replicate thread_size 0 in
      let q : List ℕ = replicate (n - thread_size * (k + 1)) 0 in
      let f : n - thread_size * k ≡ thread_size + (n - thread_size * (k + 1)) = omega arith in
      let cut : p ++ replicate (n - thread_size * k) 0 ≡ p ++ o ++ q =
      rw (f, ← replicate-append-replicate {A = ℕ} thread_size (n - thread_size * (k + 1)) 0) (sym (append_assoc p o q)) in
      let at : words_size + thread_size * k ≡ length p + 0 = simp (length-append, length-threads k) (omega arith) in
      let stored = put-inside p o q (words_size + thread_size * k) 0 (le16 idle_label) at (omega arith) in
      e' ∙ rw (e, cut, stored, idle-record, more-threads k)
      (ap (λ (z : List ℕ). z ++ q) (append_assoc words (idle_threads k) (thread_bytes idle)))

  module _ (bytes : AreBytes words) where
    words_are : blocks le16 (pad 0 word_total (words_from words)) ≡ words
    unfolding words_from part
    words_are = ap (blocks le16) (pad-full 0 word_total _ (length-chunks num16 2 word_total words))
        ∙ nums-forth words 0 word_total words_size bytes (omega arith) refl ∙ take_all words_size words (omega arith)

    no-trees : 0 ∷ blocks tree_bytes (pad no_tree tree_count []) ≡ replicate (n - thread_size * thread_count) 0
    unfolding blocks
    no-trees =
        let e : 1 + tree_size * tree_count ≡ n - thread_size * thread_count = omega arith in
        ap (λ (z : List ℕ). 0 ∷ z) (padded-zeros tree_bytes no_tree tree_size tree_count [] no-tree (omega arith))
        ∙ replicate-append-replicate {A = ℕ} 1 (tree_size * tree_count) 0
        ∙ ap (λ k. replicate k 0) e

    pub begun_all : {b : List ℕ} → Begun words n thread_count b → b ≡ encode (fresh (words_from words))
    unfolding encode fresh
    begun_all e =
        let t : blocks thread_bytes (pad idle thread_count (replicate thread_count idle)) ≡ idle_threads thread_count =
        ap (blocks thread_bytes) (pad-full idle thread_count (replicate thread_count idle) refl) in
        e ∙ rw (words_are, t, no-trees) (append_assoc words (idle_threads thread_count) (replicate (n - thread_size * thread_count) 0))
