-- The state: what is written is read back and passes the tests, and what passes the tests is written again as it was.
use Rattle.std.specs.Prelude.{◌≡◌, true, ◌&&◌, leb, get_or, replicate}
use Rattle.std.proofs.Math.Path.{refl, ap}
use Rattle.std.proofs.Common.{◌∙◌, arith, length-drop, drop-drop, take_all, leb-true, le-leb}
use mathlib.Core.List.{List, [], ◌∷◌, ◌++◌, append_assoc}
use Prim.Native.Nat.{ℕ, ◌+◌, ◌*◌, ◌-◌, ◌≤◌, ◌<◌}
use Rattle.std.proofs.Math.ListN.{length, drop}
use Rattle.std.proofs.Math.Seq.{drop_at}
use Rattle.rules.specs.Sizes.{thread_count, word_total, tree_count, thread_size, tree_size, words_size}
use Rattle.rules.specs.Sizes.{threads_place, tree_count_place, trees_place}
use Rattle.rules.specs.Sizes.{state_size}
use Rattle.rules.specs.Bytes.{num16, le16, part, is_zeros, blocks, pad, chunks, all_from}
use Rattle.rules.specs.Machine.{Machine, idle, thread_at}
use Rattle.rules.specs.Encoding.{no_tree, thread_bytes, thread_from, tree_bytes, tree_from, encode, words_from, machine_from}
use Rattle.rules.specs.WellFormed.{thread_tidy, tree_tidy, thread_at_tidy, tree_at_tidy, state_tidy}
use Rattle.bytes_fields.specs.Runs.{all-at, all-holds}
use Rattle.bytes_fields.specs.Each.{each_at}
use Rattle.bytes_fields.specs.Put.{part-drop}
use Rattle.bytes_fields.specs.Blocks.{blocks-append, chunks-blocks, pad-full, pad-split}
use Rattle.lemmas_encoding.specs.Sized.{SizedThread, SizedTree, Sized}
use Rattle.lemmas_encoding.specs.Lengths.{length-thread, length-tree, length-words}
use Rattle.lemmas_rules.specs.Logic.{and_both, both_hold}
use Rattle.bytes_fields.specs.Tests.{zeros-part}
use Rattle.lemmas_encoding.specs.Runs.{length-chunks, each-chunks, blocks-chunks, padded-forth, padded-tail, byte-forth, glue}
use Rattle.lemmas_encoding.specs.Numbers.{nums-back, AreBytes, bytes_drop, nums-forth}
use Rattle.lemmas_encoding.specs.Layout.{header, slots, encode-slots, length_before, count-back, thread-on, tree-on}
use Rattle.lemmas_encoding.specs.Threads.{thread-back, thread-forth, thread-sized, thread-tidy}
use Rattle.lemmas_encoding.specs.Trees.{no-tree, tree-back, tree-forth, tree-sized, tree-tidy}

module _ (s : Machine) (z : Sized s) where
  words_back : words_from (encode s) ≡ s.words
  unfolding words_from encode
  words_back = rw (pad-full 0 word_total s.words z.words) (nums-back word_total s.words _ z.words)

  threads-back : chunks thread_from thread_size thread_count (drop words_size (encode s)) ≡ s.threads
  unfolding encode
  threads-back =
      let after : List ℕ = length s.trees ∷ blocks tree_bytes (pad no_tree tree_count s.trees) in
      rw (
        drop_at (blocks le16 (pad 0 word_total s.words)) (blocks thread_bytes (pad idle thread_count s.threads) ++ after) words_size
            (length-words s),
        pad-full idle thread_count s.threads z.threads,
        ← z.threads,
      )
      (chunks-blocks thread_bytes thread_from thread_size length-thread SizedThread thread-back s.threads after z.each_thread)

  trees-back : chunks tree_from tree_size (get_or (encode s) tree_count_place 0) (drop trees_place (encode s)) ≡ s.trees
  unfolding slots
  trees-back =
      let n = length s.trees in
      let d : drop trees_place (encode s) ≡ blocks tree_bytes (pad no_tree tree_count s.trees) ++ [] =
      ap (drop trees_place) (encode-slots s) ∙ drop_at (header s ++ (n ∷ [])) _ trees_place (length_before s) in
      rw (count-back, d, pad-split no_tree tree_count s.trees z.trees, blocks-append, append_assoc)
      (chunks-blocks tree_bytes tree_from tree_size length-tree SizedTree tree-back s.trees _ z.each_tree)

  pub machine-back : machine_from (encode s) ≡ s
  unfolding machine_from
  machine-back = λ i. record { words = words_back i; threads = threads-back i; trees = trees-back i }

-- ---- bytes that pass the tests

pub record StateRead (state : List ℕ) : Type 0 where
  pub threads : (t : ℕ) → t < thread_count → thread_tidy (drop (thread_size * t) (drop words_size state)) ≡ true
  pub few : get_or state tree_count_place 0 ≤ tree_count
  pub each : (i : ℕ) → i < get_or state tree_count_place 0 → tree_tidy (drop (tree_size * i) (drop trees_place state)) ≡ true
  pub zeros : part (drop trees_place state) (tree_size * get_or state tree_count_place 0)
      (tree_size * (tree_count - get_or state tree_count_place 0))
      ≡ replicate (tree_size * (tree_count - get_or state tree_count_place 0)) 0

pub state-read : (state : List ℕ) → length state ≡ state_size → state_tidy state ≡ true → StateRead state
unfolding state_tidy thread_at_tidy tree_at_tidy
state-read state l e =
    let n = get_or state tree_count_place 0 in
    let threads = all_from (thread_at_tidy state) 0 thread_count in
    let count = leb n tree_count in
    let trees = all_from (tree_at_tidy state) 0 n in
    let t = and_both (threads && count && trees) (is_zeros (part state (trees_place + tree_size * n) (tree_size * (tree_count - n)))) e in
    let u = and_both (threads && count) trees t.0 in
    let v = and_both threads count u.0 in
    let h : n ≤ tree_count = leb-true n tree_count v.1 in
    record {
      threads = λ i li. rw drop-drop (all-at (thread_at_tidy state) 0 thread_count i v.0 (omega arith) (omega arith));
      few = h;
      each = λ i li. rw drop-drop (all-at (tree_at_tidy state) 0 n i u.1 (omega arith) (omega arith));
      zeros = rw part-drop (zeros-part state (trees_place + tree_size * n) (tree_size * (tree_count - n)) (omega arith) t.1);
    }

pub machine-forth : (state : List ℕ) → AreBytes state → length state ≡ state_size → state_tidy state ≡ true
    → encode (machine_from state) ≡ state
unfolding encode machine_from words_from part
machine-forth s h l e =
    let o = state-read s l e in
    let n = get_or s tree_count_place 0 in
    let w : blocks le16 (pad 0 word_total (chunks num16 2 word_total s)) ≡ part s 0 words_size =
    ap (blocks le16) (pad-full 0 word_total _ (length-chunks num16 2 word_total s))
    ∙ nums-forth s 0 word_total words_size h (omega arith) refl in
    let t : blocks thread_bytes (pad idle thread_count (chunks thread_from thread_size thread_count (drop threads_place s)))
    ≡ part s threads_place (thread_size * thread_count) =
    ap (blocks thread_bytes) (pad-full idle thread_count _ (length-chunks thread_from thread_size thread_count (drop threads_place s)))
    ∙ blocks-chunks thread_bytes thread_from thread_size thread_count (drop threads_place s)
    (λ j lj. thread-forth (drop (thread_size * j) (drop threads_place s))
    (bytes_drop (drop threads_place s) (thread_size * j) (bytes_drop s threads_place h)) (simp length-drop (omega arith)) (o.threads j lj))
    in
    let c : length (chunks tree_from tree_size n (drop trees_place s)) ∷ [] ≡ part s tree_count_place 1 =
    ap (λ q. q ∷ []) (length-chunks tree_from tree_size n (drop trees_place s)) ∙ byte-forth s tree_count_place (omega arith) in
    let r : blocks tree_bytes (pad no_tree tree_count (chunks tree_from tree_size n (drop trees_place s)))
    ≡ part s trees_place (tree_size * tree_count) =
    padded-forth tree_bytes tree_from no_tree tree_size tree_count n (drop trees_place s) no-tree o.few
    (λ j lj. tree-forth (drop (tree_size * j) (drop trees_place s))
    (bytes_drop (drop trees_place s) (tree_size * j) (bytes_drop s trees_place h)) (simp length-drop (omega (arith, o.few)))
    (o.each j lj)) o.zeros in
    glue s 0 words_size (state_size - threads_place) _ _ w
    (glue s threads_place (thread_size * thread_count) (state_size - tree_count_place) _ _
    t (glue s tree_count_place 1 (state_size - trees_place) _ _ c r)) ∙ take_all state_size s (omega arith)

pub machine-sized : (state : List ℕ) → length state ≡ state_size → state_tidy state ≡ true → Sized (machine_from state)
unfolding machine_from words_from
machine-sized s l e =
    let o = state-read s l e in
    let n = get_or s tree_count_place 0 in
    record {
      words = length-chunks num16 2 word_total s;
      threads = length-chunks thread_from thread_size thread_count (drop threads_place s);
      trees = rw (length-chunks tree_from tree_size n (drop trees_place s)) o.few;
      each_thread = each-chunks SizedThread thread_from thread_size thread_count (drop threads_place s)
          (λ j lj. thread-sized (drop (thread_size * j) (drop threads_place s)) (simp length-drop (omega arith)) (o.threads j lj));
      each_tree = each-chunks SizedTree tree_from tree_size n (drop trees_place s)
          (λ j lj. tree-sized (drop (tree_size * j) (drop trees_place s)) (simp length-drop (omega (arith, o.few))) (o.each j lj));
    }

-- ---- bytes that are written pass the tests

module _ (s : Machine) (z : Sized s) where
  thread-at-tidy : (t : ℕ) → t < thread_count → thread_at_tidy (encode s) t ≡ true
  unfolding thread_at_tidy
  thread-at-tidy t h =
      let d = thread-on s t (threads_place + thread_size * t) z.threads h refl in
      rw d.1 (thread-tidy (thread_at s t) (each_at SizedThread s.threads t idle z.each_thread (omega (arith, z.threads))) d.0)

  tree-at-tidy : (i : ℕ) → i < length s.trees → tree_at_tidy (encode s) i ≡ true
  unfolding tree_at_tidy
  tree-at-tidy i h =
      let d = tree-on s i (trees_place + tree_size * i) z.trees h refl in
      rw d.1 (tree-tidy (get_or s.trees i no_tree) (each_at SizedTree s.trees i no_tree z.each_tree h) d.0)

  tail-zeros : is_zeros (part (encode s) (trees_place + tree_size * length s.trees) (tree_size * (tree_count - length s.trees))) ≡ true
  unfolding slots
  tail-zeros =
      let n = length s.trees in
      rw encode-slots (padded-tail tree_bytes tree_size length-tree no_tree tree_count s.trees (header s ++ (n ∷ [])) []
      (trees_place + tree_size * n) (tree_size * (tree_count - n)) no-tree z.trees (omega (arith, length_before s)) refl)

  pub machine-tidy : state_tidy (encode s) ≡ true
  unfolding state_tidy
  machine-tidy =
      let n = length s.trees in
      let threads = all-holds (thread_at_tidy (encode s)) 0 thread_count (λ t l h. thread-at-tidy t (omega arith)) in
      let trees = all-holds (tree_at_tidy (encode s)) 0 n (λ i l h. tree-at-tidy i (omega arith)) in
      rw count-back (both_hold _ _ (both_hold _ _ (both_hold _ _ threads (le-leb n tree_count z.trees)) trees) tail-zeros)
