-- Words and threads stored into a machine's bytes, and read from them.
use Rattle.std.specs.Prelude.{◌≡◌, refl, ℕ, ◌+◌, ◌*◌, ◌<◌, set}
use Rattle.std.proofs.Math.Path.{sym}
use Rattle.std.proofs.Common.{◌∙◌, arith}
use mathlib.Core.List.{List, []}
use Rattle.std.proofs.Math.ListN.{length, length-set}
use Rattle.rules.specs.Sizes.{thread_count, block_count, word_count, word_total, threads_place, thread_size}
use Rattle.rules.specs.Bytes.{le16, blocks, pad}
use Rattle.rules.specs.Machine.{ThreadState, idle, Machine, thread_at, with_thread}
use Rattle.rules.specs.Encoding.{thread_bytes, encode}
use Rattle.bytes_fields.specs.Each.{each_at, each_set}
use Rattle.bytes_fields.specs.Put.{put, put_whole}
use Rattle.bytes_fields.specs.Blocks.{pad-full, block-put}
use Rattle.lemmas_encoding.specs.Sized.{SizedThread, Sized}
use Rattle.lemmas_encoding.specs.Lengths.{length-thread, length-words}

abbrev pub with_word : Machine → ℕ → ℕ → Machine
with_word s n v = record { words = set s.words n v; threads = s.threads; trees = s.trees }

-- ---- the machines stay within limits

pub sized-word : (s : Machine) (n v : ℕ) → Sized s → Sized (with_word s n v)
sized-word s n v z = record {
  words = length-set s.words n v ∙ z.words;
  threads = z.threads;
  trees = z.trees;
  each_thread =
      z.each_thread;
  each_tree = z.each_tree;
}

pub sized-thread : (s : Machine) (t : ℕ) (w : ThreadState) → SizedThread w → Sized s → Sized (with_thread s t w)
sized-thread s t w h z =
    record {
      words = z.words;
      threads = length-set s.threads t w ∙ z.threads;
      trees = z.trees;
      each_thread = each_set SizedThread s.threads t w z.each_thread h;
      each_tree = z.each_tree;
    }

pub thread-at-sized : (s : Machine) (t : ℕ) → Sized s → t < thread_count → SizedThread (thread_at s t)
thread-at-sized s t z h = each_at SizedThread s.threads t idle z.each_thread (omega (arith, z.threads))

-- ---- stores and reads

module _ (s : Machine) where
  pub word-put : (n v : ℕ) → length s.words ≡ block_count * word_count → n < block_count * word_count
      → put (encode s) (2 * n) (le16 v) ≡ encode (with_word s n v)
  unfolding encode
  word-put n v l h =
      let l' : length (set s.words n v) ≡ word_total = length-set s.words n v ∙ l in
      rw (pad-full 0 word_total s.words l, pad-full 0 word_total (set s.words n v) l')
      (block-put le16 2 (λ x. refl) 0 [] _ s.words (2 * n) n 0 (le16 v) v (omega arith) (omega arith) (omega arith)
      (put_whole _ _ refl))

  pub thread-put : (t : ℕ) (w : ThreadState) → length s.threads ≡ thread_count → t < thread_count
      → put (encode s) (threads_place + thread_size * t) (thread_bytes w) ≡ encode (with_thread s t w)
  unfolding encode
  thread-put t w l h =
      let l' : length (set s.threads t w) ≡ thread_count = length-set s.threads t w ∙ l in
      rw (pad-full idle thread_count s.threads l, pad-full idle thread_count (set s.threads t w) l')
      (block-put thread_bytes thread_size length-thread idle (blocks le16 (pad 0 word_total s.words)) _ s.threads
      (threads_place + thread_size * t) t 0 (thread_bytes w) w (omega (arith, length-words s)) (omega arith)
      (omega (arith, length-thread w))
      (put_whole _ _ (length-thread _ ∙ sym (length-thread w))))

-- the same along equations: what a run of calls leaves and answers
module _ (s : Machine) (z : Sized s) {b : List ℕ} (e : b ≡ encode s) where
  pub word-then : (n v : ℕ) {b' : List ℕ} → n < block_count * word_count → b' ≡ put b (2 * n) (le16 v) → b' ≡ encode (with_word s n v)
  word-then n v h k = k ∙ rw e (word-put s n v z.words h)

  pub thread-then : (t : ℕ) (w : ThreadState) {b' : List ℕ} → t < thread_count
      → b' ≡ put b (threads_place + thread_size * t) (thread_bytes w)
      → b' ≡ encode (with_thread s t w)
  thread-then t w h k = k ∙ rw e (thread-put s t w z.threads h)
