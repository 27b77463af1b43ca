-- What a thread record, read from the bytes of a machine and stored into them, comes to.
use Rattle.std.specs.Prelude.{◌≡◌, refl, List, ℕ, ◌<◌, drop}
use Rattle.rules.specs.Sizes.{thread_count}
use Rattle.rules.specs.Machine.{Job, Machine, thread_at, with_thread, running}
use Rattle.rules.specs.Encoding.{machine_from}
use Rattle.bytes_fields.specs.Put.{put}
use Rattle.lemmas_encoding.specs.Encoded.{Encodes, encodes}
use Rattle.lemmas_encoding.specs.Layout.{thread-on}
use Rattle.lemmas_encoding.specs.Stores.{sized-thread, thread-at-sized, thread-then}
use Rattle.state_thread.specs.Threads.{state_of, Tidy, Says}
use Rattle.state_thread.specs.Records.{thread_place, raw_thread, raw_bytes, bytes-are, bytes_of, tidy-sized}
use Rattle.state_thread.specs.declared.thread.ThreadState.{ThreadState}

-- thread t runs a job
abbrev pub Busy : List ℕ → ℕ → Type 0
Busy b t = (l : ℕ) × (j : Job) × (thread_at (machine_from b) t ≡ running l j)

module _ (b : List ℕ) (s : Machine) (h : Encodes b s) where
  -- thread t read, and written
  pub thread-read : (t : ℕ) → t < thread_count → Says (raw_thread (drop (thread_place t) b)) (thread_at s t)
  thread-read t l =
      let d = thread-on s t (thread_place t) h.sized.threads l refl in
      rw (h.same, d.1) (bytes_of (thread_at s t) (thread-at-sized s t h.sized l) d.0)

  pub thread-written : (t : ℕ) (w : ThreadState) {b' : List ℕ} → t < thread_count → Tidy w → b' ≡ put b (thread_place t) (raw_bytes w)
      → Encodes b' (with_thread s t (state_of w))
  thread-written t w l z e =
      encodes _ _ (thread-then s h.sized h.same t (state_of w) l (rw (bytes-are w z) e))
      (sized-thread s t (state_of w) (tidy-sized w z) h.sized)
