-- The sizes of docs/MACHINE.md: every encoding has its length, whatever the value.
use Rattle.std.specs.Prelude.{◌≡◌, refl, List, ℕ, ◌+◌, ◌*◌, length}
use Rattle.std.proofs.Common.{arith, length-append}
use Rattle.rules.specs.Sizes.{thread_count, word_total, held_count_place, thread_size, signal_size, tree_size, words_size, state_size}
use Rattle.rules.specs.Sizes.{event_size, answer_size}
use Rattle.rules.specs.Bytes.{le16, blocks, pad}
use Rattle.rules.specs.Machine.{Signal, Tree, ThreadState, idle, running, Machine}
use Rattle.rules.specs.Encoding.{thread_raw, thread_bytes, signal_bytes, signals_bytes, tree_bytes, encode}
use Rattle.rules.specs.Events.{Event, arrive, turn, event_bytes}
use Rattle.rules.specs.Answers.{answer_bytes}
use Rattle.rules.specs.declared.answer.Answer.{Answer}
use Rattle.bytes_fields.specs.Blocks.{length-blocks, length-pad}

pub length-raw : (label locks count : ℕ) (returns : List ℕ) (present : ℕ) (values : List ℕ)
    → length (thread_raw label locks count returns present values) ≡ held_count_place
unfolding thread_raw
length-raw label locks count returns present values = simp (length-append, length-blocks le16 2 (λ x. refl), length-pad)

pub length-signal : (g : Signal) → length (signal_bytes g) ≡ signal_size
unfolding signal_bytes
length-signal g = simp (length-blocks le16 2 (λ x. refl), length-pad)

pub length-signals : (n : ℕ) (gs : List Signal) → length (signals_bytes n gs) ≡ 1 + signal_size * n
length-signals n gs = simp (length-blocks signal_bytes signal_size length-signal, length-pad) (omega arith)

pub length-thread : (w : ThreadState) → length (thread_bytes w) ≡ thread_size
unfolding thread_bytes
length-thread idle = simp (length-append, length-raw, length-signals)
length-thread (running locks j) = simp (length-append, length-raw, length-signals)

pub length-tree : (x : Tree) → length (tree_bytes x) ≡ tree_size
unfolding tree_bytes
length-tree x = simp (length-blocks signal_bytes signal_size length-signal, length-pad)

pub length-words : (s : Machine) → length (blocks le16 (pad 0 word_total s.words)) ≡ words_size
length-words s = simp (length-blocks le16 2 (λ x. refl), length-pad)

pub length-threads : (s : Machine) → length (blocks thread_bytes (pad idle thread_count s.threads)) ≡ thread_size * thread_count
length-threads s = simp (length-blocks thread_bytes thread_size length-thread, length-pad)

pub length-encode : (s : Machine) → length (encode s) ≡ state_size
unfolding encode
length-encode s =
    simp (
      length-append,
      length-blocks le16 2 (λ x. refl),
      length-blocks thread_bytes thread_size length-thread,
      length-blocks tree_bytes tree_size length-tree,
      length-pad,
    )

pub length-event : (e : Event) → length (event_bytes e) ≡ event_size
unfolding event_bytes
length-event (arrive g) = rw length-signal
length-event (turn k t) = rw length-signal

pub length-answer : (a : Answer) → length (answer_bytes a) ≡ answer_size
unfolding answer_bytes
length-answer a = refl
