-- "Well formed": which state bytes a call accepts. The sentences of docs/MACHINE.md in their order.
use Rattle.std.specs.Prelude.{Bool, true, false, cond, ◌&&◌, ◌||◌, List, [], ◌∷◌, ℕ, suc, ◌+◌, ◌*◌, ◌-◌, ◌^◌, get_or, drop, eqb, leb, ltb}
use Rattle.std.specs.Int.Bits.{bit_and}
use Rattle.rules.specs.Sizes.{thread_count, register_count, return_count, held_count, tree_count, pending_count, idle_label, locks_place}
use Rattle.rules.specs.Sizes.{return_count_place, returns_place, presence_place, registers_place, held_count_place, thread_size}
use Rattle.rules.specs.Sizes.{value_count_place, values_place, signal_size, pending_count_place, tree_size, threads_place, tree_count_place}
use Rattle.rules.specs.Sizes.{trees_place}
use Rattle.rules.specs.Codes.{buffered_code, external_code, cmx_code}
use Rattle.rules.specs.Bytes.{num16, num32, part, is_zeros, has, all_from, every}
use Rattle.rules.specs.Image.{labels, record_at, entry, Row, row_at}
use Rattle.rules.specs.Machine.{Signal, Tree, ThreadState, idle, running, Machine, locks_of, queue}
use Rattle.rules.specs.Encoding.{machine_from}
use Rattle.rules.specs.Steps.{block_at}

-- ---- the bytes: counts within limits, unused bytes zero

-- absent register values are zero
unfoldable pub absent_zero : List ℕ → ℕ → Bool
absent_zero b r = has r (num32 (drop presence_place b)) || eqb (num16 (drop (registers_place + 2 * r) b)) 0

-- a signal: at most 25 values, zeros in the place of others
unfoldable pub signal_tidy : List ℕ → Bool
signal_tidy b =
    leb (get_or b value_count_place 0) register_count
    && is_zeros (part b (values_place + 2 * get_or b value_count_place 0) (2 * (register_count - get_or b value_count_place 0)))

-- signal i of those whose count stands at a place
unfoldable pub signal_at_tidy : ℕ → List ℕ → ℕ → Bool
signal_at_tidy place b i = signal_tidy (drop (suc place + signal_size * i) b)

-- at most n signals from the place of their count on, zeros in the place of others
unfoldable pub signals_tidy : ℕ → ℕ → List ℕ → Bool
signals_tidy n place b =
    leb (get_or b place 0) n
    && all_from (signal_at_tidy place b) 0 (get_or b place 0)
    && is_zeros (part b (suc place + signal_size * get_or b place 0) (signal_size * (n - get_or b place 0)))

-- a thread record: an idle thread's other fields are all zero; otherwise at most 8 return labels, zeros in the place of others, presence
-- bits 0 to 24 only, and at most 4 held signals
unfoldable pub running_tidy : List ℕ → Bool
running_tidy b =
    leb (get_or b return_count_place 0) return_count
    && is_zeros (part b (returns_place + 2 * get_or b return_count_place 0) (2 * (return_count - get_or b return_count_place 0)))
    && ltb (num32 (drop presence_place b)) (2 ^ register_count)
    && all_from (absent_zero b) 0 register_count

unfoldable pub thread_tidy : List ℕ → Bool
thread_tidy b =
    cond (eqb (num16 b) idle_label) (is_zeros (part b locks_place (thread_size - locks_place)))
    (running_tidy b && signals_tidy held_count held_count_place b)

-- a tree record: at most 8 pending signals, zeros in the place of others
unfoldable pub tree_tidy : List ℕ → Bool
tree_tidy b = signals_tidy pending_count pending_count_place b

unfoldable pub thread_at_tidy : List ℕ → ℕ → Bool
thread_at_tidy state t = thread_tidy (drop (threads_place + thread_size * t) state)

unfoldable pub tree_at_tidy : List ℕ → ℕ → Bool
tree_at_tidy state i = tree_tidy (drop (trees_place + tree_size * i) state)

-- the whole: at most 16 trees, zeros in the place of others
unfoldable pub state_tidy : List ℕ → Bool
state_tidy state =
    all_from (thread_at_tidy state) 0 thread_count
    && leb (get_or state tree_count_place 0) tree_count
    && all_from (tree_at_tidy state) 0 (get_or state tree_count_place 0)
    && is_zeros (part state (trees_place + tree_size * get_or state tree_count_place 0)
    (tree_size * (tree_count - get_or state tree_count_place 0)))

-- ---- the machine

-- a block is CMX or the thread's own
abbrev pub open_to : Row → ℕ → Bool
open_to r t = eqb r.kind cmx_code || eqb r.thread t

-- no lock in two sets
unfoldable pub apart : List ThreadState → Bool
apart [] = true
apart (w ∷ ws) = every (λ (v : ThreadState). eqb (bit_and (locks_of w) (locks_of v)) 0) ws && apart ws

module _ (image table : List ℕ) where
  -- a label of thread t's job, t holding these locks: it is below n, the lock of its block is held, and the block is CMX or t's own
  unfoldable pub place_ok : ℕ → ℕ → ℕ → Bool
  place_ok t locks l =
      let r = row_at table (block_at image l) in
      ltb l (labels image) && has r.lock locks && open_to r t

  -- a held signal's label is below n and has entry 2
  unfoldable pub held_ok : Signal → Bool
  held_ok g = eqb (entry (record_at image g.label)) buffered_code

  unfoldable pub thread_ok : ℕ → ThreadState → Bool
  thread_ok t idle = true
  thread_ok t (running locks j) = every (place_ok t locks) (j.label ∷ j.returns) && every held_ok j.held

  -- threads t, t + 1, ..
  unfoldable pub threads_ok : ℕ → List ThreadState → Bool
  threads_ok t [] = true
  threads_ok t (w ∷ ws) = thread_ok t w && threads_ok (t + 1) ws

  -- a pending signal's label is below n and has entry 2 or 3
  unfoldable pub pending_ok : Signal → Bool
  pending_ok g =
      let e = entry (record_at image g.label) in
      eqb e buffered_code || eqb e external_code

  -- a thread number within limits, and pending signals as above
  unfoldable pub tree_ok : Tree → Bool
  tree_ok x = ltb x.thread thread_count && every pending_ok x.pending

  -- a tree that is not a running thread's first has a signal pending, and belongs to the thread of the first one's block
  abbrev pub homed_as : ℕ → List Signal → Bool
  homed_as t [] = false
  homed_as t (g ∷ p) = eqb t (row_at table (block_at image g.label)).thread

  unfoldable pub homed : Tree → Bool
  homed x = homed_as x.thread x.pending

  -- a running thread has a tree; only this first tree may have none pending
  abbrev pub queue_ok : ThreadState → List Tree → Bool
  queue_ok idle l = every homed l
  queue_ok (running locks j) [] = false
  queue_ok (running locks j) (x ∷ l) = every homed l

  unfoldable pub queues_ok : ℕ → List ThreadState → List Tree → Bool
  queues_ok t [] l = true
  queues_ok t (w ∷ ws) l = queue_ok w (queue t l) && queues_ok (t + 1) ws l

  unfoldable pub machine_ok : Machine → Bool
  machine_ok s = threads_ok 0 s.threads && apart s.threads && every tree_ok s.trees && queues_ok 0 s.threads s.trees

  unfoldable pub well_formed : List ℕ → Bool
  well_formed state = state_tidy state && machine_ok (machine_from state)
