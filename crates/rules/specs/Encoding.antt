-- "The state: 9,633 bytes": the bytes of a machine, and the machine that bytes say. Unused bytes are zero by construction.
use Rattle.std.specs.Prelude.{cond, List, [], ◌∷◌, ◌++◌, map, ℕ, zero, suc, ◌+◌, ◌*◌, length, get_or, drop, eqb}
use Rattle.std.proofs.Math.Option.{Option, none, some}
use Rattle.rules.specs.Sizes.{thread_count, word_total, register_count, return_count, held_count, tree_count, pending_count, idle_label}
use Rattle.rules.specs.Sizes.{locks_place, return_count_place, returns_place, presence_place}
use Rattle.rules.specs.Sizes.{registers_place, held_count_place, thread_size}
use Rattle.rules.specs.Sizes.{value_count_place, values_place, signal_size, pending_count_place, tree_size, threads_place, tree_count_place}
use Rattle.rules.specs.Sizes.{trees_place}
use Rattle.rules.specs.Bytes.{num16, num32, le16, le32, has, blocks, pad, chunks}
use Rattle.rules.specs.Machine.{Signal, Tree, Job, job, with_held, ThreadState, idle, running, Machine}

-- ---- a signal: label, value count, 25 values

unfoldable pub signal_bytes : Signal → List ℕ
signal_bytes g = le16 g.label ++ ((length g.values ∷ []) ++ blocks le16 (pad 0 register_count g.values))

unfoldable pub signal_from : List ℕ → Signal
signal_from b = record { label = num16 b; values = chunks num16 2 (get_or (drop value_count_place b) 0 0) (drop values_place b) }

abbrev pub no_signal : Signal
no_signal = record { label = 0; values = [] }

-- up to n signals: their count, then n places for them
abbrev pub signals_bytes : ℕ → List Signal → List ℕ
signals_bytes n gs = length gs ∷ blocks signal_bytes (pad no_signal n gs)

-- the same in the bytes b, from the place of the count on
abbrev pub signals_from : ℕ → List ℕ → List Signal
signals_from place b = chunks signal_from signal_size (get_or b place 0) (drop (suc place) b)

-- ---- a thread record: label (65,535 idle), lock set, return count, return labels, presence set, register values, held signals

-- the presence set: bit r for register r
unfoldable pub presence : List (Option ℕ) → ℕ
presence [] = 0
presence (none ∷ rs) = 2 * presence rs
presence (some v ∷ rs) = 1 + 2 * presence rs

-- absent register values are zero
abbrev pub value_or0 : Option ℕ → ℕ
value_or0 none = 0
value_or0 (some v) = v

unfoldable pub thread_raw : ℕ → ℕ → ℕ → List ℕ → ℕ → List ℕ → List ℕ
thread_raw label locks count returns present values =
    le16 label ++
    (le16 locks ++
    ((count ∷ []) ++ (blocks le16 (pad 0 return_count returns) ++ (le32 present ++ blocks le16 (pad 0 register_count values)))))

unfoldable pub thread_bytes : ThreadState → List ℕ
thread_bytes idle = thread_raw idle_label 0 0 [] 0 [] ++ signals_bytes held_count []
thread_bytes (running locks j) =
    thread_raw j.label locks (length j.returns) j.returns (presence j.registers) (map value_or0 j.registers)
    ++ signals_bytes held_count j.held

-- register r, from the presence set and the values
abbrev pub register_of : ℕ → List ℕ → ℕ → Option ℕ
register_of present values r = cond (has r present) (some (get_or values r 0)) none

unfoldable pub registers_from : ℕ → List ℕ → ℕ → ℕ → List (Option ℕ)
registers_from present values r zero = []
registers_from present values r (suc n) = register_of present values r ∷ registers_from present values (suc r) n

-- the thread whose record b begins with
unfoldable pub job_from : List ℕ → Job
job_from b =
    with_held (signals_from held_count_place b)
    (job (num16 b)
    (chunks num16 2 (get_or (drop return_count_place b) 0 0) (drop returns_place b))
    (registers_from (num32 (drop presence_place b)) (chunks num16 2 register_count (drop registers_place b)) 0 register_count))

unfoldable pub thread_from : List ℕ → ThreadState
thread_from b = cond (eqb (num16 b) idle_label) idle (running (num16 (drop locks_place b)) (job_from b))

-- ---- a tree record: thread, pending count, 8 signals

abbrev pub no_tree : Tree
no_tree = record { thread = 0; pending = [] }

unfoldable pub tree_bytes : Tree → List ℕ
tree_bytes x = x.thread ∷ signals_bytes pending_count x.pending

unfoldable pub tree_from : List ℕ → Tree
tree_from b = record { thread = get_or b 0 0; pending = signals_from pending_count_place b }

-- ---- the whole: 256 shared words, 8 thread records, the tree count, 16 tree records

unfoldable pub encode : Machine → List ℕ
encode s =
    blocks le16 (pad 0 word_total s.words)
    ++ (blocks thread_bytes (pad idle thread_count s.threads)
    ++ ((length s.trees ∷ [])
    ++ blocks tree_bytes (pad no_tree tree_count s.trees)))

-- 256 shared words from 512 bytes
unfoldable pub words_from : List ℕ → List ℕ
words_from b = chunks num16 2 word_total b

unfoldable pub machine_from : List ℕ → Machine
machine_from b = record {
  words = words_from b;
  threads = chunks thread_from thread_size thread_count (drop threads_place b);
  trees = chunks tree_from tree_size (get_or b tree_count_place 0) (drop trees_place b);
}
