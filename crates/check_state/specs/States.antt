-- The state as a whole: the tests of its bytes and of the machine that they say, each record at one time.
use Rattle.std.specs.Prelude.{◌≡◌, Bool, true, false, ◌&&◌, List, get_or, drop}
use Rattle.std.proofs.Math.Path.{refl, sym, ap}
use Rattle.std.proofs.Common.{◌∙◌}
use Rattle.std.proofs.Math.Bool.{and_assoc, and-true, and-false}
use Prim.Native.Nat.{ℕ, zero, suc, ◌+◌, ◌*◌, ◌-◌, ◌≤◌, ◌<◌}
use borrow.Author.Tests.{le-leb, lt-leb}
use Rattle.rules.specs.Sizes.{thread_count, tree_count, thread_size, tree_size, threads_place, tree_count_place, trees_place}
use Rattle.rules.specs.Bytes.{part, is_zeros, all_from, every, chunks}
use Rattle.rules.specs.Machine.{ThreadState, Tree}
use Rattle.rules.specs.Encoding.{thread_from, tree_from, machine_from}
use Rattle.rules.specs.WellFormed.{thread_at_tidy, tree_at_tidy, state_tidy, apart, thread_ok, threads_ok, tree_ok, queues_ok, machine_ok}
use Rattle.rules.specs.WellFormed.{well_formed}
use Rattle.lemmas_encoding.specs.Runs.{length-chunks}
use Rattle.bytes_fields.specs.Runs.{all_same, all_both}
use Rattle.bytes_fields.specs.Pieces.{every-chunk, next_place}
use Rattle.check_trees.specs.Trees.{good-tree}
use Rattle.check_queues.specs.Queues.{pass, queues-pass}
use Rattle.check_queues.specs.Passing.{tree_at_good, flags_of, trees_good}
use Rattle.check_threads.specs.Places.{thread_at_good, good-thread}

module _ (image table s : List ℕ) where
  abbrev threads : List ThreadState
  threads = chunks thread_from thread_size thread_count (drop threads_place s)

  abbrev trees : ℕ → List Tree
  trees n = chunks tree_from tree_size n (drop trees_place s)

  -- the threads, each where it stands
  threads-at : (t k : ℕ) → threads_ok image table t (chunks thread_from thread_size k (drop (threads_place + thread_size * t) s))
      ≡ all_from (λ i. thread_ok image table i (thread_from (drop (threads_place + thread_size * i) s))) t k
  unfolding threads_ok chunks all_from
  threads-at t zero = refl
  threads-at t (suc k) = rw (next_place thread_from thread_size s threads_place t, threads-at (t + 1) k)

  all-threads : (all_from (thread_at_tidy s) 0 thread_count && threads_ok image table 0 threads)
      ≡ all_from (thread_at_good image table s) 0 thread_count
  unfolding thread_at_tidy
  all-threads =
      rw (threads-at 0 thread_count)
      (sym (all_both (thread_at_tidy s) (λ i. thread_ok image table i (thread_from (drop (threads_place
      + thread_size * i) s))) 0 thread_count)
      ∙ all_same _ (thread_at_good image table s) 0 thread_count (λ i l h. good-thread image table i
      (drop (threads_place + thread_size * i) s)))

  all-trees : (n : ℕ) → (all_from (tree_at_tidy s) 0 n && every (tree_ok image table) (trees n)) ≡ all_from (tree_at_good image s) 0 n
  unfolding tree_at_tidy
  all-trees n =
      rw (every-chunk tree_from tree_size (tree_ok image table) s trees_place 0 n)
      (sym (all_both (tree_at_tidy s) (λ i. tree_ok image table (tree_from (drop (trees_place + tree_size * i) s))) 0 n)
      ∙ all_same _ (tree_at_good image s) 0 n (λ i l h. good-tree image table (drop (trees_place + tree_size * i) s)))

  -- a test of the bytes and a test of the machine, record by record
  regroup : (a c u b l d q : Bool) → (a && true && c && u && (b && l && d && q)) ≡ (a && b && l && u && (c && (d && q)))
  regroup false c u b l d q = refl
  regroup true false u b l d q = sym (and-false (b && l && u))
  regroup true true false b l d q = sym (rw (and-false (b && l)))
  regroup true true true b l d q = rw (and-true (b && l)) (and_assoc (b && l) d q)

  module _ (n : ℕ) (e : n ≡ get_or s tree_count_place 0) where
    pub state-many : tree_count < n → well_formed image table s ≡ false
    unfolding well_formed state_tidy
    state-many h = rw (← e, lt-leb n tree_count h, and-false)

    pub state-few : n ≤ tree_count
        → well_formed image table s ≡ (all_from (thread_at_good image table s) 0 thread_count && apart threads
        && is_zeros (part s (trees_place + tree_size * n) (tree_size * (tree_count - n))) && trees_good image table s n)
    unfolding well_formed state_tidy machine_ok machine_from trees_good
    state-few h =
        let a = all_from (thread_at_tidy s) 0 thread_count in
        let b = threads_ok image table 0 threads in
        let c = all_from (tree_at_tidy s) 0 n in
        let d = every (tree_ok image table) (trees n) in
        let u = is_zeros (part s (trees_place + tree_size * n) (tree_size * (tree_count - n))) in
        let q = queues_ok image table 0 threads (trees n) in
        let p = pass image table (flags_of s) (trees n) in
        let f : (c && (d && q)) ≡ (all_from (tree_at_good image s) 0 n && p) =
        ap (λ x. c && x) (queues-pass image table threads (trees n)
        (length-chunks thread_from thread_size thread_count (drop threads_place s))) ∙ sym (and_assoc c d p)
        ∙ ap (λ x. x && p) (all-trees n) in
        rw (← e, le-leb n tree_count h) (regroup a c u b (apart threads) d q ∙ rw (f, all-threads))
