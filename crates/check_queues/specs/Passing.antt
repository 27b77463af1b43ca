-- The pass over the trees of a state, tree by tree.
use Rattle.std.specs.Prelude.{◌≡◌, Bool, true, false, ◌&&◌, ℕ, ◌+◌, ◌*◌, ◌-◌, ◌≤◌, ◌<◌, length, get_or, set, drop}
use Rattle.std.proofs.Common.{sym, ◌∙◌, add-zero, length-set, get_or-drop, take_all}
use mathlib.Core.List.{List, map}
use Rattle.std.proofs.Math.Nat.{sub-zero}
use native.Mathlib.Omega.{arith}
use Rattle.rules.specs.Sizes.{thread_count, thread_size, tree_size, threads_place, trees_place}
use Rattle.rules.specs.Bytes.{part, all_from, chunks, is_zeros}
use Rattle.rules.specs.Machine.{Tree}
use Rattle.rules.specs.Encoding.{thread_from, tree_from}
use Rattle.bytes_fields.specs.Tests.{all_done, all-fail, all_pass}
use Rattle.lemmas_encoding.specs.Runs.{length-chunks}
use Rattle.bytes_fields.specs.Runs.{and-swap}
use Rattle.bytes_fields.specs.Pieces.{chunk-step, chunk-done}
use Rattle.check_trees.specs.Trees.{tree_good}
use Rattle.check_queues.specs.Queues.{flag, flags-length, stands, pass}

abbrev pub tree_at_good : List ℕ → List ℕ → ℕ → Bool
tree_at_good image s i = tree_good image (drop (trees_place + tree_size * i) s)

pub tree-thread : (s : List ℕ) (at : ℕ) → get_or s at 0 ≡ (tree_from (drop at s)).thread
unfolding tree_from
tree-thread s at = sym (get_or-drop at s 0 0 ∙ rw add-zero)

-- the flags of the threads that run
abbrev pub flags_of : List ℕ → List ℕ
flags_of s = map flag (chunks thread_from thread_size thread_count (drop threads_place s))

module _ (image table s : List ℕ) (n : ℕ) where
  -- the trees from the i-th on, with these flags
  abbrev trees_from : ℕ → List ℕ → Bool
  trees_from i flags = all_from (tree_at_good image s) i (n - i)
      && pass image table flags (chunks tree_from tree_size (n - i) (drop (trees_place + tree_size * i) s))

  unfoldable pub trees_good : Bool
  trees_good = all_from (tree_at_good image s) 0 n && pass image table (flags_of s) (chunks tree_from tree_size n (drop trees_place s))

  abbrev pub Passing : List ℕ → ℕ → Type 0
  Passing flags i = (i ≤ n) × (length flags ≡ thread_count) × (trees_good ≡ trees_from i flags)

  pub passing-none : Passing (flags_of s) 0
  unfolding trees_good
  passing-none = (
    omega arith,
    flags-length (chunks thread_from thread_size thread_count (drop threads_place s))
        ∙ length-chunks thread_from thread_size thread_count (drop threads_place s),
    rw sub-zero,
  )

  module _ (flags : List ℕ) (i : ℕ) (inv : Passing flags i) where
    pub passing-all : n ≤ i → is_zeros (part flags 0 thread_count) ≡ trees_good
    unfolding pass part
    passing-all h = rw (take_all thread_count flags (omega (arith, inv.1)))
        (sym (inv.2 ∙ rw (
          all_done (tree_at_good image s) n i (omega arith),
          chunk-done tree_from tree_size
              (drop (trees_place + tree_size * i) s) n i (omega arith),
        )))

    module _ (h : i < n) where
      pub passing-bad : tree_at_good image s i ≡ false → false ≡ trees_good
      passing-bad e = sym (inv.2 ∙ rw (all-fail (tree_at_good image s) n i h e))

      module _ (t : ℕ) (e : t ≡ (tree_from (drop (trees_place + tree_size * i) s)).thread) (good : tree_at_good image s i ≡ true) where
        one : trees_good ≡ (stands image table (get_or flags t 0) (tree_from (drop (trees_place + tree_size * i) s))
            && trees_from (i + 1) (set flags t 0))
        unfolding pass
        one =
            let x : Tree = tree_from (drop (trees_place + tree_size * i) s) in
            let l : List Tree = chunks tree_from tree_size (n - (i + 1)) (drop (trees_place + tree_size * (i + 1)) s) in
            inv.2 ∙ rw (all_pass (tree_at_good image s) n i h good, chunk-step tree_from tree_size s trees_place n i h, e)
            (and-swap (all_from (tree_at_good image s) (i + 1) (n - (i + 1))) (stands image table (get_or flags x.thread 0) x)
            (pass image table (set flags x.thread 0) l))

        pub passing-lost : stands image table (get_or flags t 0) (tree_from (drop (trees_place + tree_size * i) s)) ≡ false
            → false ≡ trees_good
        passing-lost q = sym (one ∙ rw q)

        pub passing-next : stands image table (get_or flags t 0) (tree_from (drop (trees_place + tree_size * i) s)) ≡ true
            → Passing (set flags t 0) (i + 1)
        passing-next q = (omega arith, length-set flags t 0 ∙ inv.1, one ∙ rw q)
