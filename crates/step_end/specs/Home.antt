-- Where the tree of an ended job goes, and the thread cleared.
use Rattle.std.specs.Prelude.{◌≡◌, refl, List, [], ◌∷◌, ◌++◌, ℕ, ◌<◌, length, get_or}
use Rattle.std.proofs.Common.{sym, ap, ◌∙◌, arith}
use Rattle.std.proofs.Math.Option.{none, some}
use Rattle.std.proofs.Math.Decide.{dec_lt}
use Rattle.rules.specs.Sizes.{thread_count, block_count, table_size}
use Rattle.rules.specs.Image.{labels, row_at}
use Rattle.rules.specs.Encoding.{no_signal, no_tree, machine_from}
use Rattle.bytes_fields.specs.Each.{each_at}
use Rattle.lemmas_rules.specs.Logic.{never}
use Rattle.lemmas_rules.specs.Passed.{Passed, passed}
use Rattle.lemmas_invariant.specs.Sound.{PendingIn, TreeIn}
use Rattle.lemmas_invariant.specs.Destinations.{block-below}
use Rattle.lemmas_invariant.specs.Trees.{pending-below}
use Rattle.bytes_fields.specs.Put as bytes
use Rattle.lemmas_encoding.specs.Encoded.{Canonical, Encodes}
use Rattle.state_thread.specs.Held.{no-signals}
use Rattle.state_thread.specs.Threads.{Running, idle_thread, idle-thread}
use Rattle.state_thread.specs.Records.{thread_place, raw_thread, raw_bytes}
use Rattle.state_thread.specs.Same.{same-signals}
use Rattle.state_thread.specs.declared.thread.ThreadState.{ThreadState}
use Rattle.state_thread_record.specs.Stores.{HeldThere}
use Rattle.state_thread_record.specs.Records.{Busy, thread-written}
use Rattle.step_contract.specs.Ready.{Ready, Recorded}
use Rattle.rules.specs.Machine.{Signal, Tree, Machine, idle, first, put, with_thread}
use Rattle.rules.specs.Steps.{rules_by, block_at, requeued}
use Rattle.lemmas_encoding.specs.TreeStores.{with_trees}
use Rattle.lemmas_encoding.specs.FirstTree.{first_tree, first_some, first-none}
use Rattle.state_pending.specs.Canon.{pending_at}
use Rattle.state_trees.specs.Changes.{requeued_on, ended}

-- the thread of the oldest signal's block, if a signal is pending
abbrev pub HomeOf : List ℕ → List ℕ → List Signal → ℕ → Type 0
HomeOf image table [] t = Unit {0}
HomeOf image table (g ∷ p) t = t ≡ (row_at table (block_at image g.label)).thread

module _ (image table : List ℕ) where
  requeued-home : (p : List Signal) (t : ℕ) → HomeOf image table p t → requeued_on t p ≡ requeued (rules_by image table) (some p)
  requeued-home [] t h = refl
  requeued-home (g ∷ p) t h = rw h refl

  -- the own tree of thread t's job is settled; cleared besides, the thread's job has ended
  abbrev pub settled : ℕ → Machine → Machine
  settled t s = with_trees s (put t none s.trees ++ requeued (rules_by image table) (first t s.trees))

  pub settled_is : (s : Machine) (t u i : ℕ) → i ≡ first_tree t s.trees → i < length s.trees → HomeOf image table (pending_at s i) u
      → ended t u i s ≡ settled t s
  settled_is s t u i e l h =
      let k : first t s.trees ≡ some (pending_at s i) = rw e (first_some t s.trees (rw e at l)) in
      rw (requeued-home (pending_at s i) u h, k) refl

  pub home-none : (p : List Signal) (t : ℕ) → length p ≡ 0 → HomeOf image table p t
  home-none [] t e = tt
  home-none (g ∷ p) t e = absurd (omega arith)

  pub home_some : (p : List Signal) (t : ℕ) → 0 < length p → t ≡ (row_at table (block_at image (get_or p 0 no_signal).label)).thread
      → HomeOf image table p t
  home_some [] t l e = absurd (omega arith)
  home_some (g ∷ p) t l e = e

-- ---- the first tree of a running thread

pub first-inside : (t : ℕ) (p : List Signal) (l : List Tree) → first t l ≡ some p → first_tree t l < length l
first-inside t p l h = case (dec_lt (first_tree t l) (length l))
  where
    case : Dec (first_tree t l < length l) → first_tree t l < length l
    case (yes k) = k
    case (no k) = never (cc (first-none t l (omega arith)))

-- ---- the thread cleared

pub cleared : {b b' : List ℕ} (t : ℕ) {w : ThreadState} → Canonical b → t < thread_count → w ≡ idle_thread
    → b' ≡ bytes.put b (thread_place t) (raw_bytes w) → Encodes b' (with_thread (machine_from b) t idle)
cleared {b} t c l i e = rw idle-thread.state at (thread-written b (machine_from b) c t idle_thread l idle-thread.tidy (rw i at e))

-- where no signal is held, the places for them are zeros already
pub none-there : {b : List ℕ} (t : ℕ) {w x : ThreadState} → Recorded b t w → Running w → w.held ≡ 0 → x ≡ idle_thread → HeldThere b t x
unfolding raw_thread
none-there t {w} e r n i =
    let f = same-signals w idle_thread r.tidy idle-thread.tidy (no-signals _ refl ∙ sym (no-signals w.signals n)) in
    rw i record {
      count = f.0 ∙ ap (λ (q : ThreadState). q.held) e;
      signals = f.1 ∙ ap (λ (q : ThreadState). q.signals) e;
    }

-- ---- labels below n

module _ {image table b : List ℕ} (h : Ready image table b) where
  checked-parts : Passed image table
  checked-parts = (passed image table [] h.checked).0

  -- the label of a tree's oldest signal
  pub oldest-below : (i : ℕ) → i < length (machine_from b).trees → 0 < length (pending_at (machine_from b) i)
      → (get_or (pending_at (machine_from b) i) 0 no_signal).label < labels image
  oldest-below i l k =
      let x = each_at (TreeIn image table) (machine_from b).trees i no_tree h.sound.trees l in
      pending-below image table _ (each_at (PendingIn image table) (pending_at (machine_from b) i) 0 no_signal x.pending k)

  -- the block of a label below n is one of the table's
  pub block_inside : (l : ℕ) → l < labels image → block_at image l < block_count
  block_inside l k = block-below image table checked-parts l k

  pub table-long : length table ≡ table_size
  table-long = checked-parts.whole_table

  -- a running thread has a tree
  pub tree-inside : (t : ℕ) → Busy b t → first_tree t (machine_from b).trees < length (machine_from b).trees
  tree-inside t k =
      let r = h.sound.invariant.rooted t k.1 (rw k.2 refl) in
      first-inside t r.0 (machine_from b).trees r.1
