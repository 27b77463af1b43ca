-- Tree records: what is written is read back and passes the tests, and what passes the tests is written again as it was.
use Rattle.std.specs.Prelude.{◌≡◌, refl, true, List, [], ◌∷◌, ◌++◌, ℕ, ◌+◌, ◌*◌, ◌-◌, ◌≤◌, ◌<◌, length, get_or, take, drop, replicate}
use Rattle.std.proofs.Common.{arith}
use Rattle.rules.specs.Sizes.{pending_count, signal_size, pending_count_place, tree_size}
use Rattle.rules.specs.Bytes.{part, blocks, pad}
use Rattle.rules.specs.Machine.{Tree}
use Rattle.rules.specs.Encoding.{no_signal, no_tree, signal_bytes, tree_bytes, tree_from}
use Rattle.rules.specs.WellFormed.{tree_tidy}
use Rattle.lemmas_encoding.specs.Sized.{SizedTree}
use Rattle.lemmas_encoding.specs.Runs.{byte-forth, glue}
use Rattle.lemmas_encoding.specs.Numbers.{AreBytes}
use Rattle.lemmas_encoding.specs.Signals as signals
use Rattle.lemmas_encoding.specs.Signals.{signals-back, signals-forth, signals-sized, signals-tidy}

-- an unused place is zeros
pub no-tree : tree_bytes no_tree ≡ replicate tree_size 0
unfolding tree_bytes signal_bytes blocks pad
no-tree = refl

pub tree-back : (x : Tree) → SizedTree x → (q : List ℕ) → tree_from (tree_bytes x ++ q) ≡ x
unfolding tree_bytes tree_from
tree-back x z q = λ i. record {
  thread = x.thread;
  pending = signals-back pending_count x.pending z (x.thread ∷ []) q pending_count_place refl i;
}

-- ---- bytes that pass the tests

pub tree-forth : (b : List ℕ) → AreBytes b → tree_size ≤ length b → tree_tidy b ≡ true → tree_bytes (tree_from b) ≡ take tree_size b
unfolding tree_bytes tree_from tree_tidy part
tree-forth b h l e =
    glue b 0 pending_count_place (tree_size - pending_count_place) _ _ (byte-forth b 0 (omega arith))
    (signals-forth pending_count pending_count_place b l e h)

pub tree-sized : (b : List ℕ) → tree_size ≤ length b → tree_tidy b ≡ true → SizedTree (tree_from b)
unfolding tree_from tree_tidy
tree-sized b l e = signals-sized pending_count pending_count_place b l e

-- ---- bytes that are written pass the tests

-- what follows from a tree's j-th signal on
pub signal-at : (x : Tree) (q : List ℕ) (at j : ℕ) → SizedTree x → j < length x.pending → at ≡ 2 + signal_size * j
    → (r : List ℕ) × (drop at (tree_bytes x ++ q) ≡ signal_bytes (get_or x.pending j no_signal) ++ r)
unfolding tree_bytes
signal-at x q at j z h e = signals.signal-at pending_count x.pending z (x.thread ∷ []) q pending_count_place refl at j h e

pub tree-thread-back : (x : Tree) (q : List ℕ) → get_or (tree_bytes x ++ q) 0 0 ≡ x.thread
unfolding tree_bytes
tree-thread-back x q = refl

pub pending-back : (x : Tree) (q : List ℕ) → get_or (tree_bytes x ++ q) 1 0 ≡ length x.pending
unfolding tree_bytes
pending-back x q = refl

pub tree-tidy : (x : Tree) → SizedTree x → (q : List ℕ) → tree_tidy (tree_bytes x ++ q) ≡ true
unfolding tree_tidy tree_bytes
tree-tidy x z q = signals-tidy pending_count x.pending z (x.thread ∷ []) q pending_count_place refl
