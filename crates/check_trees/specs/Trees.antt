-- A tree record where it stands in the state.
use Rattle.std.specs.Prelude.{◌≡◌, refl, Bool, false, ◌&&◌, List, ℕ, ◌+◌, ◌<◌, ltb, get_or, drop}
use Rattle.std.proofs.Common.{sym, ap, ◌∙◌, true≢false, get_or-drop, ltb-true}
use Rattle.std.proofs.Math.Bool.{true}
use Rattle.std.proofs.Math.Nat.{add-zero}
use Rattle.rules.specs.Sizes.{thread_count, pending_count, pending_count_place}
use Rattle.rules.specs.Bytes.{every}
use Rattle.rules.specs.Encoding.{tree_from}
use Rattle.rules.specs.WellFormed.{signals_tidy, tree_tidy, pending_ok, tree_ok}
use Rattle.bytes_fields.specs.Runs.{and-swap}
use Rattle.check_signals.specs.Signals.{signals_good, good-signals, signals-drop}

-- a thread number within limits, and up to 8 pending signals of entry 2 or 3
unfoldable pub tree_good : List ℕ → List ℕ → Bool
tree_good image b = ltb (get_or b 0 0) thread_count && signals_good image true pending_count pending_count_place b

-- the bytes are tidy, and the tree that they say is well formed
pub good-tree : (image table b : List ℕ) → (tree_tidy b && tree_ok image table (tree_from b)) ≡ tree_good image b
unfolding tree_tidy tree_ok tree_from tree_good pending_ok
good-tree image table b =
    let o = ltb (get_or b 0 0) thread_count in
    and-swap (signals_tidy pending_count pending_count_place b) o (every (pending_ok image table) (tree_from b).pending)
    ∙ ap (λ x. o && x) (good-signals image true (pending_ok image table) (λ g. refl) pending_count pending_count_place b)

module _ (image s : List ℕ) (at : ℕ) where
  pub tree-at : tree_good image (drop at s)
      ≡ (ltb (get_or s at 0) thread_count && signals_good image true pending_count (at + pending_count_place) s)
  unfolding tree_good
  tree-at = rw (get_or-drop at s 0 0, add-zero, signals-drop image true s at pending_count pending_count_place)

  pub good-below : tree_good image (drop at s) ≡ true → get_or s at 0 < thread_count
  good-below e = go (ltb (get_or s at 0) thread_count) refl
    where
      go : (b : Bool) → ltb (get_or s at 0) thread_count ≡ b → get_or s at 0 < thread_count
      go true p = ltb-true _ thread_count p
      go false p = absurd (true≢false (sym (simp p at (sym tree-at ∙ e))))
