-- The queues tested by one pass over the trees: a flag for each thread says that the thread runs and that its first tree was not met.
use Rattle.std.specs.Prelude.{◌≡◌, Bool, not, ◌&&◌, ◌||◌, eqb, ltb, length, set}
use Rattle.std.proofs.Math.Path.{refl}
use Rattle.std.proofs.Common.{sym, ap, ◌∙◌, zero-add, arith, length-set, ltb-true}
use Rattle.std.proofs.Math.Bool.{true, false, cond, and_assoc}
use mathlib.Core.List.{List, [], ◌∷◌, map}
use Prim.Native.Nat.{ℕ, zero, suc, ◌+◌, ◌<◌}
use Rattle.std.proofs.Math.Nat.{add-zero}
use Rattle.std.proofs.Math.ListN.{get_or}
use Rattle.rules.specs.Sizes.{thread_count}
use Rattle.rules.specs.Bytes.{every, is_zeros}
use Rattle.rules.specs.Machine.{Tree, ThreadState, idle, running, queue}
use Rattle.rules.specs.WellFormed.{pending_ok, tree_ok, homed, queue_ok, queues_ok}
use Rattle.lemmas_invariant.specs.Queues.{queue-here, queue-there}
use Rattle.bytes_fields.specs.Runs.{and-swap}

abbrev pub flag : ThreadState → ℕ
flag idle = 0
flag (running locks j) = 1

pub flags-length : (ws : List ThreadState) → length (map flag ws) ≡ length ws
flags-length [] = refl
flags-length (w ∷ ws) = ap suc (flags-length ws)

module _ (image table : List ℕ) where
  abbrev homes : List Tree → Bool
  homes l = every (homed image table) l

  -- a tree that may stand where it stands: the first of a running thread, or one that belongs there
  abbrev pub stands : ℕ → Tree → Bool
  stands f x = not (eqb f 0) || homed image table x

  -- the trees from here on, and no flag left at the end
  unfoldable pub pass : List ℕ → List Tree → Bool
  pass flags [] = is_zeros flags
  pass flags (x ∷ l) = stands (get_or flags x.thread 0) x && pass (set flags x.thread 0) l

  -- a queue, of a thread with this flag
  abbrev rest : List Tree → Bool
  rest [] = false
  rest (x ∷ l) = homes l

  abbrev queue_by : ℕ → List Tree → Bool
  queue_by f l = cond (eqb f 0) (homes l) (rest l)

  queues_by : ℕ → List ℕ → List Tree → Bool
  queues_by t [] l = true
  queues_by t (f ∷ fs) l = queue_by f (queue t l) && queues_by (t + 1) fs l

  by_flags : (t : ℕ) (ws : List ThreadState) (l : List Tree) → queues_ok image table t ws l ≡ queues_by t (map flag ws) l
  unfolding queues_ok queues_by
  by_flags t [] l = refl
  by_flags t (w ∷ ws) l = rw (by_flags (t + 1) ws l) (ap (λ x. x && queues_by (t + 1) (map flag ws) l) (go w (queue t l)))
    where
      go : (w : ThreadState) (q : List Tree) → queue_ok image table w q ≡ queue_by (flag w) q
      go idle q = refl
      go (running locks j) [] = refl
      go (running locks j) (x ∷ q) = refl

  no-trees : (t : ℕ) (fs : List ℕ) → queues_by t fs [] ≡ is_zeros fs
  unfolding queues_by is_zeros queue every
  no-trees t [] = refl
  no-trees t (f ∷ fs) = rw (no-trees (t + 1) fs) (ap (λ x. x && is_zeros fs) (go (eqb f 0)))
    where
      go : (b : Bool) → cond b true false ≡ b
      go true = refl
      go false = refl

  -- a tree of an earlier thread is in none of these queues
  earlier : (t : ℕ) (fs : List ℕ) (x : Tree) (l : List Tree) → x.thread < t → queues_by t fs (x ∷ l) ≡ queues_by t fs l
  unfolding queues_by
  earlier t [] x l h = refl
  earlier t (f ∷ fs) x l h = rw (queue-there t x l (λ e. omega arith), earlier (t + 1) fs x l (omega arith))

  -- the first tree comes off
  module _ (x : Tree) (l : List Tree) where
    off : (t j : ℕ) (fs : List ℕ) → x.thread ≡ t + j → j < length fs
        → queues_by t fs (x ∷ l) ≡ (stands (get_or fs j 0) x && queues_by t (set fs j 0) l)
    unfolding every queues_by
    off t j [] e h = absurd (omega arith)
    off t zero (f ∷ fs) e h =
        rw (queue-here t x l (e ∙ add-zero t), earlier (t + 1) fs x l (omega arith)) (go (eqb f 0))
      where
        go : (b : Bool) → (cond b (homed image table x && homes (queue t l)) (homes (queue t l)) && queues_by (t + 1) fs l)
            ≡ ((not b || homed image table x) && (homes (queue t l) && queues_by (t + 1) fs l))
        go true = and_assoc (homed image table x) (homes (queue t l)) (queues_by (t + 1) fs l)
        go false = refl
    off t (suc j) (f ∷ fs) e h =
        rw (queue-there t x l (λ q. omega arith), off (t + 1) j fs (omega arith) (omega arith))
        (and-swap (queue_by f (queue t l)) (stands (get_or fs j 0) x) (queues_by (t + 1) (set fs j 0) l))

  -- where every tree is of one of the threads, the pass tests the queues
  by-pass : (fs : List ℕ) (l : List Tree) → length fs ≡ thread_count → (every (tree_ok image table) l && queues_by 0 fs l)
      ≡ (every (tree_ok image table) l && pass fs l)
  unfolding every tree_ok pass
  by-pass fs [] e = no-trees 0 fs
  by-pass fs (x ∷ l) e = go (ltb x.thread thread_count) (every (pending_ok image table) x.pending) refl
      (by-pass (set fs x.thread 0) l (length-set fs x.thread 0 ∙ e))
    where
      f : ℕ
      f = get_or fs x.thread 0

      left : List ℕ
      left = set fs x.thread 0

      go : (b p : Bool) → ltb x.thread thread_count ≡ b → (every (tree_ok image table) l && queues_by 0 left l)
          ≡ (every (tree_ok image table) l && pass left l)
          → (b && p && every (tree_ok image table) l && queues_by 0 fs (x ∷ l))
          ≡ (b && p && every (tree_ok image table) l && (stands f x && pass left l))
      go false p h rec = refl
      go true false h rec = refl
      go true true h rec =
          rw (off x l 0 x.thread fs (sym (zero-add x.thread)) (omega (arith, ltb-true x.thread thread_count h)))
          (and-swap (every (tree_ok image table) l) (stands f x) (queues_by 0 left l)
          ∙ rw rec (and-swap (stands f x) (every (tree_ok image table) l) (pass left l)))

  pub queues-pass : (ws : List ThreadState) (l : List Tree) → length ws ≡ thread_count
      → (every (tree_ok image table) l && queues_ok image table 0 ws l) ≡ (every (tree_ok image table) l && pass (map flag ws) l)
  queues-pass ws l e = rw (by_flags 0 ws l) (by-pass (map flag ws) l (flags-length ws ∙ e))
