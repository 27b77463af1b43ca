-- The signals that a job held, admitted one after the other.
use Rattle.std.specs.Prelude.{◌≡◌, Bool, ℕ, ◌+◌, ◌≤◌, ◌<◌, ltb, get_or}
use Rattle.std.proofs.Math.Path.{refl, ap}
use Rattle.std.proofs.Common.{sym, ◌∙◌, subst, length-append}
use Rattle.std.proofs.Math.Bool.{true, false, cond}
use mathlib.Core.List.{List, [], ◌∷◌, ◌++◌}
use native.Mathlib.Omega.{arith}
use Rattle.std.proofs.Math.ListN.{length}
use Rattle.rules.specs.Sizes.{block_count, table_size, held_count}
use Rattle.rules.specs.Image.{labels, row_at}
use Rattle.rules.specs.Check.{Checked}
use Rattle.rules.specs.Machine.{Signal, Machine, tree_threads}
use Rattle.rules.specs.Encoding.{no_signal, machine_from}
use Rattle.rules.specs.Steps.{Rules, rules_by, block_at, room_for, admits, admit, admitted, lost}
use Rattle.lemmas_rules.specs.Passed.{Passed, passed}
use Rattle.lemmas_encoding.specs.Encoded.{Canonical, Encodes, encoded-machine}
use Rattle.lemmas_invariant.specs.Sound.{HeldIn}
use Rattle.lemmas_invariant.specs.Destinations.{block-below}
use Rattle.lemmas_invariant.specs.Trees.{pending-below, held-pending}
use Rattle.state_signal.specs.Signals.{signal_of, TidySignal}
use Rattle.state_signal.specs.declared.Signal as Value
use Rattle.state_trees.specs.Changes.{arrived}

-- the image and the table have passed the check, the bytes are a machine's, and the signal is tidy and goes to an entry 2
pub record Admissible (image table b : List ℕ) (g : Value.Signal) : Type 0 where
  pub checked : Checked image table
  pub canonical : Canonical b
  pub entry : HeldIn image table (signal_of g)
  pub tidy : TidySignal g

-- a signal, if it is held
abbrev pub only : Bool → Signal → List Signal
only true g = g ∷ []
only false g = []

-- ---- one signal

module _ {image table b : List ℕ} {v : Value.Signal} (h : Admissible image table b v) where
  abbrev g : Signal
  g = signal_of v

  parts : Passed image table
  parts = (passed image table [] h.checked).0

  pub held_below : g.label < labels image
  held_below = pending-below image table g (held-pending image table g h.entry)

  pub held-block : block_at image g.label < block_count
  held-block = block-below image table parts g.label held_below

  pub table-long : length table ≡ table_size
  table-long = parts.whole_table

  module _ (u : ℕ) (to : u ≡ (row_at table (block_at image g.label)).thread) where
    abbrev R : Rules
    R = rules_by image table

    asked : (z : Bool) → room_for (tree_threads (machine_from b).trees) u ≡ z → admits R (machine_from b).trees g ≡ z
    asked z e = subst (λ (v : ℕ). room_for (tree_threads (machine_from b).trees) v ≡ z) to e

    pub tree-founded : {b' : List ℕ} → room_for (tree_threads (machine_from b).trees) u ≡ true → Canonical b'
        → machine_from b' ≡ arrived u g (machine_from b)
        → (0 ≡ length (lost R (g ∷ []) (machine_from b))) × Encodes b' (admitted R (g ∷ []) (machine_from b))
    unfolding admitted lost
    tree-founded {b'} e k f =
        let a = asked true e in
        let c : Encodes b' (arrived u g (machine_from b)) = rw f at k in
        (rw a, rw a (rw to at c))

    pub tree-lost : room_for (tree_threads (machine_from b).trees) u ≡ false
        → (1 ≡ length (lost R (g ∷ []) (machine_from b))) × Encodes b (admitted R (g ∷ []) (machine_from b))
    unfolding admitted lost
    tree-lost e = let a = asked false e in (rw a, rw a h.canonical)

-- ---- several, one after the other

module _ (R : Rules) where
  -- at most one of one is lost
  pub few-lost : (z : Bool) (g : Signal) (s : Machine) → length (lost R (only z g) s) ≤ 1
  unfolding lost
  few-lost false g s = omega arith
  few-lost true g s = case (admits R s.trees g)
    where
      case : (b : Bool) → length (cond b [] (g ∷ [])) ≤ 1
      case true = omega arith
      case false = omega arith

  admitted-more : (xs ys : List Signal) (s : Machine) → admitted R (xs ++ ys) s ≡ admitted R ys (admitted R xs s)
  unfolding admitted
  admitted-more [] ys s = refl
  admitted-more (g ∷ xs) ys s = admitted-more xs ys (admit R g s)

  lost-more : (xs ys : List Signal) (s : Machine) → lost R (xs ++ ys) s ≡ lost R xs s ++ lost R ys (admitted R xs s)
  unfolding admitted lost
  lost-more [] ys s = refl
  lost-more (g ∷ xs) ys s = case (admits R s.trees g) _ _ _ (lost-more xs ys (admit R g s))
    where
      case : (b : Bool) (l k q : List Signal) → l ≡ k ++ q → cond b l (g ∷ l) ≡ cond b k (g ∷ k) ++ q
      case true l k q e = e
      case false l k q e = ap (λ z. g ∷ z) e

  -- the signals xs were admitted to the machine s, and n of them were lost: that is what the bytes b say
  pub record Through (s : Machine) (xs : List Signal) (n : ℕ) (b : List ℕ) : Type 0 where
    pub bytes : Encodes b (admitted R xs s)
    pub count : n ≡ length (lost R xs s)

  pub through-none : {s : Machine} {b : List ℕ} → Encodes b s → Through s [] 0 b
  unfolding admitted lost
  through-none e = record { bytes = e; count = refl }

  pub through-more : {s : Machine} {xs : List Signal} {n : ℕ} {b : List ℕ} (ys : List Signal) {k : ℕ} {b' : List ℕ} → Through s xs n b
      → k ≡ length (lost R ys (machine_from b)) → Encodes b' (admitted R ys (machine_from b)) → Through s (xs ++ ys) (n + k) b'
  through-more {s} {xs} {n} {b} ys {k} {b'} h e f =
      let m = encoded-machine b _ h.bytes in
      record {
        bytes = subst (Encodes b') (ap (admitted R ys) m ∙ sym (admitted-more xs ys s)) f;
        count = rw (lost-more xs ys s, length-append) (omega (arith, h.count, e, ap (λ (q : Machine). length (lost R ys q)) m));
      }

-- at most four signals are those at the four places, as far as they are counted
abbrev pub places : ℕ → Signal → Signal → Signal → Signal → List Signal
places n a b c d = ((([] ++ only (ltb 0 n) a) ++ only (ltb 1 n) b) ++ only (ltb 2 n) c) ++ only (ltb 3 n) d

pub four-places : (gs : List Signal) → length gs ≤ held_count
    → places (length gs) (get_or gs 0 no_signal) (get_or gs 1 no_signal) (get_or gs 2 no_signal) (get_or gs 3 no_signal) ≡ gs
four-places [] h = refl
four-places (a ∷ []) h = refl
four-places (a ∷ b ∷ []) h = refl
four-places (a ∷ b ∷ c ∷ []) h = refl
four-places (a ∷ b ∷ c ∷ d ∷ []) h = refl
four-places (a ∷ b ∷ c ∷ d ∷ e ∷ gs) h = absurd (omega arith)
