-- The trees of a well formed machine, and their queues, when a thread's first tree is given other signals, when it leaves the list,
-- and when a tree goes to the list's end.
use Rattle.std.proofs.Math.Path.{◌≡◌, refl, ap}
use Rattle.std.proofs.Common.{sym, ◌∙◌}
use Rattle.std.specs.Prelude.{Bool, ◌||◌, ℕ, ◌<◌, eqb, ltb}
use Rattle.std.proofs.Math.Bool.{true, false}
use Rattle.std.proofs.Math.Option.{Option, none, some}
use mathlib.Core.List.{List, [], ◌∷◌, ◌++◌}
use Rattle.std.proofs.Math.Decide.{ℕ_discrete}
use borrow.Author.Tests.{ltb-true, eqb-true, eq-eqb}
use Rattle.rules.specs.Sizes.{thread_count}
use Rattle.rules.specs.Image.{labels, record_at, entry, row_at}
use Rattle.rules.specs.Machine.{Signal, Tree, Job, ThreadState, idle, running, queue, first, put}
use Rattle.rules.specs.Steps.{home, requeued, block_at, rules_by}
use Rattle.rules.specs.WellFormed.{held_ok, pending_ok, homed, homed_as}
use Rattle.bytes_fields.specs.Each.{Each, each_append}
use Rattle.lemmas_rules.specs.Trees.{first-here, first-there}
use Rattle.lemmas_rules.specs.Logic.{never}
use Rattle.lemmas_rules.specs.Passed.{Passed, row_in, no_record}
use Rattle.lemmas_invariant.specs.Queues.{queue-here, queue-there, head_pending, refitted, FirstHas, first-has, put-each}
use Rattle.lemmas_invariant.specs.Sound.{PlaceIn, HeldIn, PendingIn, TreeIn, Homed, QueueIn}
use Rattle.lemmas_invariant.specs.Destinations.{block-below}

-- a label with an entry is below n
entry-below : (image : List ℕ) (l : ℕ) → (entry (record_at image l) ≡ 0 → ⊥) → l < labels image
entry-below image l h = case (ltb l (labels image)) refl
  where
    case : (b : Bool) → ltb l (labels image) ≡ b → l < labels image
    case true e = ltb-true l (labels image) e
    case false e = absurd (h (rw (no_record image l e) refl))

module _ (image table : List ℕ) where
  pub pending-below : (g : Signal) → PendingIn image table g → g.label < labels image
  unfolding pending_ok
  pending-below g h = entry-below image g.label (λ z. never (let e : ◌≡◌ {A = Bool} false true = rw z at h in cc))

  -- a held signal is one that may be pending
  pub held-pending : (g : Signal) → HeldIn image table g → PendingIn image table g
  unfolding held_ok pending_ok
  held-pending g h = rw h refl

  -- a signal of the thread's own block starts a job that may be there
  pub home-open : (t : ℕ) (g : Signal) → PendingIn image table g → t ≡ home (rules_by image table) g → PlaceIn image table t g.label
  home-open t g h e = record {
    below = pending-below g h;
    allowed = own (eqb (row_at table (block_at image g.label)).kind 1) (eq-eqb _ t (sym e));
  }
    where
      own : (a : Bool) {b : Bool} → b ≡ true → (a || b) ≡ true
      own true q = refl
      own false q = q

  -- ---- trees

  -- of a thread's first tree, if it has one
  abbrev pub FirstIn : Option (List Signal) → Type 0
  FirstIn o = FirstHas (TreeIn image table) (Each (PendingIn image table)) o

  pub first-in : (t : ℕ) (l : List Tree) → Each (TreeIn image table) l → FirstIn (first t l)
  first-in = first-has (TreeIn image table) (Each (PendingIn image table)) (λ x h. h.pending)

  pub put-trees : (t : ℕ) (o : Option (List Signal)) (l : List Tree) → FirstIn o → t < thread_count → Each (TreeIn image table) l
      → Each (TreeIn image table) (put t o l)
  put-trees t o l k v h = put-each (TreeIn image table) (Each (PendingIn image table)) t (λ p q. record { thread = v; pending = q }) o l k
      h

  module _ (checked : Passed image table) where
    home_below : (g : Signal) → PendingIn image table g → home (rules_by image table) g < thread_count
    home_below g h = (row_in image table _ checked (block-below image table checked g.label (pending-below g h))).thread

    pub on-home : (g : Signal) (p : List Signal) → Each (PendingIn image table) (g ∷ p)
        → TreeIn image table (record { thread = home (rules_by image table) g; pending = g ∷ p })
    on-home g p h = record { thread = home_below g h.0; pending = h }

    pub requeued-trees : (o : Option (List Signal)) → FirstIn o → Each (TreeIn image table) (requeued (rules_by image table) o)
    requeued-trees none h = tt
    requeued-trees (some []) h = tt
    requeued-trees (some (g ∷ p)) h = (on-home g p h, tt)

  -- ---- queues

  homed-at : (t : ℕ) (g : Signal) (p : List Signal) → t ≡ home (rules_by image table) g
      → Homed image table (record { thread = t; pending = g ∷ p })
  unfolding homed
  homed-at t g p e = eq-eqb t _ e

  pub requeued-homed : (o : Option (List Signal)) → Each (Homed image table) (requeued (rules_by image table) o)
  requeued-homed none = tt
  requeued-homed (some []) = tt
  requeued-homed (some (g ∷ p)) = (homed-at _ g p refl, tt)

  pub queue-homed : (t : ℕ) (l : List Tree) → Each (Homed image table) l → Each (Homed image table) (queue t l)
  queue-homed t [] h = unfold queue in tt
  queue-homed t (x ∷ l) h = case (ℕ_discrete x.thread t) (queue-homed t l h.1)
    where
      case : Dec (x.thread ≡ t) → Each (Homed image table) (queue t l) → Each (Homed image table) (queue t (x ∷ l))
      case (yes e) ih = rw (queue-here t x l e) (h.0, ih)
      case (no e) ih = rw (queue-there t x l e) ih

  -- the first tree of a queue of trees at home belongs to the thread of its oldest signal's block
  pub first_home : (t : ℕ) (l : List Tree) (g : Signal) (p : List Signal) → Each (Homed image table) (queue t l)
      → first t l ≡ some (g ∷ p) → t ≡ home (rules_by image table) g
  first_home t [] g p h f = never (unfold first in cc)
  first_home t (x ∷ l) g p h f = case (ℕ_discrete x.thread t) (first_home t l g p)
    where
      head : (q : List Signal) → homed_as image table x.thread q ≡ true → q ≡ g ∷ p → x.thread ≡ home (rules_by image table) g
      head [] k e = never (cc)
      head (a ∷ q) k e = let z : a ≡ g = cc in eqb-true _ _ k ∙ ap (home (rules_by image table)) z

      case : Dec (x.thread ≡ t) → (Each (Homed image table) (queue t l) → first t l ≡ some (g ∷ p) → t ≡ home (rules_by image table) g)
          → t ≡ home (rules_by image table) g
      case (yes e) ih =
          let q : x.pending ≡ g ∷ p = cc (first-here t x l e) in
          sym e ∙ head x.pending (unfold homed in (rw (queue-here t x l e) at h).0) q
      case (no e) ih = ih (rw (queue-there t x l e) at h) (sym (first-there t x l e) ∙ f)

  pub queue-longer : (w : ThreadState) (q r : List Tree) → QueueIn image table w q → Each (Homed image table) r
      → QueueIn image table w (q ++ r)
  queue-longer idle q r h k = each_append (Homed image table) q r h k
  queue-longer (running locks j) [] r h k = absurd h
  queue-longer (running locks j) (x ∷ q) r h k = each_append (Homed image table) q r h k

  -- the thread runs on with its first tree changed, or is idle with that tree gone
  pub queue-runs : (w : ThreadState) (q : List Tree) (t locks : ℕ) (j : Job) (p p' : List Signal) → head_pending q ≡ some p
      → QueueIn image table w q
      → QueueIn image table (running locks j) (refitted t (some p') q)
  queue-runs w [] t locks j p p' f h = never (cc)
  queue-runs idle (x ∷ q) t locks j p p' f h = h.1
  queue-runs (running k i) (x ∷ q) t locks j p p' f h = h

  pub queue-idle : (w : ThreadState) (q : List Tree) (t : ℕ) → QueueIn image table w q → QueueIn image table idle (refitted t none q)
  queue-idle idle [] t h = tt
  queue-idle idle (x ∷ q) t h = h.1
  queue-idle (running k i) [] t h = tt
  queue-idle (running k i) (x ∷ q) t h = h
