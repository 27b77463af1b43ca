-- What an event of one thread leaves as it was for another, and that the changes of two threads can be made in either order.
use Rattle.std.specs.Prelude.{◌≡◌, ◌≢◌, Bool, true, false, cond, ℕ}
use Rattle.std.proofs.Math.Path.{refl, ap}
use Rattle.std.proofs.Common.{sym, ◌∙◌, true≢false, get_or-set_other}
use Rattle.std.proofs.Math.Option.{Option, none, some}
use mathlib.Core.List.Memᴰ
use mathlib.Core.List.{List, [], ◌∷◌}
use Rattle.std.proofs.lemmas.List.{set_comm}
use Rattle.rules.specs.Bytes.{has}
use Rattle.rules.specs.Machine.{Signal, Tree, Job, ThreadState, idle, running, Machine, thread_at, locks_of, job_of}
use Rattle.rules.specs.Machine.{first, put, tree_threads}
use Rattle.rules.specs.Machine.{window}
use Rattle.rules.specs.Events.{Kind, stepping, cutting, Event, arrive, turn, thread_of}
use Rattle.rules.specs.Steps.{Rules, Move, plan, plan_step, plan_turn, plan_arrive, written, applied, grown, founded, finished, requeued}
use Rattle.rules.specs.Steps.{admits, admit, admitted, lost}
use Rattle.lemmas_rules.specs.Trees.{first-put-other, put-comm, first-append, put-append, threads-put}
use Rattle.lemmas_rules.specs.Admitted.{admits-same, admit-keeps, admitted-keeps}
use Rattle.lemmas_rules.specs.Words.{window-keep-other, keep-comm}
use Rattle.lemmas_invariant.specs.Invariant.{Invariant, Sound}

module _ (R : Rules) where
  -- two machines look the same to thread t
  pub record Same (t : ℕ) (s s' : Machine) : Type 0 where
    pub thread : thread_at s' t ≡ thread_at s t
    pub tree : first t s'.trees ≡ first t s.trees
    pub cells : (j : Job) → job_of (thread_at s t) ≡ some j
        → window (R.block j.label) s'.words ≡ window (R.block j.label) s.words

  same_turn : (d : Kind) (t : ℕ) (w : ThreadState) (f : Option (List Signal)) (v v' : List ℕ)
      → ((j : Job) → job_of w ≡ some j → window (R.block j.label) v' ≡ window (R.block j.label) v)
      → plan_turn R d t w f v' ≡ plan_turn R d t w f v
  unfolding plan_step
  same_turn stepping t idle f v v' h = refl
  same_turn stepping t (running l j) f v v' h = rw (h j refl) refl
  same_turn cutting t w f v v' h = refl

  pub same-plan : (t : ℕ) (e : Event) (s s' : Machine) → thread_of e ≡ some t → Same t s s' → plan R s' e ≡ plan R s e
  unfolding plan
  same-plan t (arrive g) s s' k h = cc
  same-plan t (turn d u) s s' k h =
      let e : u ≡ t = cc in
      rw (e, h.thread, h.tree) (same_turn d t (thread_at s t) (first t s.trees) s.words s'.words h.cells)

  pub same-arrive : (g : Signal) (s s' : Machine) → tree_threads s'.trees ≡ tree_threads s.trees
      → plan R s' (arrive g) ≡ plan R s (arrive g)
  unfolding plan plan_arrive
  same-arrive g s s' h = rw (admits-same R s.trees s'.trees g h) refl

  -- ---- the parts of the machine, changed by one thread and read by another

  written-other : (w : Option (ℕ × List ℕ)) (ws : List ℕ) (b : ℕ) → ((p : ℕ × List ℕ) → w ≡ some p → b ≢ p.0)
      → window b (written w ws) ≡ window b ws
  written-other none ws b h = refl
  written-other (some p) ws b h = window-keep-other p.0 b p.1 ws (h p refl)

  written-comm : (w v : Option (ℕ × List ℕ)) (ws : List ℕ) → ((p q : ℕ × List ℕ) → w ≡ some p → v ≡ some q → p.0 ≢ q.0)
      → written w (written v ws) ≡ written v (written w ws)
  written-comm none v ws h = refl
  written-comm (some p) none ws h = refl
  written-comm (some p) (some q) ws h = keep-comm p.0 q.0 p.1 q.1 ws (h p q refl refl)

  machine-path : {s s' : Machine} → s.words ≡ s'.words → s.threads ≡ s'.threads → s.trees ≡ s'.trees → s ≡ s'
  machine-path p q r = λ i. record { words = p i; threads = q i; trees = r i }

  -- two threads hold different locks
  pub unlike : (s : Machine) (t u a b : ℕ) → Invariant R s → t ≢ u → has (R.lock a) (locks_of (thread_at s t)) ≡ true
      → has (R.lock b) (locks_of (thread_at s u)) ≡ true → a ≢ b
  unlike s t u a b i n h k e =
      let f : has (R.lock a) (locks_of (thread_at s u)) ≡ false = i.apart t u (R.lock a) n h in
      true≢false (sym k ∙ ap (λ (x : ℕ). has (R.lock x) (locks_of (thread_at s u))) (sym e) ∙ f)

  pub same-applied : (s : Machine) (t u : ℕ) (m : Move) → Invariant R s → Sound R s u m → t ≢ u → Same t s (applied R u m s)
  same-applied s t u m i d n = record {
    thread = get_or-set_other s.threads u t _ idle n;
    tree = first-put-other t u (some m.pending) s.trees n;
    cells =
        λ j e. written-other m.write s.words (R.block j.label)
        (λ p f. unlike s t u _ _ i n (i.keeps t j e (R.block j.label) (Memᴰ.head refl)) (d.writes p f));
  }

  pub same-grown : (s : Machine) (t : ℕ) (x : Tree) (p : List Signal) → first t s.trees ≡ some p → Same t s (grown x s)
  same-grown s t x p h = record { thread = refl; tree = first-append t p s.trees (x ∷ []) h ∙ sym h; cells = λ j e. refl }

  pub same-finished : (s : Machine) (t u : ℕ) (p : List Signal) → first t s.trees ≡ some p → t ≢ u → Same t s (finished R u s)
  same-finished s t u p h n = record {
    thread = get_or-set_other s.threads u t idle idle n;
    tree = first-append t p (put u none s.trees) (requeued R (first u s.trees)) (first-put-other t u none s.trees n ∙ h) ∙ sym h;
    cells = λ j e. refl;
  }

  -- a machine that looks the same to thread t still does with the trees that an EXIT founds
  pub same-admitted : (s z : Machine) (t : ℕ) (gs : List Signal) (p : List Signal) → first t s.trees ≡ some p → Same t s z
      → Same t s (admitted R gs z)
  same-admitted s z t gs p f =
      admitted-keeps R (Same t s) gs
      (λ g m y room h. record {
        thread = h.thread;
        tree = first-append t p y.trees (founded R g ∷ []) (h.tree ∙ f) ∙ sym f;
        cells = h.cells;
      })
      z

  -- ---- the changes of two threads in either order

  pub comm-applied : (s : Machine) (t u : ℕ) (m n : Move) → t ≢ u
      → ((p q : ℕ × List ℕ) → m.write ≡ some p → n.write ≡ some q → p.0 ≢ q.0)
      → applied R t m (applied R u n s) ≡ applied R u n (applied R t m s)
  comm-applied s t u m n h k =
      machine-path (written-comm m.write n.write s.words k) threads'
      (put-comm t u (some n.pending) (some m.pending) s.trees h)
    where
      threads' : (applied R t m (applied R u n s)).threads ≡ (applied R u n (applied R t m s)).threads
      threads' =
          let g : u ≢ t = λ e. h (sym e) in
          rw (get_or-set_other s.threads u t, get_or-set_other s.threads t u) (set_comm s.threads u t _ _ g)

  pub comm-grown : (s : Machine) (t : ℕ) (m : Move) (x : Tree) (p : List Signal) → first t s.trees ≡ some p
      → applied R t m (grown x s) ≡ grown x (applied R t m s)
  comm-grown s t m x p h = machine-path refl refl (put-append t (some m.pending) p s.trees (x ∷ []) h)

  pub comm-finished : (s : Machine) (t u : ℕ) (m : Move) (p : List Signal) → t ≢ u → first t s.trees ≡ some p
      → applied R t m (finished R u s) ≡ finished R u (applied R t m s)
  comm-finished s t u m p n h =
      let g : u ≢ t = λ e. n (sym e) in
      let f : first t (put u none s.trees) ≡ some p = first-put-other t u none s.trees n ∙ h in
      machine-path refl
      (rw (get_or-set_other s.threads u t) (set_comm s.threads u t _ _ g))
      (rw (
        put-append t (some m.pending) p (put u none s.trees),
        put-comm t u none (some m.pending) s.trees,
        first-put-other u t,
      ) refl)

  -- a move changes no tree's thread, so a signal that founds a tree before it does so after it
  admits-applied : (t : ℕ) (m : Move) (g : Signal) (s : Machine) → admits R (applied R t m s).trees g ≡ admits R s.trees g
  admits-applied t m g s = admits-same R s.trees (applied R t m s).trees g (threads-put t m.pending s.trees)

  admit-applied : (t : ℕ) (m : Move) (p : List Signal) (g : Signal) (s : Machine) → first t s.trees ≡ some p
      → admit R g (applied R t m s) ≡ applied R t m (admit R g s)
  admit-applied t m p g s h = rw (admits-applied t m g s) (case (admits R s.trees g))
    where
      case : (b : Bool)
          → cond b (grown (founded R g) (applied R t m s)) (applied R t m s) ≡ applied R t m (cond b (grown (founded R g) s) s)
      case true = sym (comm-grown s t m (founded R g) p h)
      case false = refl

  first-admit : (t : ℕ) (p : List Signal) (g : Signal) (s : Machine) → first t s.trees ≡ some p
      → first t (admit R g s).trees ≡ some p
  first-admit t p g s h =
      admit-keeps R (λ (z : Machine). first t z.trees ≡ some p) g s (λ e. first-append t p s.trees (founded R g ∷ []) h) h

  pub comm-admitted : (t : ℕ) (m : Move) (p : List Signal) (gs : List Signal) (s : Machine) → first t s.trees ≡ some p
      → applied R t m (admitted R gs s) ≡ admitted R gs (applied R t m s)
  unfolding admitted
  comm-admitted t m p [] s h = refl
  comm-admitted t m p (g ∷ gs) s h =
      comm-admitted t m p gs (admit R g s) (first-admit t p g s h) ∙ ap (admitted R gs) (sym (admit-applied t m p g s h))

  -- and the same signals are lost
  pub lost-applied : (t : ℕ) (m : Move) (p : List Signal) (gs : List Signal) (s : Machine) → first t s.trees ≡ some p
      → lost R gs (applied R t m s) ≡ lost R gs s
  unfolding lost
  lost-applied t m p [] s h = refl
  lost-applied t m p (g ∷ gs) s h =
      let k : lost R gs (admit R g (applied R t m s)) ≡ lost R gs (admit R g s) =
      ap (lost R gs) (admit-applied t m p g s h) ∙ lost-applied t m p gs (admit R g s) (first-admit t p g s h)
      in
      rw (k, admits-applied t m g s) refl
