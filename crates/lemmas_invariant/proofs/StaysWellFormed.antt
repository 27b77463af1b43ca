-- Well formed stays well formed: every event that a checked image accepts leaves a well formed machine well formed, and a fresh
-- machine is well formed.
use Rattle.std.specs.Prelude.{◌≡◌, true, false, ℕ, ◌<◌, length}
use Rattle.std.proofs.Math.Path.{refl}
use Rattle.std.proofs.Common.{sym, ap, ◌∙◌, subst, get_or-set_same, get_or-set_other}
use Rattle.std.proofs.Math.Option.{Option, none, some}
use mathlib.Core.List.{List, [], ◌∷◌, ◌++◌}
use Rattle.std.proofs.Math.Decide.{ℕ_discrete}
use Rattle.rules.specs.Sizes.{thread_count}
use Rattle.rules.specs.Bytes.{has}
use Rattle.rules.specs.Image.{row_at}
use Rattle.rules.specs.Check.{Checked}
use Rattle.rules.specs.Machine.{Signal, Job, ThreadState, idle, running, Machine, thread_at, locks_of, job_of, fresh, queue, first, put}
use Rattle.rules.specs.Machine.{window}
use Rattle.rules.specs.Events.{Event, arrive, thread_of, Valid}
use Rattle.rules.specs.Steps.{Rules, Effect, Move, Reply, added, pending_of, founded, requeued, rules_by, grant, applied, grown, finished}
use Rattle.rules.specs.Steps.{react, final}
use Rattle.rules.specs.WellFormed.{pending_ok, machine_ok}
use Rattle.bytes_fields.specs.Each.{Each, each_append}
use Rattle.lemmas_rules.specs.Logic.{get_d-same}
use Rattle.lemmas_invariant.proofs.Invariant.{invariant-react, invariant-fresh}
use Rattle.lemmas_rules.specs.Locks.{get_d-set-idle}
use Rattle.lemmas_rules.specs.Admitted.{admitted-keeps, admitted-threads}
use Rattle.lemmas_rules.specs.Passed.{Passed, passed}
use Rattle.lemmas_invariant.proofs.CheckedRules.{checked-laws}
use Rattle.rules.specs.declared.answer.Answer.{Answer}
use Rattle.lemmas_invariant.specs.Happens.{start_of, go_of, effect_of, released, released-has, Happens, remains, founds, starts, goes}
use Rattle.lemmas_invariant.specs.Happens.{ends, happens}
use Rattle.lemmas_invariant.specs.Untouched.{words-of-other-blocks-stay}
use Rattle.lemmas_invariant.specs.Queues.{first-queue, queue-append, queue-put, queue-put-other}
use Rattle.lemmas_invariant.specs.Members.{each_member, get_d_set}
use Rattle.lemmas_invariant.specs.Sound.{PlaceIn, HeldIn, ThreadIn, PendingIn, TreeIn, QueueIn, Sound, sound-of, sound-ok}
use Rattle.lemmas_invariant.specs.Destinations.{SentIn, EffectIn}
use Rattle.lemmas_invariant.proofs.Destinations.{act-in}
use Rattle.lemmas_invariant.specs.Trees.{FirstIn, first-in, put-trees, held-pending}
use Rattle.lemmas_invariant.specs.Trees.{on-home, home-open, requeued-trees, requeued-homed}
use Rattle.lemmas_invariant.specs.Trees.{queue-homed, first_home, queue-longer, queue-runs, queue-idle}
use Rattle.lemmas_invariant.specs.StaysWellFormed.{Accepted, accepted-valid}

module _ (image table : List ℕ) (ok : Passed image table) (s : Machine) (k : Sound image table s) where
  abbrev R : Rules
  R = rules_by image table

  firsts : (t : ℕ) → FirstIn image table (first t s.trees)
  firsts t = first-in image table t s.trees k.trees

  pending-in : (o : Option (List Signal)) → FirstIn image table o → Each (PendingIn image table) (pending_of o)
  pending-in none h = tt
  pending-in (some p) h = h

  added-in : (o : Option Signal) → SentIn image table ok o → Each (PendingIn image table) (added o)
  added-in none h = tt
  added-in (some g) h = (held-pending image table g h, tt)

  -- what the statement of a running thread leaves
  pub effect-in : (t locks : ℕ) (j : Job) (e : Effect) → thread_at s t ≡ running locks j
      → effect_of R s t j ≡ e → EffectIn image table ok t e
  effect-in t locks j e w a =
      subst (EffectIn image table ok t) a (act-in image table ok t j _ _ (subst (ThreadIn image table t) w (k.threads t)))

  -- the signals that found trees when a job ends
  held_in : (t locks : ℕ) (j : Job) (a : Answer) → thread_at s t ≡ running locks j → Each (HeldIn image table) (released j a)
  held_in t locks j a w = released-has (HeldIn image table) j a (subst (ThreadIn image table t) w (k.threads t)).held

  -- an arrival's signal is one that may be pending
  arrival-in : (g : Signal) → Accepted image (arrive g) → PendingIn image table g
  unfolding pending_ok
  arrival-in g h = rw h.0 refl

  -- the label that a thread starts at
  pub start-in : (t : ℕ) (g : Signal) (p : List Signal) → thread_at s t ≡ idle → first t s.trees ≡ some (g ∷ p)
      → PlaceIn image table t g.label
  start-in t g p w f =
      let h : Each (PendingIn image table) (g ∷ p) = subst (FirstIn image table) f (firsts t) in
      home-open image table t g h.0
      (first_home image table t s.trees g p (subst (λ (z : ThreadState). QueueIn image table z (queue t s.trees)) w (k.queues t)) f)

  -- ---- threads

  threads-kept : (e : Event) (r : Reply) → Happens R s e r → (u : ℕ) → ThreadIn image table u (thread_at r.state u)
  threads-kept e r (remains f a q) = k.threads
  threads-kept e r (founds g room) = k.threads
  threads-kept e r (starts t g p w f b) = get_d_set idle (ThreadIn image table) s.threads t _ k.threads
      (record { places = (start-in t g p w f, tt); held = tt })
  threads-kept e r (goes t l j j' words g want w a b) =
      get_d_set idle (ThreadIn image table) s.threads t _ k.threads (effect-in t l j _ w a).0
  threads-kept e r (ends t l j a w f) =
      rw (admitted-threads R (released j a) (finished R t s)) (get_d_set idle (ThreadIn image table) s.threads t idle k.threads tt)

  -- ---- trees

  tree-founded : (z : Machine) (g : Signal) → PendingIn image table g → Each (TreeIn image table) z.trees
      → Each (TreeIn image table) (grown (founded R g) z).trees
  tree-founded z g h e = each_append (TreeIn image table) z.trees _ e (on-home image table ok g [] (h, tt), tt)

  trees-kept : (e : Event) (r : Reply) → Happens R s e r → Accepted image e → Valid e → Each (TreeIn image table) r.state.trees
  trees-kept e r (remains f a q) h v = k.trees
  trees-kept e r (founds g room) h v = tree-founded s g (arrival-in g h) k.trees
  trees-kept e r (starts t g p w f b) h v =
      put-trees image table t (some p) s.trees (subst (FirstIn image table) f (firsts t)).1 h k.trees
  trees-kept e r (goes t l j j' words g want w a b) h v =
      let old = pending-in (first t s.trees) (firsts t) in
      let new = added-in g (effect-in t l j _ w a).1 in
      put-trees image table t (some (pending_of (first t s.trees) ++ added g)) s.trees
      (each_append (PendingIn image table) (pending_of (first t s.trees)) (added g) old new) h k.trees
  trees-kept e r (ends t l j a w f) h v =
      admitted-keeps R (λ (z : Machine). Each (TreeIn image table) z.trees) (released j a)
      (λ g m z room. tree-founded z g (held-pending image table g (each_member _ (released j a) (held_in t l j a w) g m)))
      (finished R t s)
      (each_append (TreeIn image table) (put t none s.trees) _
      (put-trees image table t none s.trees tt h k.trees)
      (requeued-trees image table ok (first t s.trees) (firsts t)))

  -- ---- queues

  queue-applied : (t : ℕ) (m : Move) (p : List Signal) → t < thread_count → first t s.trees ≡ some p → (u : ℕ)
      → QueueIn image table (thread_at (applied R t m s) u) (queue u (put t (some m.pending) s.trees))
  queue-applied t m p v f u = case (ℕ_discrete u t)
    where
      case : Dec (u ≡ t) → QueueIn image table (thread_at (applied R t m s) u) (queue u (put t (some m.pending) s.trees))
      case (yes e) =
          rw (
            e,
            get_or-set_same s.threads t (running (grant R m.want (locks_of (thread_at s t))) m.job) idle
                (rw k.invariant.size v),
            queue-put t (some m.pending) s.trees,
          )
          (queue-runs image table (thread_at s t) (queue t s.trees) t (grant R m.want (locks_of (thread_at s t))) m.job p
          m.pending (sym (first-queue t s.trees) ∙ f) (k.queues t))
      case (no e) =
          rw (
            get_or-set_other s.threads t u (running (grant R m.want (locks_of (thread_at s t))) m.job) idle e,
            queue-put-other u t
                (some m.pending) s.trees e,
          )
          (k.queues u)

  queue-finished : (t u : ℕ) → QueueIn image table (thread_at (finished R t s) u) (queue u (finished R t s).trees)
  queue-finished t u =
      rw (queue-append u (put t none s.trees) (requeued R (first t s.trees)))
      (queue-longer image table (thread_at (finished R t s) u) _ _ (case (ℕ_discrete u t))
      (queue-homed image table u _ (requeued-homed image table (first t s.trees))))
    where
      case : Dec (u ≡ t) → QueueIn image table (thread_at (finished R t s) u) (queue u (put t none s.trees))
      case (yes e) =
          rw (e, get_d-set-idle s.threads t, queue-put t none s.trees)
          (queue-idle image table (thread_at s t) (queue t s.trees) t (k.queues t))
      case (no e) = rw (get_or-set_other s.threads t u idle idle e, queue-put-other u t none s.trees e) (k.queues u)

  abbrev QueuesIn : Machine → Type 0
  QueuesIn z = (u : ℕ) → QueueIn image table (thread_at z u) (queue u z.trees)

  queue-founded : (z : Machine) (g : Signal) → QueuesIn z → QueuesIn (grown (founded R g) z)
  queue-founded z g h u =
      rw (queue-append u z.trees (founded R g ∷ []))
      (queue-longer image table (thread_at z u) _ _ (h u)
      (queue-homed image table u (founded R g ∷ []) (requeued-homed image table (some (g ∷ [])))))

  queues-kept : (e : Event) (r : Reply) → Happens R s e r → Accepted image e → QueuesIn r.state
  queues-kept e r (remains f a q) h = k.queues
  queues-kept e r (founds g room) h = queue-founded s g k.queues
  queues-kept e r (starts t g p w f b) h = queue-applied t (start_of R g p) (g ∷ p) h f
  queues-kept e r (goes t l j j' words g want w a b) h =
      let root = k.invariant.rooted t j (ap job_of w) in
      queue-applied t (go_of (R.block j.label) (pending_of (first t s.trees)) j' words g want) root.0 h root.1
  queues-kept e r (ends t l j a w f) h =
      admitted-keeps R QueuesIn (released j a) (λ g m z room. queue-founded z g) (finished R t s) (queue-finished t)

module _ (image table : List ℕ) (checked : Checked image table) where
  ok : Passed image table
  ok = (passed image table [] checked).0

  pub sound-react : (s : Machine) (e : Event) → Sound image table s → Accepted image e
      → Sound image table (react (rules_by image table) s e).state
  sound-react s e k h =
      let r = react (rules_by image table) s e in
      let d : Happens (rules_by image table) s e r = happens (rules_by image table) s e in
      let v : Valid e = accepted-valid image e h in
      record {
        invariant = invariant-react (rules_by image table) (checked-laws image table checked) s e k.invariant v;
        threads = threads-kept image table ok s k e r d;
        trees = trees-kept image table ok s k e r d h v;
        queues = queues-kept image table ok s k e r d h;
      }

  pub sound-final : (s : Machine) (l : List Event) → Sound image table s → Each (Accepted image) l
      → Sound image table (final (rules_by image table) s l)
  unfolding final
  sound-final s [] k h = k
  sound-final s (e ∷ l) k h = sound-final (react (rules_by image table) s e).state l (sound-react s e k h.0) h.1

  pub sound-fresh : (words : List ℕ) → Sound image table (fresh words)
  unfolding fresh queue
  sound-fresh words = record {
    invariant = unfold fresh in invariant-fresh (rules_by image table) (checked-laws image table checked) words;
    threads = λ t. rw (get_d-same idle thread_count t) tt;
    trees = tt;
    queues = λ t. rw (get_d-same idle thread_count t) tt;
  }

  -- ---- the same of the test

  pub fresh-is-well-formed : (words : List ℕ) → machine_ok image table (fresh words) ≡ true
  fresh-is-well-formed words = sound-ok image table (fresh words) (sound-fresh words)

  pub well-formed-stays : (s : Machine) (e : Event) → length s.threads ≡ thread_count → machine_ok image table s ≡ true → Accepted image e
      → machine_ok image table (react (rules_by image table) s e).state ≡ true
  well-formed-stays s e size m h = sound-ok image table _ (sound-react s e (sound-of image table s size m) h)

  pub well-formed-to-the-end : (s : Machine) (l : List Event) → length s.threads ≡ thread_count → machine_ok image table s ≡ true
      → Each (Accepted image) l
      → machine_ok image table (final (rules_by image table) s l) ≡ true
  well-formed-to-the-end s l size m h = sound-ok image table _ (sound-final s l (sound-of image table s size m) h)

-- of a well formed machine, as of any that has the invariant: a block whose lock the event's own thread does not hold keeps all its words
pub words-of-other-blocks : (image table : List ℕ) (s : Machine) (e : Event) (b : ℕ) → length s.threads ≡ thread_count
    → machine_ok image table s ≡ true
    → ((t : ℕ) → thread_of e ≡ some t → has (row_at table b).lock (locks_of (thread_at s t)) ≡ false)
    → window b (react (rules_by image table) s e).state.words ≡ window b s.words
words-of-other-blocks image table s e b size m n =
    words-of-other-blocks-stay (rules_by image table) s (sound-of image table s size m).invariant e b n
