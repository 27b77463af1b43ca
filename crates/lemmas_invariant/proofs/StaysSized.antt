-- The counts stay within the limits: 256 words, 8 threads, 8 return labels and 25 registers a thread, 16 trees, 8 pending signals a
-- tree, 4 held signals a job, 25 values a signal; and no running thread is at label 65,535. So the state's bytes always have room for
-- the machine.
use Rattle.std.specs.Prelude.{◌≡◌, refl, true, ℕ, zero, suc, ◌+◌, ◌*◌, ◌≤◌, ◌<◌, length, replicate}
use Rattle.std.proofs.Common.{sym, ap, ◌∙◌, subst, arith, length-append, length-set, ltb-true}
use Rattle.std.proofs.Math.Option.{Option, none, some}
use mathlib.Core.List.{List, [], ◌∷◌, ◌++◌, append-nil}
use Rattle.std.proofs.lemmas.List.{length-map}
use Rattle.rules.specs.Sizes.{thread_count, block_count, word_count, tree_count, pending_count, held_count, idle_label}
use Rattle.rules.specs.Machine.{Signal, Tree, Job, idle, running, Machine, thread_at, fresh, first, put, tree_threads, stores, keep}
use Rattle.rules.specs.Events.{Event}
use Rattle.rules.specs.Steps.{Rules, Effect, Reply, begin, added, pending_of, founded, admits, requeued, rules_by, grown, finished, react}
use Rattle.rules.specs.Steps.{final}
use Rattle.rules.specs.Check.{Checked}
use Rattle.bytes_fields.specs.Each.{Each, each_at, each_set, each_append}
use Rattle.lemmas_rules.specs.Passed.{Passed, passed}
use Rattle.lemmas_rules.specs.Trees.{threads-put}
use Rattle.lemmas_rules.specs.Admitted.{admitted-keeps, admitted-words, admitted-threads}
use Rattle.lemmas_encoding.specs.Sized.{SizedJob, SizedThread, SizedSignal, SizedSignals, SizedTree, Sized}
use Rattle.rules.specs.declared.answer.Answer.{Answer}
use Rattle.lemmas_invariant.specs.Happens.{effect_of, released, released-has, Happens, remains, founds, starts, goes, ends, happens}
use Rattle.lemmas_invariant.specs.Queues.{Place, place, FirstHas, first-has, put-each}
use Rattle.lemmas_invariant.specs.Places.{put-missing}
use Rattle.lemmas_invariant.proofs.Places.{requeued-one}
use Rattle.lemmas_invariant.specs.Members.{each_member}
use Rattle.lemmas_invariant.specs.Sound.{PlaceIn, JobIn, ThreadIn, Sound}
use Rattle.lemmas_invariant.specs.StatementLimits.{length-fill, SignalSized, EffectSized, one_more, labels-limit}
use Rattle.lemmas_invariant.proofs.StatementLimits.{act-sized}
use Rattle.lemmas_invariant.specs.StaysWellFormed.{Accepted}
use Rattle.lemmas_invariant.proofs.StaysWellFormed.{effect-in, start-in, sound-react}

-- ---- words

length-stores : (n i : ℕ) (vs ws : List ℕ) → length (stores n i vs ws) ≡ length ws
unfolding stores
length-stores zero i vs ws = refl
length-stores (suc n) i [] ws = refl
length-stores (suc n) i (v ∷ vs) ws = length-set (stores n (suc i) vs ws) i v ∙ length-stores n (suc i) vs ws

pub length-keep : (b : ℕ) (vs ws : List ℕ) → length (keep b vs ws) ≡ length ws
unfolding keep
length-keep b vs ws = length-stores word_count (word_count * b) vs ws

-- ---- trees

abbrev FirstSized : Option (List Signal) → Type 0
FirstSized o = FirstHas SizedTree (SizedSignals pending_count) o

first-sized : (t : ℕ) (l : List Tree) → Each SizedTree l → FirstSized (first t l)
first-sized = first-has SizedTree (SizedSignals pending_count) (λ x h. h)

put-sized : (t : ℕ) (o : Option (List Signal)) (l : List Tree) → FirstSized o → Each SizedTree l → Each SizedTree (put t o l)
put-sized t = put-each SizedTree (SizedSignals pending_count) t (λ p h. h)

length-put : (t : ℕ) (p : List Signal) (l : List Tree) → length (put t (some p) l) ≡ length l
length-put t p l =
    sym (length-map (put t (some p) l) (λ (x : Tree). x.thread)) ∙ ap length (threads-put t p l) ∙ length-map l (λ (x : Tree). x.thread)

none-sized : (n : ℕ) → SizedSignals n []
none-sized n = record { count = omega arith; each = tt }

pending-sized : (o : Option (List Signal)) → FirstSized o → SizedSignals pending_count (pending_of o)
pending-sized none h = none-sized pending_count
pending-sized (some p) h = h

added-sized : (p : List Signal) (o : Option Signal) → SizedSignals pending_count p → SignalSized pending_count (length p) o
    → SizedSignals pending_count (p ++ added o)
added-sized p none h k = rw (append-nil p) h
added-sized p (some g) h k = one_more pending_count p g h k

module _ (R : Rules) where
  requeued-sized : (o : Option (List Signal)) → FirstSized o → Each SizedTree (requeued R o)
  requeued-sized none h = tt
  requeued-sized (some []) h = tt
  requeued-sized (some (g ∷ p)) h = (h, tt)

  -- an ended job's tree leaves the list before it comes to its end
  length-finished : (t : ℕ) (l : List Tree) → length (put t none l ++ requeued R (first t l)) ≤ length l
  length-finished t l = case (first t l) refl
    where
      case : (o : Option (List Signal)) → first t l ≡ o → length (put t none l ++ requeued R o) ≤ length l
      case none f = rw ((put-missing t none l f).0, append-nil l) (omega arith)
      case (some p) f =
          let k : Place t l = place t l p f in
          let a : length l ≡ length k.before + suc (length k.after) =
          ap length k.whole ∙ length-append k.before (k.own ∷ k.after)
          in
          let b : length (put t none l) ≡ length k.before + length k.after =
          ap length (k.changed none) ∙ length-append k.before k.after
          in
          rw (length-append (put t none l) (requeued R (some p))) (omega (arith, requeued-one R (some p)))

-- ---- every event

module _ (image table : List ℕ) (ok : Passed image table) (s : Machine) (k : Sound image table s) (z : Sized s) where
  abbrev R : Rules
  R = rules_by image table

  -- a label where a thread may be is not the one that says idle
  label-limit : (t l : ℕ) → PlaceIn image table t l → l ≡ idle_label → ⊥
  label-limit t l p e = absurd (omega (arith, p.below, labels-limit image))

  firsts : (t : ℕ) → FirstSized (first t s.trees)
  firsts t = first-sized t s.trees z.each_tree

  job-sized : (t locks : ℕ) (j : Job) → t < thread_count → thread_at s t ≡ running locks j → SizedJob j
  job-sized t locks j v w = subst SizedThread w (each_at SizedThread s.threads t idle z.each_thread (rw z.threads v))

  -- what the statement of a running thread leaves
  effect-sized : (t locks : ℕ) (j : Job) (e : Effect) → t < thread_count → thread_at s t ≡ running locks j
      → effect_of R s t j ≡ e
      → EffectSized (length (pending_of (first t s.trees))) e
  effect-sized t locks j e v w a =
      let p : JobIn image table t j = subst (ThreadIn image table t) w (k.threads t) in
      subst (EffectSized _) a (act-sized image table ok t j _ _ p.places.0.below (job-sized t locks j v w))

  -- the signals that found trees when a job ends
  held-sized : (t locks : ℕ) (j : Job) (a : Answer) → t < thread_count → thread_at s t ≡ running locks j → Each SizedSignal (released j a)
  held-sized t locks j a v w = released-has SizedSignal j a (job-sized t locks j v w).held.each

  words-kept : (e : Event) (r : Reply) → Happens R s e r → length r.state.words ≡ block_count * word_count
  words-kept e r (remains f a q) = z.words
  words-kept e r (founds g room) = z.words
  words-kept e r (starts t g p w f b) = z.words
  words-kept e r (goes t l j j' words g want w a b) = length-keep (R.block j.label) words s.words ∙ z.words
  words-kept e r (ends t l j a w f) = ap length (admitted-words R (released j a) (finished R t s)) ∙ z.words

  threads-count : (e : Event) (r : Reply) → Happens R s e r → length r.state.threads ≡ thread_count
  threads-count e r (remains f a q) = z.threads
  threads-count e r (founds g room) = z.threads
  threads-count e r (starts t g p w f b) = length-set s.threads t _ ∙ z.threads
  threads-count e r (goes t l j j' words g want w a b) = length-set s.threads t _ ∙ z.threads
  threads-count e r (ends t l j a w f) =
      ap length (admitted-threads R (released j a) (finished R t s)) ∙ length-set s.threads t _ ∙ z.threads

  -- 16 trees leave no room for another
  count-founded : (y : Machine) (g : Signal) → admits R y.trees g ≡ true → length (grown (founded R g) y).trees ≤ tree_count
  count-founded y g room =
      rw (length-append y.trees (founded R g ∷ []))
      (omega (arith, ltb-true (length (tree_threads y.trees)) tree_count room, length-map y.trees (λ (x : Tree). x.thread)))

  trees-count : (e : Event) (r : Reply) → Happens R s e r → length r.state.trees ≤ tree_count
  trees-count e r (remains f a q) = z.trees
  trees-count e r (founds g room) = count-founded s g room
  trees-count e r (starts t g p w f b) = rw (length-put t p s.trees) z.trees
  trees-count e r (goes t l j j' words g want w a b) = rw (length-put t (pending_of (first t s.trees) ++ added g) s.trees) z.trees
  trees-count e r (ends t l j a w f) =
      admitted-keeps R (λ (y : Machine). length y.trees ≤ tree_count) (released j a) (λ g m y room h. count-founded y g room)
      (finished R t s)
      (omega (arith, length-finished R t s.trees, z.trees))

  threads-sized : (e : Event) (r : Reply) → Happens R s e r → Accepted image e → Each SizedThread r.state.threads
  threads-sized e r (remains f a q) v = z.each_thread
  threads-sized e r (founds g room) v = z.each_thread
  threads-sized e r (starts t g p w f b) v =
      let h : SizedSignals pending_count (g ∷ p) = subst FirstSized f (firsts t) in
      each_set SizedThread s.threads t (running _ (begin g)) z.each_thread (record {
        label = label-limit t g.label (start-in image table ok s k t g p w f);
        returns = omega arith;
        registers = length-fill g.values h.each.0;
        held = none-sized held_count;
      })
  threads-sized e r (goes t l j j' words g want w a b) v =
      let h = effect-sized t l j _ v w a in
      each_set SizedThread s.threads t (running _ j') z.each_thread (record {
        label = label-limit t j'.label (effect-in image table ok s k t l j _ w a).0.places.0;
        returns = h.1;
        registers = h.0;
        held = h.2;
      })
  threads-sized e r (ends t l j a w f) v =
      rw (admitted-threads R (released j a) (finished R t s)) (each_set SizedThread s.threads t idle z.each_thread tt)

  tree-founded : (y : Machine) (g : Signal) → SizedSignal g → Each SizedTree y.trees → Each SizedTree (grown (founded R g) y).trees
  tree-founded y g h e = each_append SizedTree y.trees (founded R g ∷ []) e (record { count = omega arith; each = (h, tt) }, tt)

  trees-sized : (e : Event) (r : Reply) → Happens R s e r → Accepted image e → Each SizedTree r.state.trees
  trees-sized e r (remains f a q) v = z.each_tree
  trees-sized e r (founds g room) v = tree-founded s g v.1 z.each_tree
  trees-sized e r (starts t g p w f b) v =
      let h : SizedSignals pending_count (g ∷ p) = subst FirstSized f (firsts t) in
      put-sized t (some p) s.trees (record { count = omega (arith, h.count); each = h.each.1 }) z.each_tree
  trees-sized e r (goes t l j j' words g want w a b) v =
      put-sized t (some (pending_of (first t s.trees) ++ added g)) s.trees
      (added-sized (pending_of (first t s.trees)) g (pending-sized (first t s.trees) (firsts t)) (effect-sized t l j _ v w a).3)
      z.each_tree
  trees-sized e r (ends t l j a w f) v =
      admitted-keeps R (λ (y : Machine). Each SizedTree y.trees) (released j a)
      (λ g m y room. tree-founded y g (each_member SizedSignal (released j a) (held-sized t l j a v w) g m)) (finished R t s)
      (each_append SizedTree (put t none s.trees) _ (put-sized t none s.trees tt z.each_tree)
      (requeued-sized R (first t s.trees) (firsts t)))

module _ (image table : List ℕ) (checked : Checked image table) where
  ok : Passed image table
  ok = (passed image table [] checked).0

  pub sized-react : (s : Machine) (e : Event) → Sound image table s → Sized s → Accepted image e
      → Sized (react (rules_by image table) s e).state
  sized-react s e k z h =
      let r = react (rules_by image table) s e in
      let d : Happens (rules_by image table) s e r = happens (rules_by image table) s e in
      record {
        words = words-kept image table ok s k z e r d;
        threads = threads-count image table ok s k z e r d;
        trees = trees-count image table ok s k z e r d;
        each_thread = threads-sized image table ok s k z e r d h;
        each_tree = trees-sized image table ok s k z e r d h;
      }

  pub sized-final : (s : Machine) (l : List Event) → Sound image table s → Sized s → Each (Accepted image) l
      → Sized (final (rules_by image table) s l)
  unfolding final
  sized-final s [] k z h = z
  sized-final s (e ∷ l) k z h =
      sized-final (react (rules_by image table) s e).state l (sound-react image table checked s e k h.0) (sized-react s e k z h.0)
      h.1

each-idle : (n : ℕ) → Each SizedThread (replicate n idle)
each-idle zero = tt
each-idle (suc n) = (tt, each-idle n)

pub sized_fresh : (words : List ℕ) → length words ≡ block_count * word_count → Sized (fresh words)
unfolding fresh
sized_fresh words h = record { words = h; threads = refl; trees = omega arith; each_thread = each-idle thread_count; each_tree = tt }
