-- Nobody else is touched: what an event of thread t leaves as it was, whatever the rules.
use Rattle.std.specs.Prelude.{◌≡◌, refl, false, ◌≢◌, ◌⊎◌, List, [], ◌∷◌, ◌++◌, ℕ}
use Rattle.std.proofs.Common.{sym, ap, ◌∙◌, true≢false, inl, inr, get_or-set_other}
use Rattle.std.proofs.Math.Option.{some}
use mathlib.Core.List.Memᴰ
use Rattle.rules.specs.Bytes.{has}
use Rattle.rules.specs.Machine.{Signal, Tree, Job, idle, running, Machine, thread_at, locks_of, job_of, put, window}
use Rattle.rules.specs.Events.{Event, arrive, thread_of}
use Rattle.rules.specs.Steps.{Rules, Reply, founded, finished, admitted, react}
use Rattle.lemmas_rules.specs.Logic.{never}
use Rattle.lemmas_rules.specs.Words.{window-keep-other}
use Rattle.lemmas_rules.specs.Admitted.{admitted-words, admitted-threads}
use Rattle.lemmas_invariant.specs.Invariant.{Invariant}
use Rattle.rules.specs.declared.answer.Answer.{Answer}
use Rattle.lemmas_invariant.specs.Happens.{released, EndsWith, Happens, remains, founds, starts, goes, ends, happens}

module _ (R : Rules) (s : Machine) where
  -- ---- the threads: only the event's own thread may change

  thread-kept : (u : ℕ) (e : Event) (r : Reply) → Happens R s e r → thread_of e ≢ some u → thread_at r.state u ≡ thread_at s u
  thread-kept u e r (remains f a q) n = refl
  thread-kept u e r (founds g room) n = refl
  thread-kept u e r (starts t g p w f b) n = get_or-set_other s.threads t u _ idle (λ k. n (ap some (sym k)))
  thread-kept u e r (goes t l j j' words g want w a b) n = get_or-set_other s.threads t u _ idle (λ k. n (ap some (sym k)))
  thread-kept u e r (ends t l j a w f) n =
      rw (admitted-threads R (released j a) (finished R t s)) (get_or-set_other s.threads t u idle idle (λ k. n (ap some (sym k))))

  pub other-threads-stay : (e : Event) (u : ℕ) → thread_of e ≢ some u → thread_at (react R s e).state u ≡ thread_at s u
  other-threads-stay e u n = thread-kept u e (react R s e) (happens R s e) n

  -- ---- the shared words: a block whose lock the event's own thread does not hold keeps all its words

  abbrev Locked : Event → ℕ → Type 0
  Locked e b = (t : ℕ) → thread_of e ≡ some t → has (R.lock b) (locks_of (thread_at s t)) ≡ false

  block-kept : Invariant R s → (b : ℕ) (e : Event) (r : Reply) → Happens R s e r → Locked e b
      → window b r.state.words ≡ window b s.words
  block-kept i b e r (remains f a q) n = refl
  block-kept i b e r (founds g room) n = refl
  block-kept i b e r (starts t g p w f k) n = refl
  block-kept i b e r (goes t l j j' words g want w a k) n =
      window-keep-other (R.block j.label) b words s.words
      (λ c. true≢false (sym (i.keeps t j (ap job_of w) (R.block j.label) (Memᴰ.head refl)) ∙ rw c at (n t refl)))
  block-kept i b e r (ends t l j a w f) n = ap (window b) (admitted-words R (released j a) (finished R t s))

  pub words-of-other-blocks-stay : Invariant R s → (e : Event) (b : ℕ)
      → ((t : ℕ) → thread_of e ≡ some t → has (R.lock b) (locks_of (thread_at s t)) ≡ false)
      → window b (react R s e).state.words ≡ window b s.words
  words-of-other-blocks-stay i e b n = block-kept i b e (react R s e) (happens R s e) n

  -- and so does every block but that of its job's label, whatever locks it holds: a job writes only where it is
  abbrev pub Elsewhere : Event → ℕ → Type 0
  Elsewhere e b = (t : ℕ) (j : Job) → thread_of e ≡ some t → job_of (thread_at s t) ≡ some j → R.block j.label ≢ b

  pub elsewhere-kept : (b : ℕ) (e : Event) (r : Reply) → Happens R s e r → Elsewhere e b → window b r.state.words ≡ window b s.words
  elsewhere-kept b e r (remains f a q) n = refl
  elsewhere-kept b e r (founds g room) n = refl
  elsewhere-kept b e r (starts t g p w f k) n = refl
  elsewhere-kept b e r (goes t l j j' words g want w a k) n =
      window-keep-other (R.block j.label) b words s.words (λ c. n t j refl (ap job_of w) (sym c))
  elsewhere-kept b e r (ends t l j a w f) n = ap (window b) (admitted-words R (released j a) (finished R t s))

  -- ---- the trees

  -- an arrival changes the list's end and nothing else
  pub record Arrived (g : Signal) (s' : Machine) : Type 0 where
    pub words : s'.words ≡ s.words
    pub threads : s'.threads ≡ s.threads
    pub trees : (s'.trees ≡ s.trees) ⊎ (s'.trees ≡ s.trees ++ founded R g ∷ [])

  arrived : (g : Signal) (e : Event) (r : Reply) → Happens R s e r → e ≡ arrive g → Arrived g r.state
  arrived g e r (remains f a q) h = record { words = refl; threads = refl; trees = inl refl }
  arrived g e r (founds k room) h = let q : k ≡ g = cc in record { words = refl; threads = refl; trees = inr (rw q refl) }
  arrived g e r (starts t k p w f b) h = never (cc)
  arrived g e r (goes t l j j' words k want w a b) h = never (cc)
  arrived g e r (ends t l j a w f) h = never (cc)

  pub an-arrival-changes-the-end : (g : Signal) → Arrived g (react R s (arrive g)).state
  an-arrival-changes-the-end g = arrived g (arrive g) (react R s (arrive g)) (happens R s (arrive g)) refl

  -- an event of thread t, answered a, leaves the list as it was, gives t's first tree other signals, or takes it from its place to the
  -- list's end, where at an EXIT the trees come behind it that the signals of the job found
  pub data Changed (t : ℕ) (a : Answer) : List Tree → Type 0 where
    same : Changed t a s.trees
    given : (p : List Signal) → Changed t a (put t (some p) s.trees)
    taken : (locks : ℕ) (j : Job) → thread_at s t ≡ running locks j → EndsWith R s t j a
        → Changed t a (admitted R (released j a) (finished R t s)).trees

  changed : (t : ℕ) (e : Event) (r : Reply) → Happens R s e r → thread_of e ≡ some t → Changed t r.answer r.state.trees
  changed t e r (remains f a q) h = same
  changed t e r (founds g room) h = never (cc)
  changed t e r (starts u g p w f b) h = let q : u ≡ t = cc in rw q (given p)
  changed t e r (goes u l j j' words g want w a b) h = let q : u ≡ t = cc in rw q (given _)
  changed t e r (ends u l j a w f) h = let q : u ≡ t = cc in rw q (taken l j (rw q at w) (rw q at f))

  pub only-the-first-tree-changes : (e : Event) (t : ℕ) → thread_of e ≡ some t → Changed t (react R s e).answer (react R s e).state.trees
  only-the-first-tree-changes e t h = changed t e (react R s e) (happens R s e) h
