-- The return labels of a running job are those that its own CALLs since its start put there and its RETURNs have not taken.
use Rattle.std.specs.Prelude.{◌≡◌, refl, Bool, true, false, cond, ◌⊎◌, ℕ, zero, suc, eqb, get_or, set}
use Rattle.std.proofs.Common.{sym, ap, ◌∙◌, subst, inl, inr, get_or-set_other, eq-eqb, ne_eqb}
use mathlib.Core.List.{List, [], ◌∷◌, ◌++◌}
use Rattle.std.proofs.Math.Decide.{ℕ_discrete}
use Rattle.rules.specs.Sizes.{thread_count}
use Rattle.rules.specs.Image.{record_at, label_b}
use Rattle.rules.specs.Machine.{Job, ThreadState, idle, running, Machine, thread_at, fresh}
use Rattle.rules.specs.Events.{Event}
use Rattle.rules.specs.Answers.{out, sort}
use Rattle.rules.specs.Steps.{Rules, rules_by, Reply, finished, react, final}
use Rattle.rules.specs.declared.answer.Answer.{Answer}
use Rattle.rules.specs.declared.answer.Answer.TheVariants.{Taken, ListFull, NoWork, Waiting, Started, Moved, Exited, Trapped, WasCut}
use Rattle.rules.specs.declared.answer.Answer.TheVariants.{NothingToCut}
use Rattle.lemmas_rules.specs.Logic.{never, get_d-same}
use Rattle.lemmas_rules.specs.Admitted.{admitted-threads}
use Rattle.lemmas_invariant.specs.Happens.{Happens, remains, founds, starts, goes, ends, happens, released}
use Rattle.theorem_safety.specs.Paths.{opened, way_at, open_after, open_calls, label_of, noted, is_of, path_next, path_from, path_of}
use Rattle.theorem_safety.proofs.Returns.{Turned, EffectTurned, act-turned}

-- one more statement
open_snoc : (image rs path : List ℕ) (l : ℕ)
    → open_after image rs (path ++ l ∷ []) ≡ opened (way_at image l) (label_b (record_at image l)) (open_after image rs path)
unfolding open_after
open_snoc image rs [] l = refl
open_snoc image rs (x ∷ path) l = open_snoc image (opened (way_at image x) (label_b (record_at image x)) rs) path l

-- an event that changes nothing is not noted
quiet : (a : Answer) (w : ThreadState) (path : List ℕ) → (sort a ≡ out) ⊎ (a ≡ ListFull) → noted a w path ≡ path
quiet Taken w path h = refl
quiet ListFull w path h = refl
quiet NoWork w path h = refl
quiet (Waiting l) w path h = refl
quiet Started w path (inl h) = never (cc)
quiet Started w path (inr h) = never (cc)
quiet Moved w path (inl h) = never (cc)
quiet Moved w path (inr h) = never (cc)
quiet (Exited n) w path h = refl
quiet (Trapped r) w path h = refl
quiet WasCut w path h = refl
quiet NothingToCut w path h = refl

-- the thread that changes, wherever it stands
pub set_here : (P : ThreadState → Type 0) (ws : List ThreadState) (t : ℕ) (w : ThreadState) → P w → P idle → P (get_or (set ws t w) t idle)
set_here P [] t w h k = k
set_here P (x ∷ ws) zero w h k = h
set_here P (x ∷ ws) (suc t) w h k = set_here P ws t w h k

module _ (image table : List ℕ) (t : ℕ) where
  abbrev R : Rules
  R = rules_by image table

  -- the return labels of a running job are the open calls of its path
  abbrev Tracks : List ℕ → ThreadState → Type 0
  Tracks path idle = Unit {0}
  Tracks path (running locks j) = j.returns ≡ open_calls image path

  module _ (s : Machine) (path : List ℕ) (h : Tracks path (thread_at s t)) where
    same-path : (b : Bool) (p : List ℕ) (w : ThreadState) → p ≡ path → Tracks path w → Tracks (cond b p path) w
    same-path true p w e k = rw e k
    same-path false p w e k = k

    turn_on : (u : ℕ) (a : Answer) (w : ThreadState) → (u ≡ t → Tracks (noted a (thread_at s t) path) w)
        → Tracks (cond (eqb u t) (noted a (thread_at s t) path) path) (get_or (set s.threads u w) t idle)
    turn_on u a w k = case (ℕ_discrete u t)
      where
        case : Dec (u ≡ t) → Tracks (cond (eqb u t) (noted a (thread_at s t) path) path) (get_or (set s.threads u w) t idle)
        case (yes e) = rw (eq-eqb u t e, e) (set_here (Tracks (noted a (thread_at s t) path)) s.threads t w (k e) tt)
        case (no e) = rw (ne_eqb u t e, get_or-set_other s.threads u t w idle (λ z. e (sym z))) h

    turned_by : (locks : ℕ) (j k : Job) → thread_at s t ≡ running locks j
        → Turned (way_at image j.label) (label_b (record_at image j.label)) j.returns k
        → k.returns ≡ open_calls image (path ++ label_of (thread_at s t))
    turned_by locks j k w d =
        let r : j.returns ≡ open_calls image path = subst (Tracks path) w h in
        d.returns ∙ ap (opened (way_at image j.label) (label_b (record_at image j.label))) r ∙ sym (open_snoc image [] path j.label)
        ∙ ap (λ (x : ThreadState). open_calls image (path ++ label_of x)) (sym w)

    tracks : (e : Event) (r : Reply) → Happens R s e r → Tracks (path_next R t s e r.answer path) (thread_at r.state t)
    tracks e r (remains f a (inl q)) =
        same-path (is_of t f) (noted a (thread_at s t) path) (thread_at s t) (quiet a (thread_at s t) path (inl q)) h
    tracks e r (remains f a (inr q)) =
        same-path (is_of t f) (noted a (thread_at s t) path) (thread_at s t) (quiet a (thread_at s t) path (inr q.1)) h
    tracks e r (founds g room) = h
    tracks e r (starts u g p w f b) = turn_on u Started _ (λ z. unfold open_after in refl)
    tracks e r (goes u l j k words g want w a b) =
        turn_on u Moved _ (λ z. turned_by l j k (rw z at w) (subst (EffectTurned _ _ j.returns) a (act-turned image table u j _ _)))
    tracks e r (ends u l j a w f) = rw (admitted-threads R (released j a) (finished R u s)) (turn_on u a idle (λ z. tt))

  tracks-all : (path : List ℕ) (s : Machine) (l : List Event) → Tracks path (thread_at s t)
      → Tracks (path_from R t path s l) (thread_at (final R s l) t)
  unfolding path_from final
  tracks-all path s [] h = h
  tracks-all path s (e ∷ l) h =
      tracks-all (path_next R t s e (react R s e).answer path) (react R s e).state l (tracks s path h e (react R s e) (happens R s e))

  fresh-tracks : (words : List ℕ) → Tracks [] (thread_at (fresh words) t)
  unfolding fresh
  fresh-tracks words = rw (get_d-same idle thread_count t) tt

  -- THE RETURN LABELS OF A RUNNING JOB ARE ITS OPEN CALLS, after every list of events
  pub returns-are-open-calls : (words : List ℕ) (l : List Event) (locks : ℕ) (j : Job)
      → thread_at (final R (fresh words) l) t ≡ running locks j
      → j.returns ≡ open_calls image (path_of R t words l)
  returns-are-open-calls words l locks j w = subst (Tracks (path_of R t words l)) w (tracks-all [] (fresh words) l (fresh-tracks words))
