-- Whom a thread waits for is another thread, which holds the lock that it asks for.
use Rattle.std.specs.Prelude.{◌≡◌, ◌≢◌, ◌⊎◌, Bool, cond, ℕ, zero, suc, ◌<◌, length, get_or, set}
use Rattle.std.proofs.Math.Path.{refl}
use Rattle.std.proofs.Common.{sym, ◌∙◌, inl, inr, arith, get_or-set_other}
use Rattle.std.proofs.Math.Bool.{true, false, true≢false}
use Rattle.std.proofs.Math.Option.{Option, none, some, map}
use mathlib.Core.List.{List, [], ◌∷◌}
use Rattle.std.proofs.Math.ListN.{length-set}
use Rattle.rules.specs.Sorts
use Rattle.rules.specs.Sizes.{thread_count}
use Rattle.rules.specs.Bytes.{has}
use Rattle.rules.specs.Machine.{Signal, ThreadState, idle, running, Machine, thread_at, locks_of, first}
use Rattle.rules.specs.Steps.{Rules, Effect, traps, exits, moves, Move, plan_idle, plan_running, plan_step}
use Rattle.rules.specs.Steps.{plan, held, blocked, attempt, carry, react}
use Rattle.rules.specs.Walk.{next_turn, asked, holder, awaits, walk_from}
use Rattle.rules.specs.declared.answer.Answer.{Answer}
use Rattle.rules.specs.declared.answer.Answer.TheVariants.{Taken, ListFull, NoWork, Waiting, Started, Moved, Exited, Trapped, WasCut}
use Rattle.rules.specs.declared.answer.Answer.TheVariants.{NothingToCut}
use Rattle.lemmas_rules.specs.Sets.{has-none}
use Rattle.lemmas_rules.specs.Locks.{get_d-set-idle}
use Rattle.lemmas_rules.specs.Logic.{never, or_cases}
use Rattle.lemmas_walk.specs.Walked.{Walked, walked}

module _ (R : Rules) where
  -- ---- what the answer to a turn says

  abbrev pub Turned : Machine → ℕ → Answer → Type 0
  Turned s t Taken = ⊥
  Turned s t ListFull = ⊥
  Turned s t NoWork = (thread_at s t ≡ idle) × ((p : List Signal) → first t s.trees ≡ some p → p ≡ [])
  Turned s t (Waiting l) = held l.0 (set s.threads t idle) ≡ true
  Turned s t Started = Unit {0}
  Turned s t Moved = Unit {0}
  Turned s t (Exited n) = Unit {0}
  Turned s t (Trapped r) = Unit {0}
  Turned s t WasCut = ⊥
  Turned s t NothingToCut = ⊥

  turned-blocked : (s : Machine) (t : ℕ) (m : Move) (b : ℕ) (h : Bool) → held (R.lock b) (set s.threads t idle) ≡ h
      → Turned s t m.answer
      → Turned s t (attempt R t m s (cond h (some (R.lock b)) none)).answer
  unfolding attempt
  turned-blocked s t m b true e k = e
  turned-blocked s t m b false e k = k

  turned_move : (s : Machine) (t : ℕ) (m : Move) (w : Option ℕ) → Turned s t m.answer
      → Turned s t (attempt R t m s (blocked R t s.threads w)).answer
  unfolding attempt blocked
  turned_move s t m none k = k
  turned_move s t m (some b) k = turned-blocked s t m b _ refl k

  turned-idle : (s : Machine) (t : ℕ) (f : Option (List Signal)) → thread_at s t ≡ idle → first t s.trees ≡ f
      → Turned s t (carry R s (plan_idle R t f)).answer
  unfolding carry plan_idle
  turned-idle s t none i e = (i, λ p h. never (cc))
  turned-idle s t (some []) i e = (i, λ p h. cc)
  turned-idle s t (some (g ∷ q)) i e = turned_move s t _ _ tt

  turned-running : (s : Machine) (t b : ℕ) (p gs : List Signal) (e : Effect) → Turned s t (carry R s (plan_running t b p gs e)).answer
  unfolding carry plan_running
  turned-running s t b p gs (traps r) = tt
  turned-running s t b p gs exits = tt
  turned-running s t b p gs (moves j ws o w) = turned_move s t _ w tt

  pub turned : (s : Machine) (t : ℕ) → Turned s t (react R s (next_turn s t)).answer
  turned s t = case (thread_at s t) refl
    where
      case : (w : ThreadState) → thread_at s t ≡ w → Turned s t (react R s (next_turn s t)).answer
      case idle e = unfold react plan plan_step in rw e (turned-idle s t _ e refl)
      case (running l j) e = unfold react plan plan_step in rw e (turned-running s t _ _ _ _)

-- ---- the holder

abbrev pub runs : ThreadState → Bool
runs idle = false
runs (running l j) = true

-- a thread that holds a lock runs
pub holds-runs : (l : ℕ) (w : ThreadState) → has l (locks_of w) ≡ true → runs w ≡ true
holds-runs l idle h = absurd (true≢false (sym h ∙ has-none l))
holds-runs l (running k j) h = refl

abbrev Held : ℕ → List ThreadState → ℕ → Type 0
Held l ws k = (k < length ws) × (has l (locks_of (get_or ws k idle)) ≡ true)

pub holder-holds : (l : ℕ) (ws : List ThreadState) (k : ℕ) → has l (locks_of (get_or ws k idle)) ≡ true → Held l ws (holder l ws)
unfolding holder
holder-holds l [] k h = absurd (true≢false (sym h ∙ has-none l))
holder-holds l (w ∷ ws) zero h = rw h (omega arith, h)
holder-holds l (w ∷ ws) (suc k) h = case (has l (locks_of w)) refl (holder-holds l ws k h)
  where
    case : (b : Bool) → has l (locks_of w) ≡ b → Held l ws (holder l ws) → Held l (w ∷ ws) (cond b 0 (suc (holder l ws)))
    case true e ih = (omega arith, e)
    case false e ih = (omega arith, ih.1)

module _ (R : Rules) where
  -- a lock that is held has a thread that holds it
  held-some : (l : ℕ) (ws : List ThreadState) → held l ws ≡ true → (k : ℕ) × (has l (locks_of (get_or ws k idle)) ≡ true)
  unfolding held
  held-some l [] h = never (cc)
  held-some l (w ∷ ws) h = case (or_cases _ _ h) (held-some l ws)
    where
      case : (has l (locks_of w) ≡ true) ⊎ (held l ws ≡ true) → (held l ws ≡ true → (k : ℕ) × (has l (locks_of (get_or ws k idle)) ≡ true))
          → (k : ℕ) × (has l (locks_of (get_or (w ∷ ws) k idle)) ≡ true)
      case (inl e) ih = (0, e)
      case (inr e) ih = (suc (ih e).0, (ih e).1)

  -- a thread waits for another: its next step would be answered 4 with a lock that the other holds
  pub record Awaited (s : Machine) (t u : ℕ) : Type 0 where
    pub lock : ℕ
    pub answer : (react R s (next_turn s t)).answer ≡ Waiting (Sorts.lock lock)
    pub holds : has lock (locks_of (thread_at s u)) ≡ true
    pub inside : u < length s.threads
    pub other : u ≢ t

  pub awaited : (s : Machine) (t u : ℕ) → awaits R s t ≡ some u → Awaited s t u
  unfolding awaits
  awaited s t u e = case (react R s (next_turn s t)).answer refl (turned R s t) e
    where
      from : (l : ℕ) → (react R s (next_turn s t)).answer ≡ Waiting (Sorts.lock l) → held l (set s.threads t idle) ≡ true
          → u ≡ holder l (set s.threads t idle) → Awaited s t u
      from l a h q =
          let k = held-some l (set s.threads t idle) h in
          let f = rw (← q) at (holder-holds l (set s.threads t idle) k.0 k.1) in
          let o : u ≢ t = λ z. true≢false (sym f.1 ∙ rw (z, get_d-set-idle s.threads t) (has-none l)) in
          record {
            lock = l;
            answer = a;
            holds = rw (get_or-set_other s.threads t u idle idle o) at f.1;
            inside = rw length-set at f.0;
            other = o;
          }

      case : (a : Answer) → (react R s (next_turn s t)).answer ≡ a → Turned R s t a
          → map (λ l. holder l (set s.threads t idle)) (asked a) ≡ some u → Awaited s t u
      case Taken p h q = never (cc)
      case ListFull p h q = never (cc)
      case NoWork p h q = never (cc)
      case (Waiting l) p h q = from l.0 p h (cc)
      case Started p h q = never (cc)
      case Moved p h q = never (cc)
      case (Exited n) p h q = never (cc)
      case (Trapped r) p h q = never (cc)
      case WasCut p h q = never (cc)
      case NothingToCut p h q = never (cc)

  -- so it runs, and is one of the eight
  pub awaits-runs : (s : Machine) (t u : ℕ) → awaits R s t ≡ some u → runs (thread_at s u) ≡ true
  awaits-runs s t u e = let h = awaited s t u e in holds-runs h.lock (thread_at s u) h.holds

  pub awaits-inside : (s : Machine) → length s.threads ≡ thread_count → (t u : ℕ) → awaits R s t ≡ some u → u < thread_count
  awaits-inside s n t u e = let h = awaited s t u e in omega (arith, h.inside)

  -- nobody waits for itself
  pub awaits-other : (s : Machine) (t u : ℕ) → awaits R s t ≡ some u → u ≢ t
  awaits-other s t u e = (awaited s t u e).other

  -- the walk over any machine of eight threads
  pub walk-right : (s : Machine) (t : ℕ) → length s.threads ≡ thread_count → t < thread_count
      → Walked (awaits R s) thread_count t (walk_from R s t)
  unfolding walk_from
  walk-right s t n h = walked (awaits R s) thread_count (awaits-inside s n) t h
