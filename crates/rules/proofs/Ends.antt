-- What holds of every event, by any rules: an end clears its own thread to idle; no other answer releases a lock; and a thread
-- that runs starts nothing.
use mathlib.Core.Path.{◌≡◌, refl, ap, ◌∙◌}
use mathlib.Core.Bool.{Bool, true, false, cond, false≢true}
use mathlib.Core.Option.{Option, none, some}
use mathlib.Core.List.{List, [], ◌∷◌}
use Prim.Native.Nat.{ℕ, zero, suc, ◌^◌, ◌/◌, ◌%◌}
use native.Mathlib.Omega.{arith}
use lib.Bits.{bit_or, or_shr, or_step}
use lib.ListN.{get_or, set}
use borrow.Author.Tests.{eqb-true, eq-eqb}
use Rattle.rules.specs.Bytes.{has}
use Rattle.rules.specs.Machine.{Signal, Job, ThreadState, idle, running, Machine, thread_at, locks_of}
use Rattle.rules.specs.Answers.{close, sort}
use Rattle.rules.specs.Events.{Kind, stepping, cutting, Event, arrive, turn, step, cut, thread_of}
use Rattle.rules.specs.Steps.{Effect, traps, exits, moves, Rules, Move, Plan, stay, grow, move, finish, exiting, admits, plan_arrive}
use Rattle.rules.specs.Steps.{plan_idle, plan_running, plan_step, plan_cut, plan_turn, plan, blocked, grant, grown, finished, admit}
use Rattle.rules.specs.Steps.{admitted, attempt, carry, react, founded}
use Rattle.rules.specs.declared.answer.Answer.TheVariants.{ListFull, Started, Trapped, WasCut}

-- ---- one thread of the list is set

-- a thread that is set to idle is idle, in the list or past it
set-idle : (ws : List ThreadState) (t : ℕ) → get_or (set ws t idle) t idle ≡ idle
set-idle [] t = refl
set-idle (w ∷ ws) zero = refl
set-idle (w ∷ ws) (suc t) = set-idle ws t

-- a lock that a set has, it has beside others too
has-or : (l a b : ℕ) → has l a ≡ true → has l (bit_or a b) ≡ true
has-or l a b h =
    eq-eqb (bit_or a b / 2 ^ l % 2) 1 (rw (or_shr a b l) (omega (arith, or_step (a / 2 ^ l) (b / 2 ^ l), eqb-true (a / 2 ^ l % 2) 1 h)))

set-locks : (ws : List ThreadState) (t u l : ℕ) (w : ThreadState) → (has l (locks_of (get_or ws t idle)) ≡ true → has l (locks_of w) ≡ true)
    → has l (locks_of (get_or ws u idle)) ≡ true → has l (locks_of (get_or (set ws t w) u idle)) ≡ true
set-locks [] t u l w f h = h
set-locks (v ∷ ws) zero zero l w f h = f h
set-locks (v ∷ ws) zero (suc u) l w f h = h
set-locks (v ∷ ws) (suc t) zero l w f h = h
set-locks (v ∷ ws) (suc t) (suc u) l w f h = set-locks ws t u l w f h

-- ---- what an event is to do

-- of an event that names this thread: a plan to finish has the answer of an end, and ends the thread; no other plan has such an answer
abbrev Ends : Option ℕ → Plan → Type 0
Ends o (stay a) = sort a ≡ close → ⊥
Ends o (grow x) = Unit {0}
Ends o (move t m) = sort m.answer ≡ close → ⊥
Ends o (finish t a) = (sort a ≡ close) × (o ≡ some t)
Ends o (exiting t gs) = o ≡ some t

module _ (R : Rules) where
  arrive-ends : (g : Signal) (room : Bool) → Ends none (cond room (grow (founded R g)) (stay ListFull))
  arrive-ends g true = tt
  arrive-ends g false = λ e. absurd (false≢true (cc))

  idle-ends : (t : ℕ) (f : Option (List Signal)) → Ends (some t) (plan_idle R t f)
  unfolding plan_idle
  idle-ends t none = λ e. absurd (false≢true (cc))
  idle-ends t (some []) = λ e. absurd (false≢true (cc))
  idle-ends t (some (g ∷ p)) = λ e. absurd (false≢true (cc))

  running-ends : (t b : ℕ) (p gs : List Signal) (x : Effect) → Ends (some t) (plan_running t b p gs x)
  unfolding plan_running
  running-ends t b p gs (traps r) = (refl, refl)
  running-ends t b p gs exits = refl
  running-ends t b p gs (moves j words g want) = λ e. absurd (false≢true (cc))

  step-ends : (t : ℕ) (w : ThreadState) (f : Option (List Signal)) (words : List ℕ) → Ends (some t) (plan_step R t w f words)
  unfolding plan_step
  step-ends t idle f words = idle-ends t f
  step-ends t (running locks j) f words = running-ends t _ _ _ _

  cut-ends : (t : ℕ) (w : ThreadState) → Ends (some t) (plan_cut t w)
  unfolding plan_cut
  cut-ends t idle = λ e. absurd (false≢true (cc))
  cut-ends t (running locks j) = (refl, refl)

  turn-ends : (k : Kind) (t : ℕ) (w : ThreadState) (f : Option (List Signal)) (words : List ℕ) → Ends (some t) (plan_turn R k t w f words)
  turn-ends stepping t w f words = step-ends t w f words
  turn-ends cutting t w f words = cut-ends t w

  plan-ends : (s : Machine) (e : Event) → Ends (thread_of e) (plan R s e)
  unfolding plan plan_arrive
  plan-ends s (arrive g) = arrive-ends g (admits R s.trees g)
  plan-ends s (turn k t) = turn-ends k t _ _ _

  -- ---- and its doing

  -- the signals that found trees change no thread
  admit-threads : (c : Bool) (g : Signal) (s : Machine) → (cond c (grown (founded R g) s) s).threads ≡ s.threads
  admit-threads true g s = refl
  admit-threads false g s = refl

  admitted-threads : (gs : List Signal) (s : Machine) → (admitted R gs s).threads ≡ s.threads
  unfolding admitted
  admitted-threads [] s = refl
  admitted-threads (g ∷ gs) s = admitted-threads gs (admit R g s) ∙ admit-threads (admits R s.trees g) g s

  waiting-ends : (s : Machine) (t : ℕ) (m : Move) (o : Option ℕ) → (sort m.answer ≡ close → ⊥)
      → sort (attempt R t m s o).answer ≡ close → ⊥
  unfolding attempt
  waiting-ends s t m none n c = n c
  waiting-ends s t m (some l) n c = absurd (false≢true (cc))

  carry-ends : (s : Machine) (e : Event) (t : ℕ) → thread_of e ≡ some t → (p : Plan) → Ends (thread_of e) p
      → sort (carry R s p).answer ≡ close → thread_at (carry R s p).state t ≡ idle
  unfolding carry
  carry-ends s e t h (stay a) n c = absurd (n c)
  carry-ends s e t h (grow x) n c = absurd (false≢true (cc))
  carry-ends s e t h (move u m) n c = absurd (waiting-ends s u m (blocked R u s.threads m.want) n c)
  carry-ends s e t h (finish u a) n c = let same : t ≡ u = cc (h, n.1) in rw same (set-idle s.threads u)
  carry-ends s e t h (exiting u gs) n c =
      let same : t ≡ u = cc (h, n) in
      rw same (ap (λ ws. get_or ws u idle) (admitted-threads gs (finished R u s)) ∙ set-idle s.threads u)

  -- an end of any of the three sorts clears the thread to idle
  pub ends : (s : Machine) (e : Event) (t : ℕ) → thread_of e ≡ some t → sort (react R s e).answer ≡ close
      → thread_at (react R s e).state t ≡ idle
  unfolding react
  ends s e t h c = carry-ends s e t h (plan R s e) (plan-ends s e) c

  granted : (l : ℕ) (want : Option ℕ) (locks : ℕ) → has l locks ≡ true → has l (grant R want locks) ≡ true
  granted l none locks h = h
  granted l (some b) locks h = has-or l locks (2 ^ R.lock b) h

  attempt-locks : (s : Machine) (t u l : ℕ) (m : Move) (o : Option ℕ) → has l (locks_of (thread_at s u)) ≡ true
      → has l (locks_of (thread_at (attempt R t m s o).state u)) ≡ true
  unfolding attempt
  attempt-locks s t u l m none h = set-locks s.threads t u l _ (granted l m.want (locks_of (thread_at s t))) h
  attempt-locks s t u l m (some k) h = h

  carry-locks : (s : Machine) (e : Event) (u l : ℕ) (p : Plan) → Ends (thread_of e) p → (sort (carry R s p).answer ≡ close → ⊥)
      → has l (locks_of (thread_at s u)) ≡ true → has l (locks_of (thread_at (carry R s p).state u)) ≡ true
  unfolding carry
  carry-locks s e u l (stay a) n c h = h
  carry-locks s e u l (grow x) n c h = h
  carry-locks s e u l (move t m) n c h = attempt-locks s t u l m (blocked R t s.threads m.want) h
  carry-locks s e u l (finish t a) n c h = absurd (c n.0)
  carry-locks s e u l (exiting t gs) n c h = absurd (c refl)

  -- no lock is released but at an end
  pub locks-kept : (s : Machine) (e : Event) → (sort (react R s e).answer ≡ close → ⊥)
      → (u l : ℕ) → has l (locks_of (thread_at s u)) ≡ true → has l (locks_of (thread_at (react R s e).state u)) ≡ true
  unfolding react
  locks-kept s e c u l h = carry-locks s e u l (plan R s e) (plan-ends s e) c h

  -- a running thread starts nothing
  attempt-starts : (s : Machine) (t : ℕ) (m : Move) (o : Option ℕ) → (m.answer ≡ Started → ⊥) → (attempt R t m s o).answer ≡ Started → ⊥
  unfolding attempt
  attempt-starts s t m none n e = n e
  attempt-starts s t m (some l) n e = absurd (false≢true (cc))

  running-starts : (s : Machine) (t b : ℕ) (p gs : List Signal) (x : Effect) → (carry R s (plan_running t b p gs x)).answer ≡ Started → ⊥
  unfolding plan_running carry
  running-starts s t b p gs (traps r) e = absurd (false≢true (cc))
  running-starts s t b p gs exits e = absurd (false≢true (cc))
  running-starts s t b p gs (moves j words g want) e =
      attempt-starts s t _ (blocked R t s.threads want) (λ q. absurd (false≢true (cc))) e

  pub starts-nothing : (s : Machine) (t locks : ℕ) (j : Job) → thread_at s t ≡ running locks j → (react R s (step t)).answer ≡ Started → ⊥
  unfolding react plan plan_step
  starts-nothing s t locks j h e = running-starts s t _ _ _ _ (rw h at e)

  -- ---- a trap: it drops what the job held

  attempt-traps : (s : Machine) (t r : ℕ) (m : Move) (o : Option ℕ) → (m.answer ≡ Trapped r → ⊥)
      → (attempt R t m s o).answer ≡ Trapped r → ⊥
  unfolding attempt
  attempt-traps s t r m none n e = n e
  attempt-traps s t r m (some l) n e = absurd (false≢true (cc))

  running-traps : (s : Machine) (t b r : ℕ) (p gs : List Signal) (x : Effect) → (carry R s (plan_running t b p gs x)).answer ≡ Trapped r
      → (carry R s (plan_running t b p gs x)).state ≡ finished R t s
  unfolding plan_running carry
  running-traps s t b r p gs (traps k) e = refl
  running-traps s t b r p gs exits e = absurd (false≢true (cc))
  running-traps s t b r p gs (moves j words g want) e =
      absurd (attempt-traps s t r _ (blocked R t s.threads want) (λ q. absurd (false≢true (cc))) e)

  pub trap-state : (s : Machine) (t locks r : ℕ) (j : Job) → thread_at s t ≡ running locks j → (react R s (step t)).answer ≡ Trapped r
      → (react R s (step t)).state ≡ finished R t s
  unfolding react plan plan_step
  trap-state s t locks r j h e = rw h (running-traps s t _ r _ _ _ (rw h at e))

  -- ---- a cut

  pub cut-answer : (s : Machine) (t locks : ℕ) (j : Job) → thread_at s t ≡ running locks j → (react R s (cut t)).answer ≡ WasCut
  unfolding react plan plan_cut carry
  cut-answer s t locks j h = rw h

  pub cut-state : (s : Machine) (t locks : ℕ) (j : Job) → thread_at s t ≡ running locks j → (react R s (cut t)).state ≡ finished R t s
  unfolding react plan plan_cut carry
  cut-state s t locks j h = rw h

  pub cut-idle : (s : Machine) (t locks : ℕ) (j : Job) → thread_at s t ≡ running locks j → thread_at (react R s (cut t)).state t ≡ idle
  cut-idle s t locks j h = ends s (cut t) t refl (rw (cut-answer s t locks j h))
