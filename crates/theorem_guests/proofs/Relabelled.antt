-- Two sets of rules, of which the second says of label l + d what the first says of label l, for every l below n. Then an event with its
-- labels shifted by d does by the second rules, to a machine with its labels shifted, what the event does by the first to the machine.
use Rattle.std.specs.Prelude.{◌≡◌, Bool, ℕ, set}
use Rattle.std.proofs.Math.Path.{refl, ap}
use Rattle.std.proofs.Common.{sym, ap₂, ◌∙◌}
use Rattle.std.proofs.Math.Bool.{true, false, cond}
use Rattle.std.proofs.Math.Option.{Option, none, some}
use mathlib.Core.List.{List, [], ◌∷◌, map, map-append}
use Rattle.std.proofs.Math.ListN.{length, length-map}
use Rattle.rules.specs.Machine.{Signal, Tree, Job, ThreadState, idle, running, Machine, thread_at, locks_of, first, put, window}
use Rattle.rules.specs.Events.{Kind, stepping, cutting, Event, arrive, turn}
use Rattle.rules.specs.Steps.{Effect, traps, exits, moves, Rules, Move, Plan, stay, grow, move, finish, exiting, added, pending_of, home}
use Rattle.rules.specs.Steps.{founded, admits, plan_running, plan_cut, plan_arrive, plan_idle, plan_step, plan_turn, plan, blocked, grant}
use Rattle.rules.specs.Steps.{applied, requeued, grown, finished, admit, admitted, lost, attempt, carry, react}
use Rattle.rules.specs.Link.{shift_signal, shift_thread, shift_tree, shift_machine, shift_event}
use Rattle.rules.specs.declared.answer.Answer.TheVariants.{Taken, ListFull, Exited}
use Rattle.bytes_fields.specs.Each.{Each}
use Rattle.theorem_guests.specs.Labels.{shift_effect, shift_pending, shift_move, shift_plan}
use Rattle.theorem_guests.specs.Labels.{shift_reply, ThreadBelow, SignalBelow, EventBelow}
use Rattle.theorem_guests.specs.Labels.{Below, PlanBelow, FirstBelow, first_below, map-set, locks-shift, thread-shift, held-shift}
use Rattle.theorem_guests.specs.Labels.{threads-shift, first-shift, put-shift, pending-shift, added-shift}
use Rattle.theorem_guests.specs.Relabelled.{on_image, Relabels}

-- the signals of an EXIT are those that its job holds, whose labels are below n
module _ (n : ℕ) (R : Rules) where
  below-arrive : (g : Signal) (l : List Tree) → PlanBelow n (plan_arrive R g l)
  unfolding plan_arrive
  below-arrive g l = case (admits R l g)
    where
      case : (c : Bool) → PlanBelow n (cond c (grow (founded R g)) (stay ListFull))
      case true = tt
      case false = tt

  below-idle : (t : ℕ) (o : Option (List Signal)) → PlanBelow n (plan_idle R t o)
  unfolding plan_idle
  below-idle t none = tt
  below-idle t (some []) = tt
  below-idle t (some (g ∷ p)) = tt

  below-running : (t b : ℕ) (p gs : List Signal) (e : Effect) → Each (SignalBelow n) gs → PlanBelow n (plan_running t b p gs e)
  unfolding plan_running
  below-running t b p gs (traps r) h = tt
  below-running t b p gs exits h = h
  below-running t b p gs (moves j' words g want) h = tt

  below-turn : (k : Kind) (t : ℕ) (w : ThreadState) (o : Option (List Signal)) (words : List ℕ) → ThreadBelow n w
      → PlanBelow n (plan_turn R k t w o words)
  unfolding plan_step plan_cut
  below-turn stepping t idle o words h = below-idle t o
  below-turn stepping t (running locks j) o words h = below-running t _ _ _ _ h.1
  below-turn cutting t idle o words h = tt
  below-turn cutting t (running locks j) o words h = tt

  plan-below : (s : Machine) (e : Event) → Below n s → PlanBelow n (plan R s e)
  unfolding plan
  plan-below s (arrive g) b = below-arrive g s.trees
  plan-below s (turn k t) b = below-turn k t (thread_at s t) (first t s.trees) s.words (b.threads t)

module _ (d n : ℕ) (R : Rules) (block : ℕ → ℕ) (act : ℕ → Job → List ℕ → ℕ → Effect) (same : Relabels d n R block act) where
  abbrev R' : Rules
  R' = on_image R block act

  home-shift : (g : Signal) → SignalBelow n g → home R' (shift_signal d g) ≡ home R g
  home-shift g h = ap R.thread (same.blocks g.label h)

  admits-shift : (l : List Tree) (g : Signal) → SignalBelow n g
      → admits R' (map (shift_tree d) l) (shift_signal d g) ≡ admits R l g
  admits-shift l g h = ap₂ R.room (threads-shift d l) (home-shift g h)

  -- ---- the plan

  plan-arrive : (g : Signal) (l : List Tree) → SignalBelow n g
      → plan_arrive R' (shift_signal d g) (map (shift_tree d) l) ≡ shift_plan d (plan_arrive R g l)
  unfolding plan_arrive
  plan-arrive g l h = rw (admits-shift l g h, home-shift g h) (case (admits R l g))
    where
      case : (c : Bool) → cond c (grow (shift_tree d (founded R g))) (stay ListFull)
          ≡ shift_plan d (cond c (grow (founded R g)) (stay ListFull))
      case true = refl
      case false = refl

  plan-idle : (t : ℕ) (o : Option (List Signal)) → FirstBelow n o → plan_idle R' t (shift_pending d o) ≡ shift_plan d (plan_idle R t o)
  unfolding plan_idle
  plan-idle t none h = refl
  plan-idle t (some []) h = refl
  plan-idle t (some (g ∷ p)) h = rw (same.blocks g.label h.0) refl

  plan-running : (t b : ℕ) (p gs : List Signal) (e : Effect)
      → plan_running t b (map (shift_signal d) p) (map (shift_signal d) gs) (shift_effect d e) ≡ shift_plan d (plan_running t b p gs e)
  unfolding plan_running
  plan-running t b p gs (traps r) = refl
  plan-running t b p gs exits = refl
  plan-running t b p gs (moves j words g want) = rw (map-append (shift_signal d) p (added g), added-shift d g) refl

  plan-step : (t : ℕ) (w : ThreadState) (o : Option (List Signal)) (words : List ℕ) → ThreadBelow n w → FirstBelow n o
      → plan_step R' t (shift_thread d w) (shift_pending d o) words ≡ shift_plan d (plan_step R t w o words)
  unfolding plan_step
  plan-step t idle o words h k = plan-idle t o k
  plan-step t (running locks j) o words h k =
      rw (
        pending-shift d o,
        same.blocks j.label h.0,
        length-map (pending_of o) (shift_signal d),
        same.acts t j (window (R.block j.label) words) (length (pending_of o)) h.0,
      )
      (plan-running t (R.block j.label) (pending_of o) j.held _)

  plan-cut : (t : ℕ) (w : ThreadState) → plan_cut t (shift_thread d w) ≡ shift_plan d (plan_cut t w)
  unfolding plan_cut
  plan-cut t idle = refl
  plan-cut t (running locks j) = refl

  plan-turn : (k : Kind) (t : ℕ) (w : ThreadState) (o : Option (List Signal)) (words : List ℕ) → ThreadBelow n w → FirstBelow n o
      → plan_turn R' k t (shift_thread d w) (shift_pending d o) words ≡ shift_plan d (plan_turn R k t w o words)
  plan-turn stepping t w o words h k = plan-step t w o words h k
  plan-turn cutting t w o words h k = plan-cut t w

  plan-shift : (s : Machine) (e : Event) → Below n s → EventBelow n e
      → plan R' (shift_machine d s) (shift_event d e) ≡ shift_plan d (plan R s e)
  unfolding plan
  plan-shift s (arrive g) b h = plan-arrive g s.trees h
  plan-shift s (turn k t) b h =
      rw (thread-shift d s.threads t, first-shift d t s.trees)
      (plan-turn k t (thread_at s t) (first t s.trees) s.words (b.threads t) (first_below n t s.trees b.trees))

  -- ---- and its doing

  blocked-shift : (t : ℕ) (ws : List ThreadState) (want : Option ℕ) → blocked R' t (map (shift_thread d) ws) want ≡ blocked R t ws want
  unfolding blocked
  blocked-shift t ws none = refl
  blocked-shift t ws (some b) = rw (← map-set (shift_thread d) ws t idle, held-shift d (R.lock b) (set ws t idle)) refl

  grant-same : (want : Option ℕ) (locks : ℕ) → grant R' want locks ≡ grant R want locks
  grant-same none locks = refl
  grant-same (some b) locks = refl

  threads-applied : (t : ℕ) (m : Move) (s : Machine)
      → (applied R' t (shift_move d m) (shift_machine d s)).threads ≡ map (shift_thread d) (applied R t m s).threads
  threads-applied t m s =
      rw (
        thread-shift d s.threads t,
        locks-shift d (thread_at s t),
        grant-same m.want (locks_of (thread_at s t)),
        map-set (shift_thread d) s.threads t,
      )
      refl

  attempt-shift : (t : ℕ) (m : Move) (s : Machine) (o : Option ℕ)
      → attempt R' t (shift_move d m) (shift_machine d s) o ≡ shift_reply d (attempt R t m s o)
  unfolding attempt
  attempt-shift t m s none = λ i. record {
    state = record {
      words = (applied R t m s).words;
      threads = threads-applied t m s i;
      trees = put-shift d t (some m.pending) s.trees i;
    };
    answer = m.answer;
  }
  attempt-shift t m s (some l) = refl

  requeued-shift : (o : Option (List Signal)) → FirstBelow n o → requeued R' (shift_pending d o) ≡ map (shift_tree d) (requeued R o)
  requeued-shift none h = refl
  requeued-shift (some []) h = refl
  requeued-shift (some (g ∷ p)) h = rw (home-shift g h.0) refl

  trees-finished : (t : ℕ) (s : Machine) → Below n s
      → (finished R' t (shift_machine d s)).trees ≡ map (shift_tree d) (finished R t s).trees
  trees-finished t s b =
      rw (
        first-shift d t s.trees,
        requeued-shift (first t s.trees) (first_below n t s.trees b.trees),
        put-shift d t none s.trees,
        map-append (shift_tree d) (put t none s.trees),
      )
      refl

  finished-shift : (t : ℕ) (s : Machine) → Below n s → finished R' t (shift_machine d s) ≡ shift_machine d (finished R t s)
  finished-shift t s b = λ i. record {
    words = s.words;
    threads = sym (map-set (shift_thread d) s.threads t idle) i;
    trees = trees-finished t s b i;
  }

  -- ---- the signals of an EXIT

  grown-shift : (x : Tree) (s : Machine) → grown (shift_tree d x) (shift_machine d s) ≡ shift_machine d (grown x s)
  grown-shift x s = rw (map-append (shift_tree d) s.trees) refl

  admit-shift : (g : Signal) (s : Machine) → SignalBelow n g
      → admit R' (shift_signal d g) (shift_machine d s) ≡ shift_machine d (admit R g s)
  admit-shift g s h = rw (admits-shift s.trees g h, home-shift g h) (case (admits R s.trees g))
    where
      case : (c : Bool) → cond c (grown (shift_tree d (founded R g)) (shift_machine d s)) (shift_machine d s)
          ≡ shift_machine d (cond c (grown (founded R g) s) s)
      case true = grown-shift (founded R g) s
      case false = refl

  admitted-shift : (gs : List Signal) (s : Machine) → Each (SignalBelow n) gs
      → admitted R' (map (shift_signal d) gs) (shift_machine d s) ≡ shift_machine d (admitted R gs s)
  unfolding admitted
  admitted-shift [] s h = refl
  admitted-shift (g ∷ gs) s h =
      ap (admitted R' (map (shift_signal d) gs)) (admit-shift g s h.0) ∙ admitted-shift gs (admit R g s) h.1

  lost-shift : (gs : List Signal) (s : Machine) → Each (SignalBelow n) gs
      → lost R' (map (shift_signal d) gs) (shift_machine d s) ≡ map (shift_signal d) (lost R gs s)
  unfolding lost
  lost-shift [] s h = refl
  lost-shift (g ∷ gs) s h =
      rw (admit-shift g s h.0, admits-shift s.trees g h.0, lost-shift gs (admit R g s) h.1)
      (case (admits R s.trees g) (lost R gs (admit R g s)))
    where
      case : (b : Bool) (l : List Signal) → cond b (map (shift_signal d) l) (shift_signal d g ∷ map (shift_signal d) l)
          ≡ map (shift_signal d) (cond b l (g ∷ l))
      case true l = refl
      case false l = refl

  -- ---- the whole

  carry-shift : (s : Machine) (q : Plan) → Below n s → PlanBelow n q
      → carry R' (shift_machine d s) (shift_plan d q) ≡ shift_reply d (carry R s q)
  unfolding carry
  carry-shift s (stay a) b h = refl
  carry-shift s (grow x) b h = λ i. record { state = grown-shift x s i; answer = Taken }
  carry-shift s (move t m) b h =
      rw (blocked-shift t s.threads m.want) (attempt-shift t m s (blocked R t s.threads m.want))
  carry-shift s (finish t a) b h = λ i. record { state = finished-shift t s b i; answer = a }
  carry-shift s (exiting t gs) b h =
      rw (finished-shift t s b)
      (λ i. record { state = admitted-shift gs (finished R t s) h i; answer = Exited (as_many i) })
    where
      as_many : length (lost R' (map (shift_signal d) gs) (shift_machine d (finished R t s))) ≡ length (lost R gs (finished R t s))
      as_many = ap length (lost-shift gs (finished R t s) h) ∙ length-map (lost R gs (finished R t s)) (shift_signal d)

  -- THE SAME ANSWER, AND THE SAME STATE BUT FOR THE SHIFT
  pub react-shift : (s : Machine) (e : Event) → Below n s → EventBelow n e
      → react R' (shift_machine d s) (shift_event d e) ≡ shift_reply d (react R s e)
  unfolding react
  react-shift s e b h =
      ap (carry R' (shift_machine d s)) (plan-shift s e b h) ∙ carry-shift s (plan R s e) b (plan-below n R s e b)
