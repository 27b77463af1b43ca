-- What an EXIT's answer says of the signals that it lost: their number.
use Rattle.std.specs.Prelude.{◌≡◌, Bool, cond, List, [], ◌∷◌, ℕ, length}
use Rattle.std.proofs.Math.Bool.{true, false}
use Rattle.std.proofs.Math.Option.{Option, none, some}
use Rattle.rules.specs.Machine.{Signal, ThreadState, idle, running, Machine, thread_at, first}
use Rattle.rules.specs.Events.{Kind, stepping, cutting, Event, arrive, turn}
use Rattle.rules.specs.Steps.{Rules, Effect, traps, exits, moves, Move, Plan, stay, grow, founded, admits, plan_arrive, plan_idle}
use Rattle.rules.specs.Steps.{plan_running, plan_step, plan_cut, plan_turn, plan, attempt, carry, react}
use Rattle.rules.specs.Order.{lost_in, lost_by}
use Rattle.rules.specs.declared.answer.Answer.TheVariants.{ListFull, Exited}
use Rattle.lemmas_rules.specs.Logic.{never}

module _ (R : Rules) (s : Machine) where
  -- an answer of EXIT to this plan counts what the plan loses
  abbrev Counts : Plan → Type 0
  Counts q = (n : ℕ) → (carry R s q).answer ≡ Exited n → n ≡ length (lost_in R s q)

  attempt-counts : (t : ℕ) (m : Move) (o : Option ℕ) (n : ℕ) → (m.answer ≡ Exited n → ⊥) → (attempt R t m s o).answer ≡ Exited n → ⊥
  unfolding attempt
  attempt-counts t m none n h e = h e
  attempt-counts t m (some l) n h e = never (cc)

  arrive-counts : (g : Signal) (b : Bool) → Counts (cond b (grow (founded R g)) (stay ListFull))
  unfolding carry
  arrive-counts g true n e = never (cc)
  arrive-counts g false n e = never (cc)

  idle-counts : (t : ℕ) (f : Option (List Signal)) → Counts (plan_idle R t f)
  unfolding carry plan_idle
  idle-counts t none n e = never (cc)
  idle-counts t (some []) n e = never (cc)
  idle-counts t (some (g ∷ p)) n e = absurd (attempt-counts t _ _ n (λ q. never (cc)) e)

  running-counts : (t b : ℕ) (p gs : List Signal) (e : Effect) → Counts (plan_running t b p gs e)
  unfolding carry plan_running
  running-counts t b p gs (traps r) n e = never (cc)
  running-counts t b p gs exits n e = cc
  running-counts t b p gs (moves j words g want) n e = absurd (attempt-counts t _ _ n (λ q. never (cc)) e)

  turn-counts : (k : Kind) (t : ℕ) (w : ThreadState) (f : Option (List Signal)) (words : List ℕ) → Counts (plan_turn R k t w f words)
  unfolding plan_step plan_cut carry
  turn-counts stepping t idle f words = idle-counts t f
  turn-counts stepping t (running locks j) f words = running-counts t _ _ _ _
  turn-counts cutting t idle f words = λ n e. never (cc)
  turn-counts cutting t (running locks j) f words = λ n e. never (cc)

  pub exit-counts-lost : (e : Event) (n : ℕ) → (react R s e).answer ≡ Exited n → n ≡ length (lost_by R s e)
  unfolding react plan plan_arrive
  exit-counts-lost (arrive g) n h = arrive-counts g (admits R s.trees g) n h
  exit-counts-lost (turn k t) n h = turn-counts k t (thread_at s t) (first t s.trees) s.words n h
