-- Two events of different threads, the first of which only moves its job on: done the other way round they get the same answers and
-- leave the same machine.
use Rattle.std.specs.Prelude.{◌≡◌, ◌≢◌, ◌⊎◌, true, false, ℕ, ◌<◌, length}
use Rattle.std.proofs.Math.Path.{refl, ap}
use Rattle.std.proofs.Common.{sym, ◌∙◌, inl, inr, true≢false, get_or-set_other}
use Rattle.std.proofs.Math.Option.{Option, none, some}
use mathlib.Core.List.{List, []}
use Rattle.std.proofs.Math.Decide.{ℕ_discrete}
use Rattle.rules.specs.Sizes.{thread_count}
use Rattle.rules.specs.Bytes.{has}
use Rattle.rules.specs.Machine.{Signal, idle, Machine, thread_at, locks_of}
use Rattle.rules.specs.Events.{Event, arrive, turn, thread_of, Valid}
use Rattle.rules.specs.Answers.{out, join, sort}
use Rattle.rules.specs.Order.{lost_in, lost_by}
use Rattle.rules.specs.Steps.{Rules, Move, Plan, stay, grow, move, finish, exiting, Reply, plan, blocked, grant, applied, grown, finished}
use Rattle.rules.specs.Steps.{admitted, lost, attempt, carry, react}
use Rattle.rules.specs.declared.answer.Answer.TheVariants.{Exited}
use Rattle.lemmas_rules.specs.Logic.{never, not-true}
use Rattle.lemmas_rules.specs.Sets.{has-none}
use Rattle.lemmas_rules.specs.Trees.{threads-put}
use Rattle.lemmas_rules.specs.Admitted.{admitted-threads}
use Rattle.lemmas_invariant.specs.Laws.{Laws}
use Rattle.lemmas_rules.specs.Locks.{grant-keeps, grant-takes, grant-either, Clear, blocked-clear, clear-blocked, get_d-set-idle}
use Rattle.lemmas_invariant.specs.Invariant.{Invariant, Sound, Good}
use Rattle.lemmas_invariant.proofs.Invariant.{good, at-mover, at_other}
use Rattle.theorem_serial.specs.Frame.{Same, same-plan, same-arrive, same-applied}
use Rattle.theorem_serial.specs.Frame.{same-grown, same-finished, comm-applied, comm-grown}
use Rattle.theorem_serial.specs.Frame.{comm-finished, same-admitted, comm-admitted, lost-applied, unlike}

module _ (R : Rules) (L : Laws R) where
  -- x then y, and y then x, from the machine s
  pub record Swapped (s : Machine) (x y : Event) : Type 0 where
    pub fst : (react R s y).answer ≡ (react R (react R s x).state y).answer
    pub snd : (react R (react R s y).state x).answer ≡ (react R s x).answer
    pub fst-lost : lost_by R s y ≡ lost_by R (react R s x).state y
    pub snd-lost : lost_by R (react R s y).state x ≡ lost_by R s x
    pub end : (react R (react R s y).state x).state ≡ (react R (react R s x).state y).state

  pub react-as : (s : Machine) (e : Event) (q : Plan) → plan R s e ≡ q → react R s e ≡ carry R s q
  unfolding react
  react-as s e q k = ap (carry R s) k

  pub react-move : (s : Machine) (e : Event) (t : ℕ) (m : Move) → plan R s e ≡ move t m → blocked R t s.threads m.want ≡ none
      → react R s e ≡ record { state = applied R t m s; answer = m.answer }
  unfolding react carry attempt
  react-move s e t m k h = rw (k, h) refl

  -- an event that joins its row is a move of its thread, and no lock holds it up
  pub record Joined (s : Machine) (x : Event) : Type 0 where
    pub thread : ℕ
    pub act : Move
    pub plans : plan R s x ≡ move thread act
    pub sound : Sound R s thread act
    pub names : thread_of x ≡ some thread
    pub clear : blocked R thread s.threads act.want ≡ none

  joined-move : (s : Machine) (x : Event) (t : ℕ) (m : Move) (o : Option ℕ) → plan R s x ≡ move t m → Good R s (thread_of x) (move t m)
      → blocked R t s.threads m.want ≡ o → sort (attempt R t m s o).answer ≡ join → Joined s x
  unfolding attempt
  joined-move s x t m none k g h e = record { thread = t; act = m; plans = k; sound = g.0; names = g.1; clear = h }
  joined-move s x t m (some b) k g h e = never (cc)

  joined-plan : (s : Machine) (x : Event) (q : Plan) → plan R s x ≡ q → Good R s (thread_of x) q → sort (carry R s q).answer ≡ join
      → Joined s x
  unfolding carry
  joined-plan s x (stay a) k (inl g) e = never (cc)
  joined-plan s x (stay a) k (inr g) e = never (cc g.0)
  joined-plan s x (grow z) k g e = never (cc)
  joined-plan s x (move t m) k g e = joined-move s x t m _ k g refl e
  joined-plan s x (finish t a) k g e = never (cc g.1)
  joined-plan s x (exiting t gs) k g e = never (cc)

  pub joined : (s : Machine) (x : Event) → Invariant R s → sort (react R s x).answer ≡ join → Joined s x
  unfolding react
  joined s x i e = joined-plan s x (plan R s x) refl (good R L s x i) e

  -- a lock that is free for u is free for it after t has ended its job
  clear-finished : (s : Machine) (t u : ℕ) (w : Option ℕ) → Clear R s.threads u w → Clear R (finished R t s).threads u w
  clear-finished s t u w c b e k n = case (ℕ_discrete k t)
    where
      case : Dec (k ≡ t) → has (R.lock b) (locks_of (thread_at (finished R t s) k)) ≡ false
      case (yes p) = rw (p, get_d-set-idle s.threads t) (has-none (R.lock b))
      case (no p) = rw (get_or-set_other s.threads t k idle idle p) (c b e k n)

  -- what is free after a move was free before it
  clear-before : (s : Machine) (t u : ℕ) (m : Move) (w : Option ℕ) → Invariant R s → u < thread_count
      → Clear R (applied R u m s).threads t w → Clear R s.threads t w
  clear-before s t u m w i v c b e k n = case (ℕ_discrete k u)
    where
      case : Dec (k ≡ u) → has (R.lock b) (locks_of (thread_at s k)) ≡ false
      case (yes p) =
          rw p (not-true _ (λ h. true≢false (sym (grant-keeps R m.want _ _ h) ∙ (rw (p, at-mover R L s u m i v) at (c b e k n)))))
      case (no p) = rw (at_other R L s u m k p) at (c b e k n)

  -- two moves that get their locks one after the other get them the other way round too
  clear-after : (s : Machine) (t u : ℕ) (m n : Move) → Invariant R s → u < thread_count → t < thread_count → u ≢ t
      → Clear R s.threads u m.want
      → Clear R (applied R u m s).threads t n.want → Clear R (applied R t n s).threads u m.want
  clear-after s t u m n i vu vt d cu ct b e k f = case (ℕ_discrete k t)
    where
      both : (has (R.lock b) (locks_of (thread_at s t)) ≡ true) ⊎ ((c : ℕ) × (n.want ≡ some c) × (R.lock b ≡ R.lock c)) → ⊥
      both (inl h) = true≢false (sym h ∙ cu b e t (λ p. d (sym p)))
      both (inr h) =
          let g : has (R.lock h.0) (grant R m.want (locks_of (thread_at s u))) ≡ false =
          rw (at-mover R L s u m i vu) at (ct h.0 h.1 u d)
          in
          true≢false
          (sym (grant-takes R m.want b (locks_of (thread_at s u)) e) ∙ ap
          (λ (l : ℕ). has l (grant R m.want (locks_of (thread_at s u)))) h.2 ∙ g)

      case : Dec (k ≡ t) → has (R.lock b) (locks_of (thread_at (applied R t n s) k)) ≡ false
      case (yes p) = rw (p, at-mover R L s t n i vt) (not-true _ (λ h. both (grant-either R n.want _ _ h)))
      case (no p) = rw (at_other R L s t n k p) (cu b e k f)

  module _ (s : Machine) (x y : Event) (i : Invariant R s) (vx : Valid x) (vy : Valid y) (j : Joined s x)
      (n : thread_of x ≢ thread_of y) where
    abbrev after : Machine
    after = applied R j.thread j.act s

    -- what is left to show, in terms of y's plan
    record Rest (q : Plan) : Type 0 where
      same : (carry R s q).answer ≡ (carry R after q).answer
      gone : lost_in R s q ≡ lost_in R after q
      plans : plan R (carry R s q).state x ≡ move j.thread j.act
      then : react R (carry R s q).state x ≡ record { state = (carry R after q).state; answer = j.act.answer }

    other : (t : ℕ) → thread_of y ≡ some t → j.thread ≢ t
    other t e k = n (j.names ∙ ap some k ∙ sym e)

    plan-other : (e : Event) → y ≡ e → plan R after e ≡ plan R s e
    plan-other (arrive g) k = same-arrive R g s after (threads-put j.thread j.act.pending s.trees)
    plan-other (turn d t) k =
        same-plan R t (turn d t) s after refl (same-applied R s t j.thread j.act i j.sound (λ e. other t (ap thread_of k) (sym e)))

    -- x is planned and done after y, which left the machine s', as before it
    plan-again : (s' : Machine) → Same R j.thread s s' → plan R s' x ≡ move j.thread j.act
    plan-again s' h = same-plan R j.thread x s s' j.names h ∙ j.plans

    again : (s' : Machine) → Same R j.thread s s' → Clear R s'.threads j.thread j.act.want
        → react R s' x ≡ record { state = applied R j.thread j.act s'; answer = j.act.answer }
    again s' h c =
        react-move s' x j.thread j.act (plan-again s' h)
        (clear-blocked R s'.threads j.thread j.act.want c)

    leaves : {s' s'' : Machine} → s' ≡ s''
        → ◌≡◌ {A = Reply} (record { state = s'; answer = j.act.answer }) (record { state = s''; answer = j.act.answer })
    leaves p = λ k. record { state = p k; answer = j.act.answer }

    free : Clear R s.threads j.thread j.act.want
    free = blocked-clear R s.threads j.thread j.act.want j.clear

    rest-move : (t : ℕ) (m : Move) (o : Option ℕ) → Good R s (thread_of y) (move t m) → blocked R t after.threads m.want ≡ o
        → ¬ (sort (attempt R t m after o).answer ≡ out) → Rest (move t m)
    unfolding carry attempt
    rest-move t m (some b) g h k = absurd (k refl)
    rest-move t m none g h k =
        let d : j.thread ≢ t = other t g.1 in
        let c : Clear R after.threads t m.want = blocked-clear R after.threads t m.want h in
        let f : blocked R t s.threads m.want ≡ none =
        clear-blocked R s.threads t m.want (clear-before s t j.thread j.act m.want i (vx j.thread j.names) c)
        in
        let a : Same R j.thread s (applied R t m s) = same-applied R s j.thread t m i g.0 d in
        record {
          same = rw (f, h) refl;
          gone = refl;
          plans = rw f (plan-again (applied R t m s) a);
          then =
              rw (f, h)
              (again (applied R t m s) a
              (clear-after s t j.thread j.act m i (vx j.thread j.names) (vy t g.1) d free c)
              ∙ leaves
              (comm-applied R s j.thread t j.act m d
              (λ p q e e'. unlike R s j.thread t p.0 q.0 i d (j.sound.writes p e) (g.0.writes q e'))));
        }

    -- an end of another thread's job, with the signals that found trees: none but at an EXIT
    same_end : (t : ℕ) (gs : List Signal) → thread_of y ≡ some t → Same R j.thread s (admitted R gs (finished R t s))
    same_end t gs g =
        let r = j.sound.root in
        same-admitted R s (finished R t s) j.thread gs r.0 r.1 (same-finished R s j.thread t r.0 r.1 (other t g))

    rest_end : (t : ℕ) (gs : List Signal) → thread_of y ≡ some t
        → react R (admitted R gs (finished R t s)) x ≡ record { state = admitted R gs (finished R t after); answer = j.act.answer }
    rest_end t gs g =
        let r = j.sound.root in
        let d : j.thread ≢ t = other t g in
        let a : Same R j.thread s (finished R t s) = same-finished R s j.thread t r.0 r.1 d in
        again (admitted R gs (finished R t s)) (same_end t gs g)
        (rw (admitted-threads R gs (finished R t s)) (clear-finished s t j.thread j.act.want free))
        ∙ leaves
        (comm-admitted R j.thread j.act r.0 gs (finished R t s) (a.tree ∙ r.1)
        ∙ ap (admitted R gs) (comm-finished R s j.thread t j.act r.0 d r.1))

    -- and the same are lost
    same-lost : (t : ℕ) (gs : List Signal) → thread_of y ≡ some t → lost R gs (finished R t s) ≡ lost R gs (finished R t after)
    same-lost t gs g =
        let r = j.sound.root in
        let d : j.thread ≢ t = other t g in
        sym (lost-applied R j.thread j.act r.0 gs (finished R t s)
        ((same-finished R s j.thread t r.0 r.1 d).tree ∙ r.1))
        ∙ ap (lost R gs) (comm-finished R s j.thread t j.act r.0 d r.1)

    rest : (q : Plan) → Good R s (thread_of y) q → ¬ (sort (carry R after q).answer ≡ out) → Rest q
    unfolding carry admitted
    rest (stay a) g k = record {
      same = refl;
      gone = refl;
      plans = j.plans;
      then = react-move s x j.thread j.act j.plans j.clear;
    }
    rest (grow z) g k =
        let r = j.sound.root in
        let a : Same R j.thread s (grown z s) = same-grown R s j.thread z r.0 r.1 in
        record {
          same = refl;
          gone = refl;
          plans = plan-again (grown z s) a;
          then =
              again (grown z s) a free
              ∙ leaves (comm-grown R s j.thread j.act z r.0 r.1);
        }
    rest (move t m) g k = rest-move t m _ g refl k
    rest (finish t a) g k = record {
      same = refl;
      gone = refl;
      plans = plan-again _ (same_end t [] g.0);
      then = rest_end t [] g.0;
    }
    rest (exiting t gs) g k = record {
      same = ap (λ l. Exited (length l)) (same-lost t gs g);
      gone = same-lost t gs g;
      plans = plan-again _ (same_end t gs g);
      then = rest_end t gs g;
    }

    swap-joined : ¬ (sort (react R (react R s x).state y).answer ≡ out) → Swapped s x y
    swap-joined k =
        let q = plan R s y in
        let rx : react R s x ≡ record { state = after; answer = j.act.answer } =
        react-move s x j.thread j.act j.plans j.clear
        in
        let ry : react R s y ≡ carry R s q = react-as s y q refl in
        let rz : react R after y ≡ carry R after q = react-as after y q (plan-other y refl) in
        let r : Rest q = rest q (good R L s y i) (λ e. k (rw (rx, rz) e)) in
        record {
          fst = rw (rx, ry, rz) r.same;
          snd = rw (ry, rx) (ap (λ (z : Reply). z.answer) r.then);
          fst-lost = rw rx (r.gone ∙ ap (lost_in R after) (sym (plan-other y refl)));
          snd-lost = rw ry (ap (lost_in R (carry R s q).state) r.plans ∙ ap (lost_in R s) (sym j.plans));
          end = rw (rx, ry, rz) (ap (λ (z : Reply). z.state) r.then);
        }

  -- x joins its row, y is of another thread or an arrival and is not left out
  pub swap : (s : Machine) (x y : Event) → Invariant R s → Valid x → Valid y → thread_of x ≢ thread_of y → sort (react R s x).answer ≡ join
      → ¬ (sort (react R (react R s x).state y).answer ≡ out) → Swapped s x y
  swap s x y i vx vy n h k = swap-joined s x y i vx vy (joined s x i h) n k
