-- Rules that keep the laws keep the invariant: it holds of a fresh machine and after every event.
use Rattle.std.specs.Prelude.{◌≡◌, ◌≢◌, ◌⊎◌, Bool, cond, List, [], ◌∷◌, ℕ, ◌<◌}
use Rattle.std.proofs.Math.Path.{refl}
use Rattle.std.proofs.Common.{sym, ap, ◌∙◌, subst, true≢false, length-set, get_or-set_same, get_or-set_other}
use Rattle.std.proofs.Math.Logic.{inl, inr}
use Rattle.std.proofs.Math.Bool.{true, false}
use Rattle.std.proofs.Math.Option.{Option, none, some}
use mathlib.Core.List.Memᴰ
use Rattle.std.proofs.Math.Decide.{ℕ_discrete}
use Rattle.rules.specs.Sizes.{thread_count}
use Rattle.rules.specs.Bytes.{has}
use Rattle.rules.specs.Machine.{Signal, Tree, Job, ThreadState, idle, running, Machine, thread_at, locks_of, job_of, fresh, first, put}
use Rattle.rules.specs.Events.{Kind, stepping, cutting, Event, arrive, turn, thread_of, Valid}
use Rattle.rules.specs.Steps.{Rules, Effect, traps, exits, moves, Move, Plan, stay, grow, move, finish, exiting, begin, pending_of, founded}
use Rattle.rules.specs.Steps.{admits, plan_arrive, plan_idle, plan_running, plan_step, plan_cut, plan_turn, plan, blocked}
use Rattle.rules.specs.Steps.{grant, applied, grown}
use Rattle.rules.specs.Steps.{finished, admitted, attempt, carry, react}
use Rattle.rules.specs.declared.answer.Answer.TheVariants.{ListFull}
use Rattle.lemmas_rules.specs.Logic.{never, not-true, get_d-same}
use Rattle.lemmas_rules.specs.Sets.{has-none}
use Rattle.lemmas_rules.specs.Trees.{first-put-other, first-put-same, first-append}
use Rattle.lemmas_rules.specs.Admitted.{admitted-keeps}
use Rattle.lemmas_invariant.specs.Laws.{Needs, Stays, Laws}
use Rattle.lemmas_invariant.specs.Happens.{effect_of}
use Rattle.lemmas_rules.specs.Locks.{grant-keeps, grant-takes, grant-either, Clear, blocked-clear, get_d-set-idle}
use Rattle.lemmas_invariant.specs.Invariant.{Invariant, Sound, Good}

module _ (R : Rules) (L : Laws R) where
  good-idle : (s : Machine) (t : ℕ) (f : Option (List Signal)) → first t s.trees ≡ f → Good R s (some t) (plan_idle R t f)
  unfolding plan_idle
  good-idle s t none k = inl refl
  good-idle s t (some []) k = inl refl
  good-idle s t (some (g ∷ p)) k = (
    record {
      owns = λ b h. inr (ap some (sym (only b h)));
      writes = λ q h. never (cc);
      root = (g ∷ p, k);
    },
    refl,
    refl,
  )
    where
      only : (b : ℕ) → Needs R (begin g) b → b ≡ R.block g.label
      only b (Memᴰ.head e) = e
      only b (Memᴰ.tail h) = absurd (Memᴰ.not-nil h)

  good-running : (s : Machine) (t l : ℕ) (j : Job) (e : Effect) → Invariant R s → thread_at s t ≡ running l j
      → effect_of R s t j ≡ e
      → Good R s (some t) (plan_running t (R.block j.label) (pending_of (first t s.trees)) j.held e)
  unfolding plan_running
  good-running s t l j (traps r) i w k = (refl, refl)
  good-running s t l j exits i w k = refl
  good-running s t l j (moves j' vs o b) i w k = (
    record {
      owns = λ c h. from c (subst (Stays R j) k (L.stays t j _ _) c h);
      writes = λ q h. let g : q.0 ≡ R.block j.label = cc in rw g (mine (R.block j.label) (Memᴰ.head refl));
      root = i.rooted t j (ap job_of w);
    },
    refl,
    refl,
  )
    where
      mine : (c : ℕ) → Needs R j c → has (R.lock c) (locks_of (thread_at s t)) ≡ true
      mine = i.keeps t j (ap job_of w)

      from : (c : ℕ) → Needs R j c ⊎ (b ≡ some c) → (has (R.lock c) (locks_of (thread_at s t)) ≡ true) ⊎ (b ≡ some c)
      from c (inl h) = inl (mine c h)
      from c (inr h) = inr h

  good_turn : (k : Kind) (s : Machine) (t : ℕ) (w : ThreadState) → thread_at s t ≡ w → Invariant R s
      → Good R s (some t) (plan_turn R k t w (first t s.trees) s.words)
  unfolding plan_step plan_cut
  good_turn stepping s t idle w i = good-idle s t (first t s.trees) refl
  good_turn stepping s t (running l j) w i = good-running s t l j _ i w refl
  good_turn cutting s t idle w i = inl refl
  good_turn cutting s t (running l j) w i = (refl, refl)

  pub good : (s : Machine) (e : Event) → Invariant R s → Good R s (thread_of e) (plan R s e)
  unfolding plan plan_arrive
  good s (arrive g) i = case (admits R s.trees g)
    where
      case : (d : Bool) → Good R s none (cond d (grow (founded R g)) (stay ListFull))
      case true = refl
      case false = inr (refl, refl)
  good s (turn k t) i = good_turn k s t (thread_at s t) refl i

  -- ---- the invariant is kept

  pub at-mover : (s : Machine) (t : ℕ) (m : Move) → Invariant R s → t < thread_count
      → thread_at (applied R t m s) t ≡ running (grant R m.want (locks_of (thread_at s t))) m.job
  at-mover s t m i v = get_or-set_same s.threads t _ idle (rw i.size v)

  pub at_other : (s : Machine) (t : ℕ) (m : Move) (k : ℕ) → k ≢ t → thread_at (applied R t m s) k ≡ thread_at s k
  at_other s t m k n = get_or-set_other s.threads t k _ idle n

  module _ (s : Machine) (t : ℕ) (m : Move) (i : Invariant R s) (v : t < thread_count) (d : Sound R s t m)
      (c : Clear R s.threads t m.want) where
    -- a lock that t has after the move, no other thread has
    alone : (k l : ℕ) → k ≢ t → has l (grant R m.want (locks_of (thread_at s t))) ≡ true → has l (locks_of (thread_at s k)) ≡ false
    alone k l n h = case (grant-either R m.want l (locks_of (thread_at s t)) h)
      where
        case : (has l (locks_of (thread_at s t)) ≡ true) ⊎ ((b : ℕ) × (m.want ≡ some b) × (l ≡ R.lock b))
            → has l (locks_of (thread_at s k)) ≡ false
        case (inl g) = i.apart t k l (λ e. n (sym e)) g
        case (inr g) = rw g.2 (c g.0 g.1 k n)

    apart-applied : (a b l : ℕ) → a ≢ b → Dec (a ≡ t) → Dec (b ≡ t)
        → has l (locks_of (thread_at (applied R t m s) a)) ≡ true → has l (locks_of (thread_at (applied R t m s) b)) ≡ false
    apart-applied a b l n (yes p) (yes q) h = absurd (n (p ∙ sym q))
    apart-applied a b l n (yes p) (no q) h = rw (at_other s t m b q) (alone b l q (rw (p, at-mover s t m i v) at h))
    apart-applied a b l n (no p) (yes q) h =
        rw (q, at-mover s t m i v) (not-true _ (λ g. true≢false (sym (rw (at_other s t m a p) at h) ∙ alone a l p g)))
    apart-applied a b l n (no p) (no q) h = rw (at_other s t m b q) (i.apart a b l n (rw (at_other s t m a p) at h))

    keeps-applied : (k : ℕ) (j : Job) → Dec (k ≡ t) → job_of (thread_at (applied R t m s) k) ≡ some j → (b : ℕ) → Needs R j b
        → has (R.lock b) (locks_of (thread_at (applied R t m s) k)) ≡ true
    keeps-applied k j (yes p) h b f =
        let e : j ≡ m.job = cc (ap job_of (at-mover s t m i v)) in
        rw (p, at-mover s t m i v) (case (d.owns b (rw e at f)))
      where
        case : (has (R.lock b) (locks_of (thread_at s t)) ≡ true) ⊎ (m.want ≡ some b)
            → has (R.lock b) (grant R m.want (locks_of (thread_at s t))) ≡ true
        case (inl g) = grant-keeps R m.want _ _ g
        case (inr g) = grant-takes R m.want b _ g
    keeps-applied k j (no p) h b f = rw (at_other s t m k p) (i.keeps k j (rw (at_other s t m k p) at h) b f)

    rooted-applied : (k : ℕ) (j : Job) → Dec (k ≡ t) → job_of (thread_at (applied R t m s) k) ≡ some j
        → (p : List Signal) × (first k (put t (some m.pending) s.trees) ≡ some p)
    rooted-applied k j (yes p) h = (m.pending, rw p (first-put-same t m.pending d.root.0 s.trees d.root.1))
    rooted-applied k j (no p) h =
        let r = i.rooted k j (rw (at_other s t m k p) at h) in
        (r.0, first-put-other k t (some m.pending) s.trees p ∙ r.1)

    pub invariant-applied : Invariant R (applied R t m s)
    invariant-applied = record {
      size = length-set s.threads t _ ∙ i.size;
      apart = λ a b l n h. apart-applied a b l n (ℕ_discrete a t) (ℕ_discrete b t) h;
      keeps = λ k j h b f. keeps-applied k j (ℕ_discrete k t) h b f;
      rooted = λ k j h. rooted-applied k j (ℕ_discrete k t) h;
    }

  module _ (s : Machine) (t : ℕ) (i : Invariant R s) where
    gone : thread_at (finished R t s) t ≡ idle
    gone = get_d-set-idle s.threads t

    left : (k : ℕ) → k ≢ t → thread_at (finished R t s) k ≡ thread_at s k
    left k n = get_or-set_other s.threads t k idle idle n

    apart-finished : (a b l : ℕ) → a ≢ b → Dec (a ≡ t) → Dec (b ≡ t)
        → has l (locks_of (thread_at (finished R t s) a)) ≡ true → has l (locks_of (thread_at (finished R t s) b)) ≡ false
    apart-finished a b l n (yes p) q h = absurd (true≢false (sym (rw (p, gone) at h) ∙ has-none l))
    apart-finished a b l n (no p) (yes q) h = rw (q, gone) (has-none l)
    apart-finished a b l n (no p) (no q) h = rw (left b q) (i.apart a b l n (rw (left a p) at h))

    keeps-finished : (k : ℕ) (j : Job) → Dec (k ≡ t) → job_of (thread_at (finished R t s) k) ≡ some j → (b : ℕ) → Needs R j b
        → has (R.lock b) (locks_of (thread_at (finished R t s) k)) ≡ true
    keeps-finished k j (yes p) h b f = never (cc (ap job_of gone))
    keeps-finished k j (no p) h b f = rw (left k p) (i.keeps k j (rw (left k p) at h) b f)

    rooted-finished : (k : ℕ) (j : Job) → Dec (k ≡ t) → job_of (thread_at (finished R t s) k) ≡ some j
        → (p : List Signal) × (first k (finished R t s).trees ≡ some p)
    rooted-finished k j (yes p) h = never (cc (ap job_of gone))
    rooted-finished k j (no p) h =
        let r = i.rooted k j (rw (left k p) at h) in
        (r.0, first-append k r.0 _ _ (first-put-other k t none s.trees p ∙ r.1))

    pub invariant-finished : Invariant R (finished R t s)
    invariant-finished = record {
      size = length-set s.threads t _ ∙ i.size;
      apart = λ a b l n h. apart-finished a b l n (ℕ_discrete a t) (ℕ_discrete b t) h;
      keeps = λ k j h b f. keeps-finished k j (ℕ_discrete k t) h b f;
      rooted = λ k j h. rooted-finished k j (ℕ_discrete k t) h;
    }

  pub invariant-grown : (s : Machine) (x : Tree) → Invariant R s → Invariant R (grown x s)
  invariant-grown s x i = record {
    size = i.size;
    apart = i.apart;
    keeps = i.keeps;
    rooted = λ k j h. let r = i.rooted k j h in (r.0, first-append k r.0 _ _ r.1);
  }

  invariant-admitted : (gs : List Signal) (s : Machine) → Invariant R s → Invariant R (admitted R gs s)
  invariant-admitted gs = admitted-keeps R (Invariant R) gs (λ g m s e i. invariant-grown s (founded R g) i)

  invariant-attempt : (s : Machine) (t : ℕ) (m : Move) (o : Option ℕ) → Invariant R s → t < thread_count → Sound R s t m
      → blocked R t s.threads m.want ≡ o
      → Invariant R (attempt R t m s o).state
  unfolding attempt
  invariant-attempt s t m none i v d k = invariant-applied s t m i v d (blocked-clear R s.threads t m.want k)
  invariant-attempt s t m (some b) i v d k = i

  invariant-carry : (s : Machine) (e : Event) (q : Plan) → Invariant R s → Valid e → Good R s (thread_of e) q
      → Invariant R (carry R s q).state
  unfolding carry
  invariant-carry s e (stay a) i v g = i
  invariant-carry s e (grow x) i v g = invariant-grown s x i
  invariant-carry s e (move t m) i v g = invariant-attempt s t m _ i (v t g.1) g.0 refl
  invariant-carry s e (finish t a) i v g = invariant-finished s t i
  invariant-carry s e (exiting t gs) i v g = invariant-admitted gs (finished R t s) (invariant-finished s t i)

  pub invariant-react : (s : Machine) (e : Event) → Invariant R s → Valid e → Invariant R (react R s e).state
  unfolding react
  invariant-react s e i v = invariant-carry s e (plan R s e) i v (good s e i)

  -- and a fresh machine has it
  pub invariant-fresh : (ws : List ℕ) → Invariant R (fresh ws)
  unfolding fresh
  invariant-fresh ws = record {
    size = refl;
    apart = λ t u l n h. rw (get_d-same idle thread_count u) (has-none l);
    keeps = λ t j h. never (cc (ap job_of (get_d-same idle thread_count t)));
    rooted = λ t j h. never (cc (ap job_of (get_d-same idle thread_count t)));
  }
