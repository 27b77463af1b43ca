-- Whom a thread waits for, by what its step comes to.
use Rattle.std.specs.Prelude as code
use Rattle.std.specs.Prelude.{◌≡◌, Bool, cond, ℕ, set, Some, None, Result, Ok, Err}
use Rattle.std.proofs.Math.Path.{refl}
use Rattle.std.proofs.Common.{ap, ◌∙◌, subst, eqb-true}
use Rattle.std.proofs.Math.Bool.{true, false}
use Rattle.std.proofs.Math.Option.{Option, none, some, map}
use mathlib.Core.List.{List, [], ◌∷◌}
use Rattle.std.proofs.Math.Dec.{eqb}
use Rattle.rules.specs.Sorts.{thread}
use Rattle.rules.specs.declared.sorts.Thread.{Thread}
use Rattle.rules.specs.Codes.{send_direct_code, call_code}
use Rattle.rules.specs.Image.{opcode, operator, record_at, label_a, label_b, Row, row_at}
use Rattle.rules.specs.Statements.{operation_at, Other, others, other_in, other_at, other_or, statement_by, statement_of}
use Rattle.rules.specs.Statements.{data_of, role_a, role_b}
use Rattle.rules.specs.Machine.{Signal, Job, Machine, idle, running, thread_at, first}
use Rattle.rules.specs.Encoding.{machine_from}
use Rattle.rules.specs.Events.{step}
use Rattle.rules.specs.Effects.{Got, trap, got, Next, on_a, on_b, into_a, call_a, back, Going, Outcome, ends, goes, outcome}
use Rattle.rules.specs.Steps.{Rules, Effect, traps, exits, moves, rules_by, block_at, steer, resolve, view, act_by, react}
use Rattle.rules.specs.Walk.{asked, holder, awaits}
use Rattle.rules.specs.declared.statement.Role.{Role}
use Rattle.rules.specs.declared.statement.Role.TheVariants.{Unused, Inner, Direct, Local, Buffered}
use Rattle.rules.specs.declared.statement.Operation.{Operation}
use Rattle.rules.specs.declared.statement.Statement.{Statement}
use Rattle.rules.specs.declared.statement.Statement.TheVariants.{SendDirect, Call}
use Rattle.rules.specs.declared.answer.Answer.{Answer}
use Rattle.rules.specs.declared.trap.Trap.{Trap}
use Rattle.lemmas_rules.specs.Roles.{Leads, Refers, refers}
use Rattle.lemmas_step.specs.Events.{reply, no-tree}
use Rattle.lemmas_step.specs.Running.{effect, traps-by, exits_by, moves-by}
use Rattle.state_thread.specs.Threads.{job_of}
use Rattle.state_thread.specs.declared.thread.ThreadState.{ThreadState}
use Rattle.step_contract.specs.Ready.{Ready}
use Rattle.step_contract.specs.At.{At, tree}
use Rattle.step_lock.specs.Enters.{Passes, Enters}
use Rattle.step_start.specs.Starting.{FirstOf, start-waiting, start-running}
use Rattle.step_lock.specs.declared.Passage.{Passage}
use Rattle.step_lock.specs.declared.Passage.TheVariants.{Wait, Go, Own}
use Rattle.step_start.specs.declared.First.{First}
use Rattle.step_start.specs.declared.First.TheVariants as found

-- whom a thread waits for, as the code says it
abbrev pub waits_of : Option ℕ → code.Option Thread
waits_of none = None
waits_of (some u) = Some (thread u)

-- whom thread t waits for, by the law
abbrev pub awaited_by : List ℕ → List ℕ → List ℕ → ℕ → code.Option Thread
awaited_by image table b t = waits_of (awaits (rules_by image table) (machine_from b) t)

-- it is told by the answer to its next step
by_answer : (R : Rules) (s : Machine) (t : ℕ) {m : Machine} {a : Answer} → react R s (step t) ≡ reply m a
    → waits_of (map (λ l. holder l (set s.threads t idle)) (asked a)) ≡ waits_of (awaits R s t)
unfolding awaits
by_answer R s t e = rw e

-- ---- direct SEND and CALL

abbrev pub passage_waits : Result Passage Trap → code.Option Thread
passage_waits (Err x) = None
passage_waits (Ok (Wait l u)) = Some u
passage_waits (Ok (Go l)) = None
passage_waits (Ok Own) = None

pub waits-passage : {image table b : List ℕ} {t : ℕ} {w : ThreadState} {r returns vs : List ℕ} {p : Result Passage Trap}
    → Enters image table b t w r returns vs p → passage_waits p ≡ awaited_by image table b t
waits-passage {image} {table} {b} {t} {w} {p = p} e = case _ p e.passes
  where
    case : (k : Job) (p : Result Passage Trap) → Passes image table (machine_from b) t w.locks k p
        → passage_waits p ≡ awaited_by image table b t
    case k (Err x) h = by_answer _ _ _ h
    case k (Ok (Wait l u)) h = ap Some h.1 ∙ by_answer _ _ _ h.0
    case k (Ok (Go l)) h = by_answer _ _ _ h.1
    case k (Ok Own) h = by_answer _ _ _ h

-- ---- any other statement asks for no lock

abbrev Quiet : Effect → Type 0
Quiet (traps r) = Unit {0}
Quiet exits = Unit {0}
Quiet (moves j ws g none) = Unit {0}
Quiet (moves j ws g (some b)) = ⊥

-- by the role of label A: only the signal of a direct SEND or a CALL asks for a lock
abbrev pub Lockless : Role → Type 0
Lockless Unused = Unit {0}
Lockless Inner = Unit {0}
Lockless Direct = ⊥
Lockless Local = Unit {0}
Lockless Buffered = Unit {0}

-- of the opcodes 5 is a direct SEND, 7 a CALL, and no other takes a lock
module _ (r : List ℕ) where
  pub opcode-send : opcode r ≡ send_direct_code → statement_of r ≡ SendDirect
  unfolding operation_at other_at statement_of
  opcode-send e = rw e (rw e)

  pub opcode-call : opcode r ≡ call_code → statement_of r ≡ Call
  unfolding operation_at other_at statement_of
  opcode-call e = rw e (rw e)

  -- each row of the opcodes that are not of ASSIGN's kind
  AllLockless : List Other → Type 0
  AllLockless [] = Unit {0}
  AllLockless (x ∷ xs) = (opcode r ≡ x.opcode → Lockless (role_a (x.statement r))) × AllLockless xs

  lockless-in : (xs : List Other) → AllLockless xs → Lockless (role_a (other_or (other_in xs (opcode r) r)))
  unfolding AllLockless
  lockless-in [] h = tt
  lockless-in (x ∷ xs) h = case (eqb (opcode r) x.opcode) refl (lockless-in xs h.1)
    where
      case : (b : Bool) → eqb (opcode r) x.opcode ≡ b → Lockless (role_a (other_or (other_in xs (opcode r) r)))
          → Lockless (role_a (other_or (cond b (some (x.statement r)) (other_in xs (opcode r) r))))
      case true e ih = h.0 (eqb-true (opcode r) x.opcode e)
      case false e ih = ih

  pub opcode-other : (opcode r ≡ send_direct_code → ⊥) → (opcode r ≡ call_code → ⊥) → Lockless (role_a (statement_of r))
  unfolding other_at statement_of AllLockless
  opcode-other n m = by (operation_at (opcode r) (operator r))
    where
      rows : AllLockless others
      rows = (
        λ e. tt,
        (
          λ e. tt,
          (
            λ e. tt,
            (
              λ e. absurd (n e),
              (
                λ e. tt,
                (
                  λ e. absurd (m e),
                  (
                    λ e. tt,
                    (
                      λ e. tt,
                      (
                        λ e. tt,
                        (λ e. tt, tt),
                      ),
                    ),
                  ),
                ),
              ),
            ),
          ),
        ),
      )

      by : (k : Option Operation) → Lockless (role_a (statement_by k r))
      by none = lockless-in others rows
      by (some k) = tt

module _ (block : ℕ → ℕ) (row : ℕ → Row) (t a b : ℕ) (gs : List Signal) where
  quiet-back : (g : Going) (rs : List ℕ) → Quiet (steer block row t a b gs g back rs)
  quiet-back g [] = tt
  quiet-back g (r ∷ rs) = tt

  -- what leads into no other block asks for no lock
  quiet-steer : (x y : Role) (g : Going) (n : Next) (rs : List ℕ) → Leads x y n → Lockless x → Quiet (steer block row t a b gs g n rs)
  quiet-steer x y g on_a rs l h = tt
  quiet-steer x y g on_b rs l h = tt
  quiet-steer x y g into_a rs l h = absurd (subst Lockless l h)
  quiet-steer x y g call_a rs l h = absurd (subst Lockless l.0 h)
  quiet-steer x y g back rs l h = quiet-back g rs

  quiet_resolve : (x y : Role) (o : Got Outcome) (rs : List ℕ) → Refers x y o → Lockless x → Quiet (resolve block row t rs gs a b o)
  quiet_resolve x y (trap r) rs l h = tt
  quiet_resolve x y (got ends) rs l h = tt
  quiet_resolve x y (got (goes g)) rs l h = quiet-steer x y g g.next rs l.0 h

quiet-act : (image table : List ℕ) (t : ℕ) (j : Job) (words : List ℕ) (pending : ℕ)
    → Lockless (role_a (statement_of (record_at image j.label)))
    → Quiet (act_by image table t j words pending)
unfolding act_by
quiet-act image table t j words pending h =
    let r : List ℕ = record_at image j.label in
    let s : Statement = statement_of r in
    quiet_resolve (block_at image) (row_at table) t (label_a r) (label_b r) j.held (role_a s) (role_b s)
    (outcome (view j words pending) s (data_of r)) j.returns
    (refers (view j words pending) s (data_of r)) h

module _ (R : Rules) (s : Machine) (t l : ℕ) (j : Job) (p : List Signal) (runs : thread_at s t ≡ running l j)
    (own : first t s.trees ≡ some p) where
  quiet-waits : Quiet (effect R s t l j p runs own) → None ≡ waits_of (awaits R s t)
  quiet-waits h = case (effect R s t l j p runs own) refl h
    where
      case : (e : Effect) → effect R s t l j p runs own ≡ e → Quiet e → None ≡ waits_of (awaits R s t)
      case (traps r) e q = by_answer R s t (traps-by R s t l j p runs own r e)
      case exits e q = by_answer R s t (exits_by R s t l j p runs own e)
      case (moves k ws g none) e q = by_answer R s t (moves-by R s t l j p runs own k ws g e)
      case (moves k ws g (some b)) e q = absurd q

pub waits-nobody : {image table b : List ℕ} {t : ℕ} {w : ThreadState} {r : List ℕ} → At image table b t w r
    → Lockless (role_a (statement_of r)) → None ≡ awaited_by image table b t
waits-nobody {image} {table} {b} {t} {w} {r} h q =
    quiet-waits (rules_by image table) (machine_from b) t w.locks (job_of w) (tree h).0 h.runs (tree h).1
    (quiet-act image table t (job_of w) _ _ (subst (λ (x : List ℕ). Lockless (role_a (statement_of x))) h.here q))

-- ---- the start of a job

abbrev first_waits : code.Option First → code.Option Thread
first_waits None = None
first_waits (Some (found.Wait l u)) = Some u
first_waits (Some (found.Go i l)) = None

pub waits-first : {image table b : List ℕ} (h : Ready image table b) (t : ℕ) → thread_at (machine_from b) t ≡ idle → {f : code.Option First}
    → FirstOf image table (machine_from b) t f → (g : code.Option First) → f ≡ g → first_waits g ≡ awaited_by image table b t
waits-first {image} {table} {b} h t rests k g e = case g (subst (FirstOf image table (machine_from b) t) e k)
  where
    case : (g : code.Option First) → FirstOf image table (machine_from b) t g → first_waits g ≡ awaited_by image table b t
    case None k = by_answer _ _ t (no-tree (rules_by image table) (machine_from b) t rests k)
    case (Some (found.Wait l u)) k = ap Some k.2.1 ∙ by_answer _ _ t (start-waiting h t rests k.1 k.2.0)
    case (Some (found.Go i l)) k = by_answer _ _ t (start-running h t rests k.0 k.1)
