-- The steps of a running thread that the trials are about, each over the number: of return labels, of pending and held signals, of
-- values.
use mathlib.Core.Path.{◌≡◌, refl, ap, ◌∙◌}
use mathlib.Core.Logic.{◌≢◌}
use mathlib.Core.Bool.{Bool, true, false, cond, and-false}
use mathlib.Core.Option.{Option, none, some}
use mathlib.Core.List.{List, [], ◌∷◌, ◌++◌, map}
use Prim.Native.Nat.{ℕ, zero, suc, ◌+◌, ◌-◌, ◌^◌, ◌<◌, ◌≤◌}
use native.Mathlib.Omega.{arith}
use lib.Bits.{bit_or}
use lib.ListN.{length, get_or, drop, replicate, length-map}
use lib.Seq.{get_or-append-add, get_or-drop}
use lib.Dec.{eqb}
use borrow.Author.Tests.{le-leb, lt-leb, eq-eqb, ne_eqb}
use Rattle.rules.specs.Sizes.{register_count, return_count, held_count, pending_count}
use Rattle.rules.specs.Image.{record_at, label_a, label_b, Row, row_at}
use Rattle.rules.specs.Machine.{Signal, Job, job, with_held, ThreadState, idle, running, Machine, thread_at, fill, first, put}
use Rattle.rules.specs.Events.{step}
use Rattle.rules.specs.Effects.{holds, perform}
use Rattle.rules.specs.Steps.{Reply, newest, older, alien, block_at, rules_by, exiting, blocked, carry}
use Rattle.rules.specs.Steps.{react}
use Rattle.rules.specs.declared.statement.Condition.{Condition}
use Rattle.rules.specs.declared.statement.Statement.TheVariants.{If, SendDirect, SendBuffered, Call, Return, Transfer, Exit}
use Rattle.rules.specs.declared.statement.Statement.TheVariants.{SendTree}
use Rattle.rules.specs.declared.answer.Answer.TheVariants.{Trapped}
use Rattle.rules.proofs.Running.{words_of, Runs, MovesOn, trapped, exited, moves-on, own-tree}

-- the answer to a step of thread t, and the machine after it
abbrev pub step_of : List ℕ → List ℕ → Machine → ℕ → Reply
step_of image table s t = react (rules_by image table) s (step t)

-- a signal to label a is let through: its block is no FD block of a thread other than t, and no such thread holds its lock
pub record Open (image table : List ℕ) (s : Machine) (t a : ℕ) : Type 0 where
  pub own : alien (row_at table (block_at image a)) t ≡ false
  pub free : blocked (rules_by image table) t s.threads (some (block_at image a)) ≡ none

-- an FD block of another thread is alien; a CMX block and a block of its own are not
pub foreign : (r : Row) (t : ℕ) → r.kind ≡ 0 → r.thread ≢ t → alien r t ≡ true
unfolding alien
foreign r t k h = rw (k, ne_eqb r.thread t h)

pub cmx : (r : Row) (t : ℕ) → r.kind ≡ 1 → alien r t ≡ false
unfolding alien
cmx r t k = rw k

pub own : (r : Row) (t : ℕ) → r.thread ≡ t → alien r t ≡ false
unfolding alien
own r t h = rw (eq-eqb r.thread t h) (and-false (eqb r.kind 0))

-- labels A and B of the record at a job's label
abbrev pub A : List ℕ → Job → ℕ
A image j = label_a (record_at image j.label)

abbrev pub B : List ℕ → Job → ℕ
B image j = label_b (record_at image j.label)

module _ (image table : List ℕ) {s : Machine} {t locks : ℕ} {j : Job} {values : List ℕ} where
  pub return-trap : Runs image s t locks j Return values → j.returns ≡ [] → (step_of image table s t).answer ≡ Trapped 2
  unfolding perform
  return-trap r e = trapped image table r 2 (rw e)

  pub return : Runs image s t locks j Return values → (a : ℕ) (l : List ℕ) → j.returns ≡ a ∷ l
      → MovesOn (step_of image table s t) t locks (with_held j.held (job (newest a l) (older a l) (fill values)))
  unfolding perform blocked
  return r a l e = moves-on image table r _ (words_of image s j) none none (rw e) refl

  pub call-trap : Runs image s t locks j Call values → return_count ≤ length j.returns → (step_of image table s t).answer ≡ Trapped 3
  unfolding perform
  call-trap r h = trapped image table r 3 (rw (le-leb return_count (length j.returns) h))

  pub call : Runs image s t locks j Call values → length j.returns < return_count → Open image table s t (A image j)
      → MovesOn (step_of image table s t) t (bit_or locks (2 ^ (row_at table (block_at image (A image j))).lock))
      (with_held j.held (job (A image j) (j.returns ++ B image j ∷ []) (fill values)))
  unfolding perform
  call r h o =
      moves-on image table r _ (words_of image s j) none (some (block_at image (A image j)))
      (rw (lt-leb return_count (length j.returns) h, o.own))
      o.free

  pub send-trap : Runs image s t locks j SendBuffered values → (p : List Signal) → first t s.trees ≡ some p → pending_count ≤ length p
      → (step_of image table s t).answer ≡ Trapped 4
  unfolding perform
  send-trap r p e h = trapped image table r 4 (rw (e, le-leb pending_count (length p) h))

  pub send : Runs image s t locks j SendBuffered values → (p : List Signal) → first t s.trees ≡ some p → length p < pending_count
      → MovesOn (step_of image table s t) t locks (with_held j.held (job (B image j) j.returns j.registers))
  unfolding perform blocked
  send r p e h =
      moves-on image table r _ (words_of image s j) (some (record { label = A image j; values = values })) none
      (rw (e, lt-leb pending_count (length p) h)) refl

  pub send-kept : Runs image s t locks j SendBuffered values → (p : List Signal) → first t s.trees ≡ some p → length p < pending_count
      → (step_of image table s t).state.trees ≡ put t (some (p ++ record { label = A image j; values = values } ∷ [])) s.trees
  unfolding perform blocked
  send-kept r p e h =
      own-tree image table r (with_held j.held (job (B image j) j.returns j.registers)) (words_of image s j)
      (some (record { label = A image j; values = values })) none
      (rw (e, lt-leb pending_count (length p) h)) refl
      ∙ rw e

  pub direct : Runs image s t locks j SendDirect values → Open image table s t (A image j)
      → MovesOn (step_of image table s t) t (bit_or locks (2 ^ (row_at table (block_at image (A image j))).lock))
      (with_held j.held (job (A image j) j.returns (fill values)))
  unfolding perform
  direct r o = moves-on image table r _ (words_of image s j) none (some (block_at image (A image j))) (rw o.own) o.free

  pub transfer : Runs image s t locks j Transfer values
      → MovesOn (step_of image table s t) t locks
      (with_held j.held (job (A image j) j.returns (map some values ++ drop (length values) j.registers)))
  unfolding perform blocked
  transfer r = moves-on image table r _ (words_of image s j) none none refl refl

  -- to an FD block of another thread
  pub direct-trap : Runs image s t locks j SendDirect values → alien (row_at table (block_at image (A image j))) t ≡ true
      → (step_of image table s t).answer ≡ Trapped 5
  unfolding perform row_at
  direct-trap r h = trapped image table r 5 (rw h)

  -- IF: on to A if p and q are in the relation, else to B
  pub branch : (c : Condition) (b : Bool) → Runs image s t locks j (If c) values
      → holds c.relation (get_or values 0 0) (get_or values 1 0) ≡ b
      → MovesOn (step_of image table s t) t locks
      (with_held j.held (job (cond b (A image j) (B image j)) j.returns j.registers))
  unfolding perform blocked
  branch c true r h = moves-on image table r _ (words_of image s j) none none (rw h) refl
  branch c false r h = moves-on image table r _ (words_of image s j) none none (rw h) refl

  -- EXIT: the job's own tree is settled, then the signals that it held found trees
  pub exit : Runs image s t locks j Exit values → step_of image table s t ≡ carry (rules_by image table) s (exiting t j.held)
  unfolding perform
  exit r = exited image table r refl

  -- SEND JOBTREE with four signals held, and with fewer
  pub hold-trap : Runs image s t locks j SendTree values → held_count ≤ length j.held → (step_of image table s t).answer ≡ Trapped 6
  unfolding perform
  hold-trap r h = trapped image table r 6 (rw (le-leb held_count (length j.held) h))

  pub hold : Runs image s t locks j SendTree values → length j.held < held_count
      → MovesOn (step_of image table s t) t locks
      (with_held (j.held ++ record { label = A image j; values = values } ∷ []) (job (B image j) j.returns j.registers))
  unfolding perform blocked
  hold r h = moves-on image table r _ (words_of image s j) none none (rw (lt-leb held_count (length j.held) h)) refl

-- ---- the registers from the number of values on

-- register r of a thread
abbrev pub register : ThreadState → ℕ → Option ℕ
register idle r = none
register (running locks j) r = get_or j.registers r none

past : (values : List ℕ) (rest : List (Option ℕ)) (r : ℕ) → length values ≤ r
    → get_or (map some values ++ rest) r none ≡ get_or rest (r - length values) none
past values rest r h =
    let e : r ≡ length (map {B = Option ℕ} some values) + (r - length values) = rw length-map (omega arith) in
    ap (λ k. get_or (map some values ++ rest) k none) e ∙ get_or-append-add (map some values) rest (r - length values) none

absent : (n r : ℕ) → ◌≡◌ {A = Option ℕ} (get_or (replicate n none) r none) none
absent zero r = refl
absent (suc n) zero = refl
absent (suc n) (suc r) = absent n r

module _ (image table : List ℕ) {s : Machine} {t locks : ℕ} {j : Job} {values : List ℕ} where
  pub transfer-keeps : Runs image s t locks j Transfer values → (r : ℕ) → length values ≤ r
      → register (thread_at (step_of image table s t).state t) r ≡ get_or j.registers r none
  transfer-keeps w r h =
      let e : length values + (r - length values) ≡ r = omega arith in
      rw ((transfer image table w).thread, past values (drop (length values) j.registers) r h, get_or-drop, e)

  pub direct-clears : Runs image s t locks j SendDirect values → Open image table s t (A image j) → (r : ℕ) → length values ≤ r
      → register (thread_at (step_of image table s t).state t) r ≡ none
  direct-clears w o r h =
      rw (direct image table w o).thread
      (past values (replicate (register_count - length values) none) r h ∙ absent (register_count - length values) (r - length values))
