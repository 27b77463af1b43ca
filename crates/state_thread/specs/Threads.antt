-- What a thread's state, as the code has it, says: the law's thread, with the signals that its job holds.
use Rattle.std.specs.Prelude.{◌≡◌, refl, Bool, true, false, cond, List, ◌++◌, map, ℕ, ◌-◌, ◌^◌, ◌≤◌, ◌<◌, eqb, length}
use Rattle.std.specs.Prelude.{take, drop, replicate}
use Rattle.std.proofs.Common.{sym, ap, ◌∙◌, arith, take-append-drop, length-take-le, ne_eqb, eqb-true}
use Rattle.std.proofs.Math.Option.{Option, some}
use Rattle.std.specs.Int.Bits.{bit_or}
use Rattle.std.proofs.lemmas.List.{get_or-replicate}
use Rattle.rules.specs.Sorts.{label}
use Rattle.rules.specs.Sizes.{return_count, register_count, held_size, idle_label}
use Rattle.rules.specs.Machine as law
use Rattle.rules.specs.Machine.{Signal, Job, job, with_held, idle, running, Machine, with_thread, fill}
use Rattle.rules.specs.Encoding.{registers_from}
use Rattle.state_thread.specs.Returns.{TidyReturns, no-returns}
use Rattle.state_thread.specs.Registers.{TidyRegisters, none-tidy, filled-registers, filled-tidy, overlaid-registers, overlaid-tidy}
use Rattle.state_thread.specs.Held.{held_from, TidyHeld, none-held}
use Rattle.state_thread.specs.declared.thread.ThreadState.{ThreadState}

abbrev pub returns_of : ThreadState → List ℕ
returns_of w = take w.depth w.returns

abbrev pub registers_of : ThreadState → List (Option ℕ)
registers_of w = registers_from w.present w.registers 0 register_count

abbrev pub signals_of : ThreadState → List Signal
signals_of w = held_from w.held w.signals

-- a job that holds the signals that the thread holds
abbrev pub keeping : ThreadState → Job → Job
keeping w j = with_held (signals_of w) j

abbrev pub job_of : ThreadState → Job
job_of w = keeping w (job w.label.0 (returns_of w) (registers_of w))

unfoldable pub state_of : ThreadState → law.ThreadState
state_of w = cond (eqb w.label.0 idle_label) idle (running w.locks (job_of w))

-- a machine in which thread t runs this job with these locks
abbrev pub with_job : Machine → ℕ → ℕ → Job → Machine
with_job s t locks j = with_thread s t (running locks j)

-- nothing is said but this: unused return labels, absent registers and places without a signal are zero, and so are the other fields of
-- an idle thread
pub record Tidy (w : ThreadState) : Type 0 where
  pub returns : TidyReturns w.depth w.returns
  pub registers : TidyRegisters w.present w.registers
  pub held : TidyHeld w.held w.signals
  pub nothing : w.label.0 ≡ idle_label → (w.locks ≡ 0) × (w.depth ≡ 0) × (w.present ≡ 0) × (w.held ≡ 0)

-- a thread that says x and nothing else
pub record Says (w : ThreadState) (x : law.ThreadState) : Type 0 where
  pub state : state_of w ≡ x
  pub tidy : Tidy w

abbrev pub Idle : ThreadState → Type 0
Idle w = Says w idle

-- a thread that runs a job
pub record Running (w : ThreadState) : Type 0 where
  pub label : w.label.0 < idle_label
  pub tidy : Tidy w

-- a thread that holds these locks and runs this job
pub record Runs (w : ThreadState) (locks : ℕ) (j : Job) : Type 0 where
  pub state : state_of w ≡ running locks j
  pub running : Running w

-- ---- threads made from their fields

-- a thread with nothing to do
abbrev pub idle_thread : ThreadState
idle_thread = record {
  present = 0;
  label = label idle_label;
  locks = 0;
  depth = 0;
  returns = replicate return_count 0;
  registers = replicate register_count 0;
  held = 0;
  signals = replicate held_size 0;
}

pub idle-thread : Idle idle_thread
unfolding state_of
idle-thread = record {
  state = refl;
  tidy = record {
    returns = no-returns;
    registers = none-tidy _ refl
        (λ r h. get_or-replicate {A = ℕ} register_count r 0 0 h);
    held = none-held;
    nothing = λ e. (refl, refl, refl, refl);
  };
}

pub running-thread : (w : ThreadState) (locks : ℕ) (j : Job) → w.label.0 < idle_label → TidyReturns w.depth w.returns
    → TidyRegisters w.present w.registers → TidyHeld w.held w.signals
    → w.locks ≡ locks → job_of w ≡ j → Runs w locks j
unfolding state_of
running-thread w locks j h returns registers held e f = record {
  state = rw (ne_eqb w.label.0 idle_label (λ q. omega arith), e, f);
  running = record {
    label = h;
    tidy = record { returns = returns; registers = registers; held = held; nothing = λ q. absurd (omega arith) };
  };
}

-- a running thread with other return labels
pub tidy-with : (w : ThreadState) (depth : ℕ) (returns : List ℕ) → Running w → TidyReturns depth returns
    → Tidy (record {
      label = w.label;
      locks = w.locks;
      depth = depth;
      returns = returns;
      present = w.present;
      registers = w.registers;
      held = w.held;
      signals = w.signals;
    })
tidy-with w depth returns h z = record {
  returns = z;
  registers = h.tidy.registers;
  held = h.tidy.held;
  nothing = λ q. absurd (omega (arith, h.label));
}

pub runs_as : {w : ThreadState} {locks locks' : ℕ} {j j' : Job} → Runs w locks j → locks ≡ locks' → j ≡ j' → Runs w locks' j'
runs_as h e f = rw (e, f) at h

-- what the test of a thread's label says
pub idle-says : (w : ThreadState) → eqb w.label.0 idle_label ≡ true → state_of w ≡ idle
unfolding state_of
idle-says w e = rw e refl

pub runs-says : (w : ThreadState) → eqb w.label.0 idle_label ≡ false → state_of w ≡ running w.locks (job_of w)
unfolding state_of
runs-says w e = rw e refl

-- a running thread runs its job
pub runs-itself : {w : ThreadState} → Running w → Runs w w.locks (job_of w)
runs-itself {w} h = record { state = runs-says w (ne_eqb w.label.0 idle_label (λ q. omega (arith, h.label))); running = h }

-- the fields of a thread that runs a job
pub runs-fields : {w : ThreadState} {locks : ℕ} {j : Job} → Runs w locks j → (w.locks ≡ locks) × (job_of w ≡ j)
runs-fields {w} {locks} {j} h =
    let e : running w.locks (job_of w) ≡ running locks j = sym (runs-says w
    (ne_eqb w.label.0 idle_label (λ q. omega (arith, h.running.label)))) ∙ h.state in
    (cc, cc)

-- a thread that says what another runs, runs it too
pub says-runs : {w x : ThreadState} {locks : ℕ} {j : Job} → Runs w locks j → Says x (running locks j) → Runs x locks j
says-runs {w} {x} {locks} {j} r s = record {
  state = s.state;
  running = record {
    label = go (eqb
        x.label.0 idle_label) refl;
    tidy = s.tidy;
  };
}
  where
    go : (z : Bool) → eqb x.label.0 idle_label ≡ z → x.label.0 < idle_label
    go true q = absurd (let f = sym (idle-says x q) ∙ s.state in let z : ◌≡◌ {A = ℕ} 0 1 = cc in omega arith)
    go false q =
        let f = sym (runs-says x q) ∙ s.state in
        let e : job_of x ≡ job_of w = cc (runs-fields r).1 in
        omega (arith, ap (λ (y : Job). y.label) e, r.running.label)

-- a change of locks and job after another
pub runs_then : {x y : ThreadState} {locks : ℕ} {j : Job} (L : ℕ → ℕ) (F : Job → Job) → Runs x locks j
    → Runs y (L x.locks) (F (job_of x)) → Runs y (L locks) (F j)
runs_then L F m n = runs_as n (ap L (runs-fields m).0) (ap F (runs-fields m).1)

-- an idle thread holds no lock and no signal, and has no return label and no register
pub idle-fields : (w : ThreadState) → Idle w → (w.locks ≡ 0) × (w.depth ≡ 0) × (w.present ≡ 0) × (w.held ≡ 0)
unfolding state_of
idle-fields w h = h.tidy.nothing (go (eqb w.label.0 idle_label) refl h.state)
  where
    go : (b : Bool) → eqb w.label.0 idle_label ≡ b → cond b idle (running w.locks (job_of w)) ≡ idle → w.label.0 ≡ idle_label
    go true e q = eqb-true w.label.0 idle_label e
    go false e q = absurd (let z : ◌≡◌ {A = ℕ} 0 1 = cc in omega arith)

-- ---- registers changed

-- registers 0 upward are present with the values, the others are absent and zero. Of the registers and the presence bits that came
-- nothing stays: bits 25 to 31 are zero, whatever they were
unfoldable pub filled : ThreadState → List ℕ → ThreadState
filled w vs = record {
  present = 2 ^ length vs - 1;
  label = w.label;
  locks = w.locks;
  depth = w.depth;
  returns = w.returns;
  registers = vs ++ replicate (register_count - length vs) 0;
  held = w.held;
  signals = w.signals;
}

pub filled_runs : (w : ThreadState) (vs : List ℕ) → w.label.0 < idle_label → TidyReturns w.depth w.returns
    → TidyHeld w.held w.signals → length vs ≤ register_count
    → Runs (filled w vs) w.locks (keeping w (job w.label.0 (returns_of w) (fill vs)))
unfolding filled
filled_runs w vs h z k few = running-thread _ _ _ h z (filled-tidy vs few) k refl
    (ap (λ l. keeping w (job w.label.0 (returns_of w) l)) (filled-registers vs few))

-- registers 0 to n - 1 have the first n values, the others stay
pub transferred-runs : (w : ThreadState) (l n : ℕ) (values : List ℕ) → Running w → l < idle_label → n ≤ register_count
    → length values ≡ register_count → drop n values ≡ drop n w.registers
    → Runs (record {
      present = bit_or w.present (2 ^ n - 1);
      label = label l;
      locks = w.locks;
      depth = w.depth;
      returns = w.returns;
      registers = values;
      held = w.held;
      signals = w.signals;
    }) w.locks
    (keeping w (job l (returns_of w) (map some (take n values) ++ drop n (registers_of w))))
transferred-runs w l n values h b few sized same =
    let z = h.tidy.registers in
    let vs = take n values in
    let c : length (take n values) ≡ n = length-take-le n values (omega arith) in
    let f : length (take n values) ≤ register_count = omega arith in
    let e : take n values ++ drop n w.registers ≡ values = rw (← same) (take-append-drop n values) in
    let t : TidyRegisters (bit_or w.present (2 ^ n - 1)) (take n values ++ drop n w.registers) = rw c at
    (overlaid-tidy w.present w.registers vs z.sized f z) in
    let r : registers_from (bit_or w.present (2 ^ n - 1)) (take n values ++ drop n w.registers) 0 register_count ≡ map some
    (take n values) ++ drop n (registers_of w) =
    rw c at (overlaid-registers w.present w.registers vs z.sized f) in
    running-thread _ _ _ b h.tidy.returns (rw e at t) h.tidy.held refl (ap (λ q. keeping w (job l (returns_of w) q)) (rw e at r))
