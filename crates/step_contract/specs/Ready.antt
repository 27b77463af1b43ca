-- A state that an event can be carried out on: the image and the table have passed the check, and the bytes are those of a well-formed
-- machine. Every accepted event leaves such a state.
use Rattle.std.specs.Prelude.{◌≡◌, refl, List, ℕ, ◌<◌, drop}
use Rattle.std.proofs.Math.Path.{sym, ap}
use Rattle.std.proofs.Common.{◌∙◌, subst}
use Rattle.std.proofs.Math.Option.{Option, some}
use Rattle.std.proofs.Math.ListN.{length, set}
use Rattle.rules.specs.Sizes.{thread_count}
use Rattle.rules.specs.Check.{Checked}
use Rattle.rules.specs.Machine.{Machine, Job, job, thread_at, running}
use Rattle.rules.specs.Encoding.{machine_from}
use Rattle.rules.specs.Events.{Event, step}
use Rattle.rules.specs.Steps.{rules_by, Reply, react, finished}
use Rattle.rules.specs.declared.answer.Answer.{Answer}
use Rattle.bytes_fields.specs.Put.{put}
use Rattle.lemmas_encoding.specs.Slots.{returns_in, registers_in}
use Rattle.lemmas_encoding.specs.Encoded.{Encodes, Canonical, encoded-machine, encoded-canonical}
use Rattle.lemmas_invariant.specs.Sound.{Sound}
use Rattle.lemmas_invariant.specs.StaysWellFormed.{Accepted}
use Rattle.lemmas_invariant.proofs.StaysWellFormed.{sound-react}
use Rattle.state_thread.specs.Threads.{Says, Running, Runs, job_of, keeping, returns_of}
use Rattle.state_thread.specs.Threads.{registers_of, with_job, runs-fields, runs-itself, says-runs}
use Rattle.state_thread.specs.Records.{thread_place, raw_thread, raw_bytes}
use Rattle.state_thread.specs.Same.{same-thread, same-returns, same-signals, set-registers, returns-counted}
use Rattle.state_thread.specs.declared.thread.ThreadState.{ThreadState}
use Rattle.state_thread_record.specs.Stores.{HeadThere, HeldThere}
use Rattle.state_thread_record.specs.Records.{thread-read, thread-written}

pub record Ready (image table b : List ℕ) : Type 0 where
  pub checked : Checked image table
  pub canonical : Canonical b
  pub sound : Sound image table (machine_from b)

-- the thread that thread t's record in the bytes b says
abbrev pub thread_in : List ℕ → ℕ → ThreadState
thread_in b t = raw_thread (drop (thread_place t) b)

abbrev pub Recorded : List ℕ → ℕ → ThreadState → Type 0
Recorded b t w = w ≡ thread_in b t

-- the reply to an event, and what carrying it out has to leave: its answer, and the bytes of its machine
abbrev pub reply_to : List ℕ → List ℕ → List ℕ → Event → Reply
reply_to image table b e = react (rules_by image table) (machine_from b) e

pub record Done (r : Reply) (b : List ℕ) (a : Answer) : Type 0 where
  pub answer : a ≡ r.answer
  pub canonical : Canonical b
  pub machine : machine_from b ≡ r.state

-- what every step of thread t leaves
abbrev pub Stepped : List ℕ → List ℕ → List ℕ → ℕ → List ℕ → Answer → Type 0
Stepped image table before t after answer = Done (reply_to image table before (step t)) after answer

-- what every end of thread t's job leaves
abbrev pub Ended : List ℕ → List ℕ → List ℕ → ℕ → List ℕ → Type 0
Ended image table before t after = Encodes after (finished (rules_by image table) t (machine_from before))

-- the bytes that are left are those of a machine, which the reply has
pub done : {r : Reply} {b : List ℕ} {a : Answer} (s : Machine) (x : Answer) → r ≡ record { state = s; answer = x } → a ≡ x → Encodes b s
    → Done r b a
done {r} {b} {a} s x e f h = record {
  answer = f ∙ ap (λ (q : Reply). q.answer) (sym e);
  canonical = encoded-canonical b s h;
  machine = encoded-machine b s h ∙ ap (λ (q : Reply). q.state) (sym e);
}

-- a thread that runs a job, written
pub job-written : {b b' : List ℕ} (t : ℕ) {w : ThreadState} {locks : ℕ} {j : Job} → Canonical b → t < thread_count → Runs w locks j
    → b' ≡ put b (thread_place t) (raw_bytes w) → Encodes b' (with_job (machine_from b) t locks j)
job-written {b} t {w} h l r e = rw r.state at (thread-written b (machine_from b) h t w l r.running.tidy e)

-- a thread that runs a job, where the bytes say that job: it is what the record says
pub recorded : {b : List ℕ} (t : ℕ) {w : ThreadState} {locks : ℕ} {j : Job} → Canonical b → t < thread_count → Runs w locks j
    → thread_at (machine_from b) t ≡ running locks j → Recorded b t w
recorded {b} t h l r e =
    same-thread (says-runs r (subst (Says (thread_in b t)) e (thread-read b (machine_from b) h t l))) r

-- ---- a running thread that was read, after ASSIGN to a register

module _ {b : List ℕ} {t : ℕ} {w : ThreadState} (e : Recorded b t w) (h : Running w) {x : ThreadState} where
  -- the return labels, the signals held, and all registers but one are as the record has them
  pub slots-assigned : {locks l : ℕ} (k v : ℕ) → Runs x locks (keeping w (job l (returns_of w) (set (registers_of w) k (some v))))
      → (x.returns ≡ returns_in b t) × (x.registers ≡ set (registers_in b t) k v) × HeldThere b t x
  unfolding raw_thread
  slots-assigned k v r =
      let f = (runs-fields r).1 in
      let z = h.tidy in
      let y = r.running.tidy in
      let signals = same-signals w x z y (ap (λ (j : Job). j.held) f) in (
        same-returns w x z y (ap (λ (j : Job). j.returns) f) ∙ ap (λ (q : ThreadState). q.returns) e,
        set-registers w x z y k v (ap (λ (j : Job). j.registers) f) ∙ ap (λ (q : ThreadState). set q.registers k v) e,
        record {
          count = signals.0 ∙ ap (λ (q : ThreadState). q.held) e;
          signals = signals.1 ∙ ap (λ (q : ThreadState). q.signals) e;
        },
      )

  -- and so is the head, where the thread stays at its label
  pub head-assigned : {registers : List (Option ℕ)} → Runs x w.locks (keeping w (job w.label.0 (returns_of w) registers))
      → HeadThere b t x
  unfolding raw_thread
  head-assigned r =
      let f = runs-fields r in
      let depth = sym (returns-counted x r.running.tidy) ∙ ap (λ (j : Job). length j.returns) f.1 ∙ returns-counted w h.tidy in
      record {
        label = ap (λ (j : Job). j.label) f.1 ∙ ap (λ (q : ThreadState). q.label.0) e;
        locks = f.0 ∙ ap (λ (q : ThreadState). q.locks) e;
        depth = depth ∙ ap (λ (q : ThreadState). q.depth) e;
      }

-- a running thread is what its record says in the bytes of every machine in which it runs its job
pub still-recorded : {b : List ℕ} {s : Machine} (t : ℕ) {w : ThreadState} → t < thread_count → Running w → Encodes b s
    → thread_at s t ≡ running w.locks (job_of w) → Recorded b t w
still-recorded {b} {s} t l r k e =
    recorded t (encoded-canonical b s k) l (runs-itself r) (ap (λ (q : Machine). thread_at q t) (encoded-machine b s k) ∙ e)

module _ {image table b : List ℕ} (h : Ready image table b) where
  pub ready-again : {b' : List ℕ} {a : Answer} (e : Event) → Accepted image e → Done (reply_to image table b e) b' a → Ready image table b'
  ready-again e k d = record {
    checked = h.checked;
    canonical = d.canonical;
    sound = rw d.machine (sound-react image table h.checked (machine_from b) e h.sound k);
  }

  -- thread t, read
  pub says : (t : ℕ) {w : ThreadState} → t < thread_count → Recorded b t w → Says w (thread_at (machine_from b) t)
  says t l e = rw e (thread-read b (machine_from b) h.canonical t l)

  -- thread t, which was read and runs a job
  pub stands : (t : ℕ) {w : ThreadState} → t < thread_count → Recorded b t w → Running w
      → thread_at (machine_from b) t ≡ running w.locks (job_of w)
  stands t l e r = sym (says t l e).state ∙ (runs-itself r).state

  -- a step that leaves the thread with these locks and this job, and all else as it was
  pub thread-stepped : (t : ℕ) {w : ThreadState} {locks : ℕ} {j : Job} {b' : List ℕ} (x : Answer) → t < thread_count
      → reply_to image table b (step t) ≡ record { state = with_job (machine_from b) t locks j; answer = x }
      → Runs w locks j → b' ≡ put b (thread_place t) (raw_bytes w) → Stepped image table b t b' x
  thread-stepped t {w} {locks} {j} x l e r f =
      done (with_job (machine_from b) t locks j) x e refl (job-written t h.canonical l r f)
