-- A running thread and the record at its label, when its step is carried out.
use Rattle.std.specs.Prelude.{◌≡◌, true, false, ℕ, ◌<◌, eqb, length}
use Rattle.std.proofs.Common.{sym, ◌∙◌, arith}
use Rattle.std.proofs.Math.Path.{ap, subst}
use mathlib.Core.List.{List, []}
use Rattle.std.proofs.Math.Option.{some}
use Rattle.rules.specs.Sizes.{thread_count, idle_label}
use Rattle.rules.specs.Image.{labels, record_at, block_field, label_a, label_b}
use Rattle.rules.specs.Statements.{statement_of, role_a, role_b, data_of, reads}
use Rattle.rules.specs.Check.{record_ok}
use Rattle.rules.specs.Effects.{Got, trap, Cells, read_all}
use Rattle.rules.specs.Machine as law
use Rattle.rules.specs.Machine.{Signal, thread_at, first, idle, running, window}
use Rattle.rules.specs.Encoding.{machine_from}
use Rattle.rules.specs.Steps.{block_at, rules_by, finished}
use Rattle.rules.specs.declared.answer.Answer.{Answer}
use Rattle.rules.specs.declared.answer.Answer.TheVariants.{Trapped}
use Rattle.rules.specs.declared.statement.Statement.{Statement}
use Rattle.lemmas_rules.specs.Passed.{Parts, passed, rule-parts}
use Rattle.lemmas_rules.specs.Heads.{head-fields, few-operands}
use Rattle.lemmas_invariant.specs.Sound.{ThreadIn}
use Rattle.lemmas_encoding.specs.Slots.{registers_in}
use Rattle.lemmas_step.specs.Statements.{unread}
use Rattle.image_record.specs.Records.{labels-small, length-record}
use Rattle.state_thread.specs.Threads.{job_of, returns_of, Running, idle-says, runs-says}
use Rattle.state_thread.specs.Records.{raw_thread}
use Rattle.state_thread.specs.Same.{returns-counted}
use Rattle.state_thread.specs.declared.thread.ThreadState.{ThreadState}
use Rattle.state_thread_record.specs.Records.{Busy}
use Rattle.step_operands.specs.Legal.{Below, Readable, label-below}
use Rattle.step_operands.specs.Cells.{cells_from, cells_of}
use Rattle.step_contract.specs.Ready.{Ready, Recorded, Stepped, Ended, done, says}

-- thread t, which is w, runs a job and comes to the record r
pub record At (image table b : List ℕ) (t : ℕ) (w : ThreadState) (r : List ℕ) : Type 0 where
  pub ready : Ready image table b
  pub inside : t < thread_count
  pub read : Recorded b t w
  pub thread : Running w
  pub runs : thread_at (machine_from b) t ≡ running w.locks (job_of w)
  pub here : r ≡ record_at image w.label.0
  pub parts : Parts image r
  pub readable : Readable r

-- a thread that was read and is idle, or is not
pub at_rest : {image table b : List ℕ} (h : Ready image table b) (t : ℕ) (w : ThreadState) → t < thread_count → Recorded b t w
    → eqb w.label.0 idle_label ≡ true → thread_at (machine_from b) t ≡ idle
at_rest h t w l e n = sym (says h t l e).state ∙ idle-says w n

module _ {image table b : List ℕ} (h : Ready image table b) (t : ℕ) (w : ThreadState) (l : t < thread_count) (e : Recorded b t w)
    (n : eqb w.label.0 idle_label ≡ false) where
  pub runs-job : thread_at (machine_from b) t ≡ running w.locks (job_of w)
  runs-job = sym (says h t l e).state ∙ runs-says w n

  -- its label is below n
  pub label_inside : w.label.0 < labels image
  label_inside = (subst (ThreadIn image table t) runs-job (h.sound.threads t)).places.0.below

  pub thread-runs : Running w
  thread-runs = record { label = omega (arith, label_inside, labels-small image); tidy = (says h t l e).tidy }

  pub at : {r : List ℕ} → r ≡ record_at image w.label.0 → At image table b t w r
  unfolding record_ok
  at {r} f =
      let p : Parts image (record_at image w.label.0) = rule-parts image (record_at image w.label.0)
      ((passed image table [] h.checked).0.records w.label.0 label_inside) in
      let q : Parts image r = subst (Parts image) (sym f) p in
      record {
        ready = h;
        inside = l;
        read = e;
        thread = thread-runs;
        runs = runs-job;
        here = f;
        parts = q;
        readable = record {
          long = rw f (length-record image w.label.0 label_inside);
          block = (head-fields r q.head).block;
          few = few-operands (head-fields r q.head);
          slots = q.slots;
        };
      }

module _ {image table b : List ℕ} {t : ℕ} {w : ThreadState} {r : List ℕ} (h : At image table b t w r) where
  pub at-busy : Busy b t
  at-busy = (w.locks, job_of w, h.runs)

  -- its registers, as the record has them
  pub registers-here : w.registers ≡ registers_in b t
  unfolding raw_thread
  registers-here = ap (λ (x : ThreadState). x.registers) h.read

  -- a running thread has a tree
  pub tree : (p : List Signal) × (first t (machine_from b).trees ≡ some p)
  tree = h.ready.sound.invariant.rooted t (job_of w) (ap law.job_of h.runs)

  -- the statement at the law's record
  pub statement-here : (S : Statement) → statement_of r ≡ S → statement_of (record_at image w.label.0) ≡ S
  statement-here S e = subst (λ (q : List ℕ). statement_of q ≡ S) h.here e

  -- its labels, where it uses them
  pub label-A : (S : Statement) → statement_of r ≡ S → Below image (role_a S) (label_a r)
  label-A S e = subst (λ (q : Statement). Below image (role_a q) (label_a r)) e
      (label-below image (role_a (statement_of r)) (block_field r) (label_a r) h.parts.a)

  pub label-B : (S : Statement) → statement_of r ≡ S → Below image (role_b S) (label_b r)
  label-B S e = subst (λ (q : Statement). Below image (role_b q) (label_b r)) e
      (label-below image (role_b (statement_of r)) (block_field r) (label_b r) h.parts.b)

  pub small : (l : ℕ) → l < labels image → l < idle_label
  small l k = omega (arith, labels-small image)

  -- what the statement reads from, as the law has it
  pub block_here : block_field r ≡ block_at image w.label.0
  block_here = ap block_field h.here

  abbrev law_record : List ℕ
  law_record = record_at image w.label.0

  abbrev pub law_cells : Cells
  law_cells = record { registers = (job_of w).registers; words = window (block_at image w.label.0) (machine_from b).words }

  pub cells-here : cells_of b w r ≡ law_cells
  unfolding machine_from
  cells-here = ap (λ (q : ℕ). cells_from b q w.present w.registers) block_here

  -- the operands of the law's record, read
  pub reads_here : (S : Statement) {g : Got (List ℕ)} → read_all (cells_of b w r) (reads S (data_of r)) ≡ g
      → read_all law_cells (reads S (data_of law_record)) ≡ g
  reads_here S {g} q =
      let f = subst (λ (z : List ℕ). read_all (cells_of b w r) (reads S (data_of z)) ≡ g) h.here q in
      subst (λ (c : Cells). read_all c (reads S (data_of law_record)) ≡ g) cells-here f

  -- an operand that cannot be read
  pub unread-stepped : (S : Statement) {reason : ℕ} {b' : List ℕ} {a : Answer} → statement_of r ≡ S
      → read_all (cells_of b w r) (reads S (data_of r)) ≡ trap reason → a ≡ Trapped reason → Ended image table b t b'
      → Stepped image table b t b' a
  unread-stepped S {reason} e g f k =
      done (finished (rules_by image table) t (machine_from b)) (Trapped reason)
      (unread image table (machine_from b) t w.locks (job_of w) tree.0 h.runs tree.1 S reason (statement-here S e)
      (reads_here S g)) f k

  -- as many return labels as the thread counts
  pub depth_is : length (returns_of w) ≡ w.depth
  depth_is = returns-counted w h.thread.tidy
