-- What a SEND JOBTREE leaves on the bytes, from what the calls that carry it out leave.
use Rattle.std.specs.Prelude.{◌≡◌, List, [], ◌∷◌, ◌++◌, ℕ, ◌+◌, ◌*◌, ◌-◌, ◌≤◌, ◌<◌, length, get_or, drop, take}
use Rattle.std.proofs.Common.{sym, ◌∙◌, subst, arith, le-leb}
use Rattle.std.proofs.Math.Path.{ap}
use Rattle.std.proofs.lemmas.Bool.{lt-leb}
use Rattle.rules.specs.Sizes.{held_count, signal_size}
use Rattle.rules.specs.Codes.{held_full_code}
use Rattle.rules.specs.Image.{operands, label_a, label_b}
use Rattle.rules.specs.Statements.{statement_of}
use Rattle.rules.specs.Machine.{Signal, Job, Machine, job, with_held}
use Rattle.rules.specs.Encoding.{signal_bytes, machine_from}
use Rattle.rules.specs.Steps.{rules_by, finished}
use Rattle.rules.specs.Sorts.{label}
use Rattle.rules.specs.declared.sorts.Label.{Label}
use Rattle.rules.specs.declared.answer.Answer.{Answer}
use Rattle.rules.specs.declared.answer.Answer.TheVariants.{Moved, Trapped}
use Rattle.rules.specs.declared.statement.Statement.TheVariants.{SendTree}
use Rattle.bytes_fields.specs.Put.{put}
use Rattle.lemmas_encoding.specs.Sized.{SizedSignal}
use Rattle.lemmas_encoding.specs.Slots.{returns_in, present_in, registers_in, signals_in}
use Rattle.state_thread.specs.Held.{held-counted, held-pushed, same-held}
use Rattle.state_thread.specs.Threads.{Running, Runs, job_of, returns_of, registers_of, signals_of, runs-fields}
use Rattle.state_thread.specs.Records.{thread_place, raw_thread, raw_bytes}
use Rattle.state_thread.specs.Same.{same-returns, same-registers}
use Rattle.state_thread.specs.declared.thread.ThreadState.{ThreadState}
use Rattle.state_signal.specs.Signals.{TidySignal}
use Rattle.step_operands.specs.Readings.{Given}
use Rattle.step_operands.specs.Gathered.{zeros-stay}
use Rattle.lemmas_step.specs.Statements.{hold-full, holds_on}
use Rattle.step_contract.specs.Ready.{Recorded, Stepped, Ended, done, thread-stepped}
use Rattle.step_contract.specs.At.{At, tree, statement-here, reads_here}

-- a thread with one signal more, which goes on: the rest of it is as the record has it
module _ (b : List ℕ) (t : ℕ) {w x : ThreadState} (e : Recorded b t w) (h : Running w) (g : Signal) (few : w.held < held_count)
    (sized : SizedSignal g) {locks l : ℕ}
    (r : Runs x locks (with_held (signals_of w ++ g ∷ []) (job l (returns_of w) (registers_of w)))) where
  pushed : x.held ∷ x.signals ≡ (w.held + 1) ∷ put w.signals (signal_size * w.held) (signal_bytes g)
  pushed =
      let p = held-pushed w.held w.signals h.tidy.held g few sized in
      same-held r.running.tidy.held p.1 (ap (λ (j : Job). j.held) (runs-fields r).1 ∙ sym p.0)

  pub one_more : x.held ≡ w.held + 1
  one_more = ap (λ l. get_or l 0 0) pushed

  pub slots-held : (x.returns ≡ returns_in b t) × (x.present ≡ present_in b t) × (x.registers ≡ registers_in b t)
      × (x.signals ≡ put (signals_in b t) (signal_size * (x.held - 1)) (signal_bytes g))
  unfolding raw_thread
  slots-held =
      let f = (runs-fields r).1 in
      let z = h.tidy in
      let y = r.running.tidy in
      let registers = same-registers w x z y (ap (λ (j : Job). j.registers) f) in
      let last : w.held ≡ x.held - 1 = omega (arith, one_more) in (
        same-returns w x z y (ap (λ (j : Job). j.returns) f) ∙ ap (λ (q : ThreadState). q.returns) e,
        registers.0 ∙ ap (λ (q : ThreadState). q.present) e,
        registers.1 ∙ ap (λ (q : ThreadState). q.registers) e,
        ap (drop 1) pushed ∙ ap (λ n. put w.signals (signal_size * n) (signal_bytes g)) last
            ∙ ap (λ (q : ThreadState). put q.signals (signal_size * (x.held - 1)) (signal_bytes g)) e,
      )

module _ {image table b : List ℕ} {t : ℕ} {w : ThreadState} {r : List ℕ} (h : At image table b t w r) (e : statement_of r ≡ SendTree)
    (values : List ℕ) (g : Given b w r values) where
  abbrev m : Machine
  m = machine_from b

  abbrev vs : List ℕ
  vs = take (operands r) values

  -- the values that were read make a signal
  pub signal-tidy : (l : Label) (n : ℕ) → n ≡ operands r → TidySignal (record { label = l; count = n; values = values })
  signal-tidy l n f = record { few = rw f g.few; zeros = rw f (zeros-stay g) }

  counted : length (signals_of w) ≡ w.held
  counted = held-counted w.held w.signals h.thread.tidy.held

  pub full-stepped : {b' : List ℕ} {a : Answer} → held_count ≤ w.held → a ≡ Trapped held_full_code
      → Ended image table b t b' → Stepped image table b t b' a
  full-stepped l f k =
      done (finished (rules_by image table) t m) (Trapped held_full_code)
      (hold-full image table m t w.locks (job_of w) (tree h).0 h.runs (tree h).1 vs (statement-here h SendTree e)
      (reads_here h SendTree g.gives) (le-leb held_count (length (signals_of w)) (rw counted l))) f k

  -- the job at label B, with the signal to label A held
  abbrev pub holding : ℕ → ℕ → ℕ → Job
  holding to n next = with_held (signals_of w ++ record { label = to; values = take n values }
      ∷ []) (job next (returns_of w) (registers_of w))

  pub held-stepped : {b' : List ℕ} {x : ThreadState} (to next : Label) (n : ℕ) → to ≡ label (label_a r) → next ≡ label (label_b r)
      → n ≡ operands r → w.held < held_count → Runs x w.locks (holding to.0 n next.0)
      → b' ≡ put b (thread_place t) (raw_bytes x) → Stepped image table b t b' Moved
  held-stepped {x = x} to next n p q o l k f =
      let law : Runs x w.locks (holding (label_a r) (operands r) (label_b r)) = rw (p, q, o) at k in
      thread-stepped h.ready t Moved h.inside
      (holds_on image table m t w.locks (job_of w) (tree h).0 h.runs (tree h).1 vs (statement-here h SendTree e)
      (reads_here h SendTree g.gives) (lt-leb held_count (length (signals_of w)) (rw counted l)))
      (subst (λ (z : List ℕ). Runs x w.locks (holding (label_a z) (operands r) (label_b z))) h.here law) f
