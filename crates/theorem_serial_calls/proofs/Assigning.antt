-- A step of ASSIGN's kind in a list of calls: what it works out is stored, `stores`, or it traps, `traps` and `absent-source`.
use Rattle.std.specs.Prelude.{◌≡◌, refl, ◌⊎◌, ℕ, length, get_or}
use Rattle.std.proofs.Common.{ap, ◌∙◌, inl, inr, arith}
use Rattle.std.proofs.Math.Path.{subst}
use Rattle.std.proofs.Math.Option.{none, some}
use mathlib.Core.List.{List, [], ◌∷◌, ◌++◌}
use Rattle.rules.specs.Sizes.{register_count}
use Rattle.rules.specs.Image.{record_at}
use Rattle.rules.specs.Statements.{statement_of}
use Rattle.rules.specs.Machine.{Signal, Job, idle, running, Machine, thread_at, job_of, first}
use Rattle.rules.specs.Effects.{Got, trap, got, then, Results, read, read_all, compute, assigned}
use Rattle.rules.specs.Storing.{Place, length-window}
use Rattle.rules.specs.Check.{record_ok}
use Rattle.rules.specs.Events.{Event, step}
use Rattle.rules.specs.Answers.{code, detail}
use Rattle.rules.specs.Steps.{block_at}
use Rattle.rules.specs.declared.statement.Assignment.{Assignment}
use Rattle.rules.specs.declared.statement.Operand.{Operand}
use Rattle.rules.specs.declared.statement.Operand.TheVariants.{Number, Register, Word}
use Rattle.rules.specs.declared.statement.Statement.TheVariants.{Assign}
use Rattle.bytes_fields.specs.Each.{each_or}
use Rattle.lemmas_rules.specs.Passed.{Parts, passed, rule-parts}
use Rattle.lemmas_encoding.specs.Sized.{SizedThread}
use Rattle.lemmas_invariant.specs.Sound.{ThreadIn}
use Rattle.lemmas_step.specs.Reading.{pair-absent}
use Rattle.lemmas_step.specs.Statements as law
use Rattle.lemmas_step.specs.Statements.{job_cells, results}
use Rattle.step_operands.specs.Statements.{Lands}
use Rattle.theorem_serial_calls.specs.CallList.{Run, Calls, event_list, events_of}
use Rattle.theorem_serial_calls.proofs.Whole as whole
use Rattle.theorem_serial_calls.specs.Reached.{reached, Stepped, Trapped}
use Rattle.theorem_serial_calls.proofs.Reached.{good, stepped, trapped}
use Rattle.theorem_serial_calls.specs.Assigning.{leaving}

-- a place in the cells of a job that runs, for each destination that a record may have
cell : (image : List ℕ) (s : Machine) (j : Job) → length j.registers ≡ register_count → (d : Operand) → Lands d
    → Place (job_cells image s j) d
cell image s j l (Number n) h = h
cell image s j l (Register r) h = omega arith
cell image s j l (Word w) h = omega (arith, length-window (block_at image j.label) s.words)

module _ (image table words state : List ℕ) (runs : List Run) (calls : Calls image table words state runs) (before after : List Event)
    (t : ℕ) (split : events_of (event_list runs) ≡ before ++ step t ∷ after) (locks : ℕ) (j : Job)
    (busy : thread_at (reached image table words before) t ≡ running locks j) where
  -- the record at the label of a job that runs breaks no rule, and its destinations are places
  pub record-parts : Parts image (record_at image j.label)
  unfolding record_ok
  record-parts =
      let ok = whole.checked image table words state runs calls in
      let sound = (good image table words state runs calls before after t split).sound in
      let here = subst (ThreadIn image table t) busy (sound.threads t) in
      rule-parts image (record_at image j.label) ((passed image table [] ok).0.records j.label here.places.0.below)

  pub place : (d : Operand) → Lands d → Place (job_cells image (reached image table words before) j) d
  place =
      let machine = (good image table words state runs calls before after t split).sized in
      let job = subst SizedThread busy
      (each_or SizedThread (reached image table words before).threads t idle machine.each_thread tt) in
      cell image (reached image table words before) j job.registers

module _ (image table words state : List ℕ) (runs : List Run) (calls : Calls image table words state runs) (before after : List Event)
    (t : ℕ) (split : events_of (event_list runs) ≡ before ++ step t ∷ after) (locks : ℕ) (j : Job)
    (busy : thread_at (reached image table words before) t ≡ running locks j) (a : Assignment)
    (statement : statement_of (record_at image j.label) ≡ Assign a) where
  abbrev s : Machine
  s = reached image table words before

  tree : (p : List Signal) × (first t s.trees ≡ some p)
  tree = (good image table words state runs calls before after t split).sound.invariant.rooted t j (ap job_of busy)

  -- its sources, read left to right
  abbrev pair : Got (List ℕ)
  pair = read_all (job_cells image s j) (a.left ∷ a.right ∷ [])

  worked-out : (p q : ℕ) → pair ≡ got (p ∷ q ∷ []) → results (job_cells image s j) a ≡ compute a.operation p q
  worked-out p q e = ap (λ (g : Got (List ℕ)). then g (λ vs. compute a.operation (get_or vs 0 0) (get_or vs 1 0))) e

  pub stores : (p q : ℕ) (z : Results) → pair ≡ got (p ∷ q ∷ []) → compute a.operation p q ≡ got z
      → Stepped image table words state runs before after t 6 0 (leaving image s t locks j (assigned a z (job_cells image s j)))
  unfolding code detail
  stores p q z e f =
      stepped image table words state runs calls before after t split _
      (law.assigns image table s t locks j tree.0 busy tree.1 a statement z (worked-out p q e ∙ f))

  unworked : (reason : ℕ) → results (job_cells image s j) a ≡ trap reason → Trapped image table words state runs before after t reason
  unworked reason e =
      trapped image table words state runs calls before after t split reason
      (law.unworked image table s t locks j tree.0 busy tree.1 a statement reason e)

  pub traps : (p q reason : ℕ) → pair ≡ got (p ∷ q ∷ []) → compute a.operation p q ≡ trap reason
      → Trapped image table words state runs before after t reason
  traps p q reason e f = unworked reason (worked-out p q e ∙ f)

  -- an absent register is found before anything is worked out
  pub absent-source : (r : ℕ) → (a.left ≡ Register r) ⊎ (a.right ≡ Register r) → get_or j.registers r none ≡ none
      → Trapped image table words state runs before after t 1
  absent-source r place absent = unworked 1 (rw (pair-absent (job_cells image s j) a.left a.right (one place)) refl)
    where
      unread : (p : Operand) → p ≡ Register r → read (job_cells image s j) p ≡ trap 1
      unread p e = rw (e, absent)

      one : (a.left ≡ Register r) ⊎ (a.right ≡ Register r)
          → (read (job_cells image s j) a.left ≡ trap 1) ⊎ (read (job_cells image s j) a.right ≡ trap 1)
      one (inl e) = inl (unread a.left e)
      one (inr e) = inr (unread a.right e)
