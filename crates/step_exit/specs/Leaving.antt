-- What EXIT leaves: the own tree settled, the held signals admitted, the thread cleared.
use Rattle.std.specs.Prelude.{◌≡◌, refl, ℕ, ◌<◌, length, get_or}
use Rattle.std.proofs.Common.{sym, ap, ◌∙◌, subst, arith}
use mathlib.Core.List.{List, []}
use Rattle.rules.specs.Machine as law
use Rattle.rules.specs.Machine.{Signal, Machine, idle, with_thread}
use Rattle.rules.specs.Encoding.{no_signal, machine_from}
use Rattle.rules.specs.Steps.{rules_by, finished, admitted, lost}
use Rattle.rules.specs.Statements.{statement_of}
use Rattle.rules.specs.declared.answer.Answer.TheVariants.{Exited}
use Rattle.rules.specs.declared.statement.Statement.TheVariants.{Exit}
use Rattle.bytes_fields.specs.Each.{Each, each_at}
use Rattle.lemmas_rules.specs.Admitted.{admitted-threads, admitted-thread, lost-thread}
use Rattle.lemmas_invariant.specs.Sound.{HeldIn, ThreadIn}
use Rattle.lemmas_encoding.specs.Encoded.{Canonical, Encodes, encoded-machine, encoded-canonical}
use Rattle.state_signal.specs.Signals.{signal_of, TidySignal}
use Rattle.state_signal.specs.declared.Signal as Value
use Rattle.state_thread.specs.Held.{held-counted, no-signals}
use Rattle.state_thread.specs.Threads.{signals_of, job_of}
use Rattle.state_thread.specs.declared.thread.ThreadState.{ThreadState}
use Rattle.lemmas_step.specs.Statements.{leaves}
use Rattle.step_contract.specs.Ready.{Recorded, Stepped, Ended, done, still-recorded}
use Rattle.step_contract.specs.At.{At, tree, statement-here}
use Rattle.step_end.specs.Home.{settled}
use Rattle.step_exit.specs.Admitting.{Admissible, Through, places, four-places}

module _ {image table b : List ℕ} {t : ℕ} {w : ThreadState} {r : List ℕ} (h : At image table b t w r) where
  abbrev m : Machine
  m = machine_from b

  abbrev gs : List Signal
  gs = signals_of w

  pub counted : length gs ≡ w.held
  counted = held-counted w.held w.signals h.thread.tidy.held

  -- the signals that the job holds have entry 2
  held_in : (i : ℕ) {g : Signal} → g ≡ get_or gs i no_signal → i < w.held → HeldIn image table g
  held_in i e l =
      let each : Each (HeldIn image table) gs = (subst (ThreadIn image table t) h.runs (h.ready.sound.threads t)).held in
      rw e (each_at (HeldIn image table) gs i no_signal each (omega (arith, counted)))

  -- so the one at a place can be admitted to every state that is a machine's
  pub admissible : {b' : List ℕ} {s : Machine} (i : ℕ) {v : Value.Signal} → Encodes b' s
      → (signal_of v ≡ get_or gs i no_signal) × TidySignal v → Canonical b' × (i < w.held → Admissible image table b' v)
  admissible {b'} {s} i k (e, z) =
      let c = encoded-canonical b' s k in
      (c, λ l. record { checked = h.ready.checked; canonical = c; entry = held_in i e l; tidy = z })

  -- those at the four places are all
  pub all_held : {s : Machine} {k : ℕ} {b' : List ℕ} {x₀ x₁ x₂ x₃ : Signal} → x₀ ≡ get_or gs 0 no_signal → x₁ ≡ get_or gs 1 no_signal
      → x₂ ≡ get_or gs 2 no_signal → x₃ ≡ get_or gs 3 no_signal → Through (rules_by image table) s (places w.held x₀ x₁ x₂ x₃) k b'
      → Through (rules_by image table) s gs k b'
  all_held {s} {k} {b'} e₀ e₁ e₂ e₃ q =
      subst (λ (l : List Signal). Through (rules_by image table) s l k b')
      ((λ i. places (sym counted i) (e₀ i) (e₁ i) (e₂ i) (e₃ i)) ∙ four-places gs h.thread.tidy.held.sized.count) q

  -- the own tree is settled and the signals are admitted: the thread's record says w still
  pub still-runs : {b' : List ℕ} → Encodes b' (admitted (rules_by image table) gs (settled image table t m)) → Recorded b' t w
  still-runs k = still-recorded t h.inside h.thread k
      (ap (λ (z : List law.ThreadState). get_or z t idle) (admitted-threads (rules_by image table) gs (settled image table t m)) ∙ h.runs)

  -- and then it is cleared
  pub left : {b₁ b₂ : List ℕ} → Encodes b₁ (admitted (rules_by image table) gs (settled image table t m))
      → Encodes b₂ (with_thread (machine_from b₁) t idle) → Encodes b₂ (admitted (rules_by image table) gs (finished
      (rules_by image table) t m))
  left {b₁} {b₂} k₁ k₂ =
      subst (Encodes b₂)
      (ap (λ (x : Machine). with_thread x t idle) (encoded-machine b₁ _ k₁)
      ∙ sym (admitted-thread (rules_by image table) t idle gs (settled image table t m))) k₂

  pub lost-there : lost (rules_by image table) gs (settled image table t m) ≡ lost (rules_by image table) gs (finished
      (rules_by image table) t m)
  lost-there = sym (lost-thread (rules_by image table) t idle gs (settled image table t m))

  module _ (e : statement_of r ≡ Exit) where
    pub left-stepped : {b' : List ℕ} {n : ℕ} → n ≡ length (lost (rules_by image table) gs (finished (rules_by image table) t m))
        → Encodes b' (admitted (rules_by image table) gs (finished (rules_by image table) t m)) → Stepped image table b t b' (Exited n)
    left-stepped f k =
        done (admitted (rules_by image table) gs (finished (rules_by image table) t m))
        (Exited (length (lost (rules_by image table) gs (finished (rules_by image table) t m))))
        (leaves image table m t w.locks (job_of w) (tree h).0 h.runs (tree h).1 (statement-here h Exit e)) (ap Exited f) k

    -- a job that held none
    pub bare-stepped : {b' : List ℕ} → w.held ≡ 0 → Ended image table b t b' → Stepped image table b t b' (Exited 0)
    unfolding admitted lost
    bare-stepped {b'} z k =
        let none : gs ≡ [] = no-signals w.signals z in
        left-stepped (rw none refl) (subst (λ (q : List Signal). Encodes b' (admitted (rules_by image table) q (finished
        (rules_by image table) t m)))
        (sym none) k)
