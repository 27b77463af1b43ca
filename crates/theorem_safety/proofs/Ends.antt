-- Every end is clean: EXIT, a trap with any reason and a cut leave the thread idle, however deep in calls its job was.
use Rattle.std.specs.Prelude.{◌≡◌, ℕ}
use Rattle.std.proofs.Common.{ap, inl, inr}
use Rattle.std.proofs.Math.Option.{some}
use Rattle.rules.specs.Machine.{ThreadState, idle, Machine, thread_at, locks_of, job_of, held_of}
use Rattle.rules.specs.Encoding.{thread_bytes}
use Rattle.rules.specs.Answers.{close, sort}
use Rattle.rules.specs.Events.{Event, thread_of}
use Rattle.rules.specs.Steps.{Rules, Reply, finished, react}
use Rattle.rules.specs.declared.answer.Answer.TheVariants.{Exited, Trapped, WasCut}
use Rattle.lemmas_rules.specs.Locks.{get_d-set-idle}
use Rattle.lemmas_rules.specs.Admitted.{admitted-threads}
use Rattle.lemmas_rules.specs.Logic.{never}
use Rattle.lemmas_invariant.specs.Happens.{Happens, remains, founds, starts, goes, ends, happens, released}
use Rattle.theorem_safety.specs.Ends.{Cleared}

cleared : {w : ThreadState} → w ≡ idle → Cleared w
unfolding thread_bytes
cleared e = record { state = e; locks = ap locks_of e; job = ap job_of e; held = ap held_of e; bytes = ap thread_bytes e }

module _ (R : Rules) (s : Machine) (t : ℕ) where
  ended : (e : Event) (r : Reply) → Happens R s e r → thread_of e ≡ some t → sort r.answer ≡ close → Cleared (thread_at r.state t)
  ended e r (remains f a (inl q)) h k = never (cc)
  ended e r (remains f a (inr q)) h k = never (cc)
  ended e r (founds g room) h k = never (cc)
  ended e r (starts u g p w f b) h k = never (cc)
  ended e r (goes u l j j' words g want w a b) h k = never (cc)
  ended e r (ends u l j a w f) h k =
      let q : u ≡ t = cc in
      rw (admitted-threads R (released j a) (finished R u s), q) (cleared (get_d-set-idle s.threads t))

  -- an answer that ends a job
  pub every-end-is-clean : (e : Event) → thread_of e ≡ some t → sort (react R s e).answer ≡ close
      → Cleared (thread_at (react R s e).state t)
  every-end-is-clean e h k = ended e (react R s e) (happens R s e) h k

  -- each of the three sorts of end; an EXIT, however many of its signals are lost
  pub exit-is-clean : (e : Event) (lost : ℕ) → thread_of e ≡ some t → (react R s e).answer ≡ Exited lost
      → Cleared (thread_at (react R s e).state t)
  exit-is-clean e lost h k = every-end-is-clean e h (ap sort k)

  pub trap-is-clean : (e : Event) (reason : ℕ) → thread_of e ≡ some t → (react R s e).answer ≡ Trapped reason
      → Cleared (thread_at (react R s e).state t)
  trap-is-clean e reason h k = every-end-is-clean e h (ap sort k)

  pub cut-is-clean : (e : Event) → thread_of e ≡ some t → (react R s e).answer ≡ WasCut → Cleared (thread_at (react R s e).state t)
  cut-is-clean e h k = every-end-is-clean e h (ap sort k)
