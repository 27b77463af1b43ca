-- A thread that takes a lock.
use Rattle.std.proofs.Common.{subst}
use Rattle.std.specs.Prelude.{List, ℕ, ◌^◌}
use Rattle.std.specs.Int.Bits.{bit_or}
use Rattle.rules.specs.Machine as law
use Rattle.rules.specs.Machine.{Job, Machine, running, with_thread}
use Rattle.rules.specs.declared.sorts.Lock.{Lock}
use Rattle.lemmas_encoding.specs.Encoded.{Encodes}
use Rattle.state_thread.specs.Threads.{job_of, Runs, runs-fields, with_job}
use Rattle.state_thread.specs.declared.thread.ThreadState.{ThreadState}

-- thread t is w, holding the lock l besides
abbrev pub holding : Machine → ℕ → ThreadState → Lock → Machine
holding s t w l = with_job s t (bit_or w.locks (2 ^ l.0)) (job_of w)

-- the same, by the locks and the job that w has
pub holding-as : (s : Machine) (t : ℕ) (l : Lock) {b : List ℕ} {w : ThreadState} {locks : ℕ} {j : Job} → Runs w locks j
    → Encodes b (holding s t w l) → Encodes b (with_job s t (bit_or locks (2 ^ l.0)) j)
holding-as s t l {b} m n =
    let f = runs-fields m in
    subst (λ (x : law.ThreadState). Encodes b (with_thread s t x))
    (λ i. running (bit_or (f.0 i) (2 ^ l.0)) (f.1 i)) n
