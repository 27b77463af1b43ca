-- Whether a thread record is of a thread that runs.
use Rattle.std.specs.Prelude.{◌≡◌, Bool, cond, not, List, ℕ, eqb, drop}
use Rattle.std.proofs.Math.Path.{refl}
use Rattle.std.proofs.Math.Bool.{true, false}
use mir.Val.{bool_byte}
use Rattle.rules.specs.Sizes.{idle_label, locks_place}
use Rattle.rules.specs.Bytes.{num16}
use Rattle.rules.specs.Machine.{idle, running}
use Rattle.rules.specs.Encoding.{job_from, thread_from}
use Rattle.check_queues.specs.Queues.{flag}

module _ (s : List ℕ) (at : ℕ) where
  pub flag_at : bool_byte (not (eqb (num16 (drop at s)) idle_label)) ≡ flag (thread_from (drop at s))
  unfolding thread_from
  flag_at = go (eqb (num16 (drop at s)) idle_label)
    where
      go : (b : Bool) → bool_byte (not b) ≡ flag (cond b idle (running (num16 (drop locks_place (drop at s))) (job_from (drop at s))))
      go true = refl
      go false = refl
