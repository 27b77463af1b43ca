-- What an end leaves of a thread: the thread is idle, however deep in calls its job was.
use Rattle.std.specs.Prelude.{◌≡◌, [], ◌++◌}
use Rattle.std.proofs.Math.Option.{none}
use Rattle.rules.specs.Machine.{ThreadState, idle, locks_of, job_of, held_of}
use Rattle.rules.specs.Encoding.{signals_bytes, thread_raw, thread_bytes}
use Rattle.rules.specs.Sizes.{held_count, idle_label}

-- no lock, no return label, no register value, no held signal: the thread has no job, and its bytes are the label 65,535 and zeros
pub record Cleared (w : ThreadState) : Type 0 where
  pub state : w ≡ idle
  pub locks : locks_of w ≡ 0
  pub job : job_of w ≡ none
  pub held : held_of w ≡ []
  pub bytes : thread_bytes w ≡ thread_raw idle_label 0 0 [] 0 [] ++ signals_bytes held_count []
