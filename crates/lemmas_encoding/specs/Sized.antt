-- The machines that the state's bytes have room for: counts within the limits of docs/MACHINE.md, and no running thread at the label that
-- says
-- idle. Of the numbers themselves nothing is asked.
use Rattle.std.specs.Prelude.{◌≡◌, List, ℕ, ◌*◌, ◌≤◌, length}
use Rattle.rules.specs.Sizes.{thread_count, block_count, word_count, register_count, return_count, held_count, tree_count, pending_count}
use Rattle.rules.specs.Sizes.{idle_label}
use Rattle.rules.specs.Machine.{Signal, Tree, Job, ThreadState, idle, running, Machine}
use Rattle.bytes_fields.specs.Each.{Each}

abbrev pub SizedSignal : Signal → Type 0
SizedSignal g = length g.values ≤ register_count

-- at most n signals
pub record SizedSignals (n : ℕ) (gs : List Signal) : Type 0 where
  pub count : length gs ≤ n
  pub each : Each SizedSignal gs

pub record SizedJob (j : Job) : Type 0 where
  pub label : j.label ≡ idle_label → ⊥
  pub returns : length j.returns ≤ return_count
  pub registers : length j.registers ≡ register_count
  pub held : SizedSignals held_count j.held

abbrev pub SizedThread : ThreadState → Type 0
SizedThread idle = Unit {0}
SizedThread (running locks j) = SizedJob j

abbrev pub SizedTree : Tree → Type 0
SizedTree x = SizedSignals pending_count x.pending

pub record Sized (s : Machine) : Type 0 where
  pub words : length s.words ≡ block_count * word_count
  pub threads : length s.threads ≡ thread_count
  pub trees : length s.trees ≤ tree_count
  pub each_thread : Each SizedThread s.threads
  pub each_tree : Each SizedTree s.trees
