-- Which labels the signals of a lent state may have, on bytes, computed: `signals`. A held signal's label has entry 2, a pending one's 2
-- or 3; every other is number 6. Sizes and numbers are those of docs/MACHINE.md, so that a wrong one in the law fails here.
use Rattle.std.specs.Prelude.{◌≡◌, refl, List, [], ◌∷◌, ◌++◌, ℕ, replicate}
use Rattle.std.proofs.Math.Option.{Option-elim}
use Rattle.std.proofs.Math.Decide.{ℕ_discrete}
use Rattle.rules.specs.Bytes.{num16, num32, part, is_zeros, all_from, first_bad, pad, chunks, every}
use Rattle.rules.specs.Image.{labels, record_at, row_at}
use Rattle.rules.specs.Statements.{operation_at, other_at, statement_of}
use Rattle.rules.specs.Check.{other_ok, head_ok, operand_slot_ok, label_ok, rule_ok, record_ok}
use Rattle.rules.specs.Check.{row_ok, image_length_fault, table_length_fault}
use Rattle.rules.specs.Check.{table_fault, record_fault, first_refusal}
use Rattle.rules.specs.Machine.{queue}
use Rattle.rules.specs.Encoding.{registers_from, job_from, thread_from, signal_from, tree_from, words_from, machine_from}
use Rattle.rules.specs.WellFormed.{absent_zero, running_tidy, thread_tidy, signal_tidy, signal_at_tidy}
use Rattle.rules.specs.WellFormed.{signals_tidy, tree_tidy, thread_at_tidy}
use Rattle.rules.specs.WellFormed.{tree_at_tidy, state_tidy, apart, place_ok, held_ok, thread_ok, threads_ok, pending_ok}
use Rattle.rules.specs.WellFormed.{tree_ok, homed, queues_ok}
use Rattle.rules.specs.WellFormed.{machine_ok, well_formed}
use Rattle.rules.specs.Calls.{state_length_fault, state_fault, events_length_fault, event_fault, answers_length_fault, run_return}
use Rattle.theorem_trials.specs.Lent.{exiting, times, table}

-- EXITs in block 0: label 0 has entry 0, and so on to label 3
abbrev image : List ℕ
image = exiting 0 0 ++ exiting 0 1 ++ exiting 0 2 ++ exiting 0 3

-- the 53 bytes of a signal without values
abbrev signal : ℕ → List ℕ
signal l = l ∷ replicate 52 0

-- the 288 bytes of an idle thread, and of a job at label 0 that holds lock 0 and one signal, to l
abbrev idle : List ℕ
idle = 255 ∷ 255 ∷ replicate 286 0

abbrev holding : ℕ → List ℕ
holding l = 0 ∷ 0 ∷ 1 ∷ replicate 72 0 ++ 1 ∷ signal l ++ replicate 159 0

-- a tree of thread 0, its eight signals taking 424 bytes: without a signal, and with one pending, to l
abbrev empty : List ℕ
empty = 0 ∷ 0 ∷ replicate 424 0

abbrev pending : ℕ → List ℕ
pending l = 0 ∷ 1 ∷ signal l ++ replicate 371 0

-- the words 0, thread 0 this, the others idle, and this one tree: what Run without events returns
abbrev returned : List ℕ → List ℕ → ℕ
returned thread tree =
    run_return image table (replicate 512 0 ++ thread ++ times 7 idle ++ 1 ∷ tree ++ replicate 6390 0) [] []

pub record Signals : Type 0 where
  -- held: of entries 0 to 3, and to no record
  pub held_inner : returned (holding 0) empty ≡ 393216
  pub held-direct : returned (holding 1) empty ≡ 393216
  pub held-buffered : returned (holding 2) empty ≡ 0
  pub held-external : returned (holding 3) empty ≡ 393216
  pub held-nowhere : returned (holding 4) empty ≡ 393216
  -- pending, likewise
  pub pending-inner : returned idle (pending 0) ≡ 393216
  pub pending-direct : returned idle (pending 1) ≡ 393216
  pub pending-buffered : returned idle (pending 2) ≡ 0
  pub pending-external : returned idle (pending 3) ≡ 0
  pub pending-nowhere : returned idle (pending 4) ≡ 393216

pub signals : Signals
unfolding num16 num32 part is_zeros all_from first_bad pad chunks every labels record_at row_at operation_at other_at statement_of other_ok
    head_ok operand_slot_ok label_ok rule_ok record_ok row_ok image_length_fault table_length_fault table_fault record_fault first_refusal
    queue registers_from job_from thread_from signal_from tree_from words_from machine_from absent_zero running_tidy thread_tidy
    signal_tidy signal_at_tidy signals_tidy tree_tidy thread_at_tidy tree_at_tidy state_tidy apart place_ok held_ok thread_ok threads_ok
    pending_ok tree_ok homed queues_ok machine_ok well_formed state_length_fault state_fault events_length_fault event_fault
    answers_length_fault run_return ℕ_discrete Option-elim
signals = record {
  held_inner = refl;
  held-direct = refl;
  held-buffered = refl;
  held-external = refl;
  held-nowhere = refl;
  pending-inner = refl;
  pending-direct = refl;
  pending-buffered = refl;
  pending-external = refl;
  pending-nowhere = refl;
}
