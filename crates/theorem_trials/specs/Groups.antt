-- Blocks that one lock guards, on the bytes of the calls, computed: `groups`. A job enters two blocks of one group while another thread
-- wants the second: it waits, and the one-by-one order is the same. Counts and codes are those of docs/MACHINE.md, so that a wrong one in
-- the law fails here.
use Rattle.std.specs.Prelude.{◌≡◌, refl, ℕ, ◌+◌, replicate, take, drop}
use Rattle.std.proofs.Math.Option.{Option-elim}
use mathlib.Core.List.{List, [], ◌∷◌, ◌++◌, map, flatten}
use Rattle.std.proofs.Math.Decide.{ℕ_discrete}
use Rattle.rules.specs.Sizes.{threads_place}
use Rattle.rules.specs.Bytes.{num16, num32, part, is_zeros, all_from, first_bad, blocks, pad, chunks, every}
use Rattle.rules.specs.Image.{labels, record_at, row_at}
use Rattle.rules.specs.Statements.{operand_of, operand_at, operands_from, operation_at, optional, assignment_by}
use Rattle.rules.specs.Statements.{relation_of, condition_of, other_at, statement_of}
use Rattle.rules.specs.Check.{assign_ok, other_ok, head_ok, operand_slot_ok, label_ok, rule_ok, record_ok, row_ok, image_length_fault}
use Rattle.rules.specs.Check.{table_length_fault, table_fault, record_fault, first_refusal}
use Rattle.rules.specs.Machine.{fresh, queue, first, put, cells, stores, window, keep}
use Rattle.rules.specs.Encoding.{presence, thread_raw, thread_bytes, registers_from, job_from, thread_from, signal_bytes, signal_from}
use Rattle.rules.specs.Encoding.{tree_bytes, tree_from, encode, words_from, machine_from}
use Rattle.rules.specs.Answers.{code, detail, answer_bytes}
use Rattle.rules.specs.Events.{event_from, arrival_ok, turn_ok, event_ok, event_at_ok, events_from}
use Rattle.rules.specs.Effects.{read_all, perform, outcome}
use Rattle.rules.specs.Steps.{alien, act_by, plan_arrive, plan_idle, plan_running, plan_step, plan_cut, plan, held, blocked, attempt}
use Rattle.rules.specs.Steps.{admitted, lost, carry, react, answers, final}
use Rattle.rules.specs.WellFormed.{absent_zero, running_tidy, thread_tidy, signal_tidy, signal_at_tidy}
use Rattle.rules.specs.WellFormed.{signals_tidy, tree_tidy, thread_at_tidy}
use Rattle.rules.specs.WellFormed.{tree_at_tidy, state_tidy, apart, place_ok, held_ok, thread_ok, threads_ok, pending_ok}
use Rattle.rules.specs.WellFormed.{tree_ok, homed, queues_ok}
use Rattle.rules.specs.WellFormed.{machine_ok, well_formed}
use Rattle.rules.specs.Order.{ByteEntry, note_as, notes_by, order_by, byte_entries, byte_order}
use Rattle.rules.specs.Answers.{sort_of_code}
use Rattle.rules.specs.Walk.{mem?, walk_on, walk, holder, awaits, walk_from, met_bytes, met_count}
use Rattle.rules.specs.Calls.{thread_fault, met_length_fault, walk_fault, walk_return, walk_met}
use Rattle.rules.specs.Calls.{state_length_fault, state_fault, events_length_fault, event_fault, answers_length_fault, words_length_fault}
use Rattle.rules.specs.Calls.{check_return, fresh_return, fresh_state, run_return, run_state, run_answers}
use Rattle.theorem_trials.specs.Lent.{record_bytes, arrival_bytes, turn_bytes, times, beginning, words}
use Rattle.theorem_trials.specs.Lent.{fresh_with, answers_with, state_with}

-- labels 0 and 1 in block 1: CALL 2, return label 1; EXIT. Labels 2 and 3 in block 2: ASSIGN copy shared word 0 from 5, on to 3; RETURN.
-- Labels 4 and 5 in block 2: ASSIGN multiply shared word 0 by 3, on to 5; EXIT. Label 6 in block 5: EXIT
abbrev image : List ℕ
image =
    record_bytes 7 1 3 0 2 1 [] ++ record_bytes 10 1 0 0 0 0 [] ++ record_bytes 2 2 1 1 3 0 (2 ∷ 3 ∷ 0 ∷ 0 ∷ 1 ∷ 5 ∷ 0 ∷ [])
    ++ record_bytes 8 2 0 0 0 0 []
    ++ record_bytes 2 2 3 4 5 0 (3 ∷ 3 ∷ 0 ∷ 0 ∷ 3 ∷ 0 ∷ 0 ∷ 1 ∷ 3 ∷ 0 ∷ [])
    ++ record_bytes 10 2 0 0 0 0 []
    ++ record_bytes 10 5 3 0 0 0 []

-- lock 5 guards blocks 1 and 2, which are CMX, on threads 0 and 1; lock 2 guards block 5, on thread 2
abbrev rows : List ℕ
rows = beginning (0 ∷ 0 ∷ 0 ∷ 0 ∷ 1 ∷ 5 ∷ 1 ∷ 1 ∷ 5 ∷ 0 ∷ 0 ∷ 0 ∷ 0 ∷ 0 ∷ 0 ∷ 2 ∷ 0 ∷ 2 ∷ [])

-- arrivals at blocks 1, 2 and 5; steps of threads 0, 1, 2 and 0: a job in each of blocks 1 and 5, and that in block 1 enters block 2
abbrev entered : List ℕ
entered = arrival_bytes 0 [] ++ arrival_bytes 4 [] ++ arrival_bytes 6 [] ++ turn_bytes 2 0 ++ turn_bytes 2 1 ++ turn_bytes 2 2
    ++ turn_bytes 2 0

-- and it stores 5 there, goes back to block 1 and EXITs, thread 1 asking for block 2 before each of its steps; then the others run to
-- their ends
abbrev all_events : List ℕ
all_events = entered ++ times 3 (turn_bytes 2 1 ++ turn_bytes 2 0) ++ times 3 (turn_bytes 2 1) ++ turn_bytes 2 2

abbrev state_inside : List ℕ
state_inside = state_with rows image 7 entered

-- the same with locks 1 and 2 in place of lock 5
abbrev with_numbers : List ℕ
with_numbers = take (threads_place + 2) state_inside ++ 6 ∷ 0 ∷ drop (threads_place + 4) state_inside

-- the second order of them, as the answers make it
abbrev second_order : List ℕ
second_order = flatten (map (λ (n : ByteEntry). n.event) (byte_order (byte_entries 17 all_events (answers_with rows image 17 all_events))))

-- the table of zeros, with this lock in the last row
abbrev last_lock : ℕ → List ℕ
last_lock l = replicate 47 0 ++ l ∷ []

pub record Groups : Type 0 where
  -- thread 1 waits as long as the job on thread 0 runs, whichever block of the group it is in; the detail is the lock; block 5, whose
  -- number is the lock's, is free
  pub answers : answers_with rows image 17 all_events
      ≡ times 3 (1 ∷ 0 ∷ []) ++ 5 ∷ 0 ∷ 4 ∷ 5 ∷ 5 ∷ 0 ∷ 6 ∷ 0 ∷ times 2 (4 ∷ 5 ∷ 6 ∷ 0 ∷ [])
      ++ 4 ∷ 5 ∷ 7 ∷ 0 ∷ 5 ∷ 0 ∷ 6 ∷ 0 ∷ 7 ∷ 0 ∷ 7 ∷ 0 ∷ []
  -- shared word 0 of block 2 is then 5 × 3, the other bytes as Fresh left them
  pub state : state_with rows image 17 all_events ≡ take 64 words ++ 15 ∷ drop 65 (fresh_with rows image)
  -- in block 2, with a return label in block 1, the job holds lock 5 and no other: label, lock set and return count of thread 0
  pub locks : part state_inside threads_place 5 ≡ 2 ∷ 0 ∷ 32 ∷ 0 ∷ 1 ∷ []
  -- the walk from thread 1 comes to thread 0
  pub walk-return : walk_return image rows state_inside 1 (replicate 8 0) ≡ 2
  pub walk-met : walk_met image rows state_inside 1 (replicate 8 0) ≡ 1 ∷ 0 ∷ replicate 6 255
  -- the second order: three arrivals, and then the jobs of threads 0, 1 and 2, without a wait; the same answers and the same state
  pub order : second_order
      ≡ arrival_bytes 0 [] ++ arrival_bytes 4 [] ++ arrival_bytes 6 [] ++ times 5 (turn_bytes 2 0) ++ times 3 (turn_bytes 2 1)
      ++ times 2 (turn_bytes 2 2)
  pub order-answers : answers_with rows image 13 second_order
      ≡ times 3 (1 ∷ 0 ∷ []) ++ 5 ∷ 0 ∷ times 3 (6 ∷ 0 ∷ []) ++ 7 ∷ 0 ∷ 5 ∷ 0 ∷ 6 ∷ 0 ∷ 7 ∷ 0 ∷ 5 ∷ 0 ∷ 7 ∷ 0 ∷ []
  pub order-state : state_with rows image 13 second_order ≡ take 64 words ++ 15 ∷ drop 65 (fresh_with rows image)
  -- with the locks of its blocks' numbers, and without lock 5, the thread would not be well formed: number 6
  pub by_number : walk_return image rows with_numbers 1 (replicate 8 0) ≡ 393216
  -- a table of 32 bytes: number 2; a lock of 16 in the last row: number 3 at block 15; a lock of 15 there is one
  pub short : check_return image (replicate 32 0) ≡ 131072
  pub lock-16 : check_return image (last_lock 16) ≡ 196623
  pub lock-15 : check_return image (last_lock 15) ≡ 0

pub groups : Groups
unfolding num16 num32 part is_zeros all_from first_bad blocks pad chunks every labels record_at row_at operand_of operand_at operands_from
    operation_at optional assignment_by relation_of condition_of other_at statement_of assign_ok other_ok head_ok operand_slot_ok label_ok
    rule_ok record_ok row_ok image_length_fault table_length_fault table_fault record_fault first_refusal ℕ_discrete fresh queue first put
    cells stores window keep presence thread_raw thread_bytes registers_from job_from thread_from signal_bytes signal_from tree_bytes
    tree_from encode words_from machine_from code detail answer_bytes event_from arrival_ok turn_ok event_ok event_at_ok events_from
    read_all perform outcome alien act_by plan_arrive plan_idle plan_running plan_step plan_cut plan held blocked attempt admitted lost
    carry react answers final absent_zero running_tidy thread_tidy signal_tidy signal_at_tidy signals_tidy held_ok tree_tidy thread_at_tidy
    tree_at_tidy state_tidy apart place_ok thread_ok threads_ok pending_ok tree_ok homed queues_ok machine_ok well_formed
    state_length_fault state_fault events_length_fault event_fault answers_length_fault words_length_fault check_return fresh_return
    fresh_state run_return run_state run_answers Option-elim mem? walk_on walk holder awaits walk_from met_bytes met_count thread_fault
    met_length_fault walk_fault walk_return walk_met flatten sort_of_code note_as notes_by order_by byte_entries byte_order
groups = record {
  answers = refl;
  state = refl;
  locks = refl;
  walk-return = refl;
  walk-met = refl;
  order = refl;
  order-answers = refl;
  order-state = refl;
  by_number = refl;
  short = refl;
  lock-16 = refl;
  lock-15 = refl;
}
