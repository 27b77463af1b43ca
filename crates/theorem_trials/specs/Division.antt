-- Division on the bytes of the calls, computed: `divisions`. Numbers are those of docs/MACHINE.md, so that a wrong one in the law fails
-- here.
use Rattle.std.specs.Prelude.{◌≡◌, refl, List, [], ◌∷◌, ◌++◌, ℕ, replicate}
use Rattle.std.proofs.Math.Option.{Option-elim}
use Rattle.std.proofs.Math.Decide.{ℕ_discrete}
use Rattle.rules.specs.Sizes.{threads_place}
use Rattle.rules.specs.Bytes.{num16, num32, part, is_zeros, all_from, any_from, first_bad, blocks, pad, chunks, every}
use Rattle.rules.specs.Image.{labels, record_at, row_at}
use Rattle.rules.specs.Statements.{operand_of, operand_at, operands_from, operation_at, optional, assignment_by, other_at, statement_of}
use Rattle.rules.specs.Check.{assign_ok, other_ok, head_ok, operand_slot_ok, label_ok, rule_ok, record_ok, row_ok, image_length_fault}
use Rattle.rules.specs.Check.{table_length_fault, table_fault, record_fault, first_refusal}
use Rattle.rules.specs.Machine.{fresh, queue, first, put, cells, stores, window, keep}
use Rattle.rules.specs.Encoding.{presence, thread_raw, thread_bytes, registers_from, job_from, thread_from, signal_bytes, signal_from}
use Rattle.rules.specs.Encoding.{tree_bytes, tree_from, encode, words_from, machine_from}
use Rattle.rules.specs.Answers.{code, detail, answer_bytes}
use Rattle.rules.specs.Events.{event_from, arrival_ok, turn_ok, event_ok, event_at_ok, events_from}
use Rattle.rules.specs.Effects.{read_all, perform, outcome}
use Rattle.rules.specs.Steps.{alien, act_by, plan_arrive, plan_idle, plan_running, plan_step, plan, held, blocked, attempt}
use Rattle.rules.specs.Steps.{admitted, lost, carry, react, answers, final}
use Rattle.rules.specs.WellFormed.{absent_zero, running_tidy, thread_tidy, signal_tidy, signal_at_tidy}
use Rattle.rules.specs.WellFormed.{signals_tidy, tree_tidy, thread_at_tidy}
use Rattle.rules.specs.WellFormed.{tree_at_tidy, state_tidy, apart, place_ok, held_ok, thread_ok, threads_ok, pending_ok}
use Rattle.rules.specs.WellFormed.{tree_ok, homed, queues_ok}
use Rattle.rules.specs.WellFormed.{machine_ok, well_formed}
use Rattle.rules.specs.Link.{shift_record, records, linked, names, share_block}
use Rattle.rules.specs.Calls.{state_length_fault, state_fault, events_length_fault, event_fault, answers_length_fault, words_length_fault}
use Rattle.rules.specs.Calls.{shared_block_fault, too_many_records_fault, output_length_fault}
use Rattle.rules.specs.Calls.{check_return, fresh_return, fresh_state, run_return, run_state, run_answers, link_return, link_out}
use Rattle.theorem_trials.specs.Lent.{record_bytes, number, register, word, exiting, start_and_step, table}
use Rattle.theorem_trials.specs.Lent.{fresh_with, answers_with, state_with, presence_set}

-- a record of block 0: DIVIDE (12), on to label a, with the destinations d and e, of p and q
abbrev record12 : ℕ → List ℕ → List ℕ → List ℕ → List ℕ → List ℕ
record12 a d e p q = record_bytes 12 0 3 0 a 0 (4 ∷ d ++ e ++ p ++ q)

-- label 0: DIVIDE, on to 1; label 1: EXIT
abbrev dividing : List ℕ → List ℕ → List ℕ → List ℕ → List ℕ
dividing d e p q = record12 1 d e p q ++ exiting 0 0

-- the values 17 and 5 become registers 0 and 1
abbrev carried_out : List ℕ
carried_out = start_and_step 2 (17 ∷ 0 ∷ 5 ∷ 0 ∷ [])

abbrev answers_to : List ℕ → List ℕ
answers_to image = answers_with table image 3 carried_out

-- the state then: the first n bytes of the words, n bytes from the presence set of thread 0 on, and that thread's label
abbrev words_after : List ℕ → ℕ → List ℕ
words_after image n = part (state_with table image 3 carried_out) 0 n

abbrev registers_after : List ℕ → ℕ → List ℕ
registers_after image n = part (state_with table image 3 carried_out) presence_set n

abbrev label_after : List ℕ → List ℕ
label_after image = part (state_with table image 3 carried_out) threads_place 2

-- 17 / 5, of registers 0 and 1
abbrev quotient : List ℕ → List ℕ → List ℕ
quotient d e = dividing d e (register 0) (register 1)

-- 17 / 0, to these destinations
abbrev divided_by_zero : List ℕ → List ℕ → List ℕ
divided_by_zero d e = dividing d e (register 0) (number 0 0)

pub record Divisions : Type 0 where
  -- 17 = 5 × 3 + 2: the quotient in register 3, the remainder in shared word 3, and the other way round
  pub answers : answers_to (quotient (register 3) (word 3)) ≡ 1 ∷ 0 ∷ 5 ∷ 0 ∷ 6 ∷ 0 ∷ []
  pub on-to-A : label_after (quotient (register 3) (word 3)) ≡ 1 ∷ 0 ∷ []
  pub in-register : registers_after (quotient (register 3) (word 3)) 12 ≡ 11 ∷ 0 ∷ 0 ∷ 0 ∷ 17 ∷ 0 ∷ 5 ∷ 0 ∷ 0 ∷ 0 ∷ 3 ∷ 0 ∷ []
  pub rest-in-word : words_after (quotient (register 3) (word 3)) 8 ≡ 0 ∷ 0 ∷ 0 ∷ 0 ∷ 0 ∷ 0 ∷ 2 ∷ 0 ∷ []
  pub in-word : words_after (quotient (word 3) (register 3)) 8 ≡ 0 ∷ 0 ∷ 0 ∷ 0 ∷ 0 ∷ 0 ∷ 3 ∷ 0 ∷ []
  pub rest-in-register : registers_after (quotient (word 3) (register 3)) 12 ≡ 11 ∷ 0 ∷ 0 ∷ 0 ∷ 17 ∷ 0 ∷ 5 ∷ 0 ∷ 0 ∷ 0 ∷ 2 ∷ 0 ∷ []
  pub two-words : words_after (quotient (word 1) (word 0)) 4 ≡ 2 ∷ 0 ∷ 3 ∷ 0 ∷ []
  -- both are read before either is stored: the quotient over p and the remainder over q, and the other way round
  pub over-sources : registers_after (quotient (register 0) (register 1)) 8 ≡ 3 ∷ 0 ∷ 0 ∷ 0 ∷ 3 ∷ 0 ∷ 2 ∷ 0 ∷ []
  pub over-turned : registers_after (quotient (register 1) (register 0)) 8 ≡ 3 ∷ 0 ∷ 0 ∷ 0 ∷ 2 ∷ 0 ∷ 3 ∷ 0 ∷ []
  -- 65,535 / 1 is 65,535, nothing left; 5 / 17 is 0, and 5 is left
  pub by_one : words_after (dividing (word 0) (word 1) (number 255 255) (number 1 0)) 4 ≡ 255 ∷ 255 ∷ 0 ∷ 0 ∷ []
  pub below : words_after (dividing (word 0) (word 1) (register 1) (register 0)) 4 ≡ 0 ∷ 0 ∷ 5 ∷ 0 ∷ []
  -- a zero q: 8, 8, and after it the state is Fresh's again; an absent register, p or q, is found first: 8, 1
  pub zero-divisor : answers_to (divided_by_zero (register 0) (word 0)) ≡ 1 ∷ 0 ∷ 5 ∷ 0 ∷ 8 ∷ 8 ∷ []
  pub zero-divisor-left : state_with table (divided_by_zero (register 0) (word 0)) 3 carried_out
      ≡ fresh_with table (divided_by_zero (register 0) (word 0))
  pub absent-p : answers_to (dividing (register 0) (word 0) (register 2) (number 0 0)) ≡ 1 ∷ 0 ∷ 5 ∷ 0 ∷ 8 ∷ 1 ∷ []
  pub absent-q : answers_to (dividing (register 0) (word 0) (register 0) (register 2)) ≡ 1 ∷ 0 ∷ 5 ∷ 0 ∷ 8 ∷ 1 ∷ []
  -- equal destinations: number 4 at the label; a register and a word of one number are none, nor are two registers of two numbers
  pub equal-registers : check_return (quotient (register 3) (register 3)) table ≡ 262144
  pub equal_words : check_return (exiting 1 3 ++ record12 1 (word 3) (word 3) (register 0) (register 1)) table ≡ 262145
  pub one_number : check_return (quotient (register 3) (word 3)) table ≡ 0
  pub two-numbers : check_return (quotient (register 3) (register 4)) table ≡ 0
  -- a number as a destination: number 4
  pub quotient-to-number : check_return (quotient (number 3 0) (word 3)) table ≡ 262144
  pub remainder-to-number : check_return (quotient (word 3) (number 3 0)) table ≡ 262144
  -- linked behind one record, label A is one higher
  pub linked-at : link_out (exiting 1 3) (quotient (register 3) (word 3)) table (replicate 252 7)
      ≡ exiting 1 3 ++ record12 2 (register 3) (word 3) (register 0) (register 1) ++ exiting 0 0

pub divisions : Divisions
unfolding num16 num32 part is_zeros all_from any_from first_bad blocks pad chunks every labels record_at row_at operand_of operand_at
    operands_from operation_at optional assignment_by other_at statement_of assign_ok other_ok head_ok operand_slot_ok label_ok rule_ok
    record_ok row_ok image_length_fault table_length_fault table_fault record_fault first_refusal ℕ_discrete fresh queue first put cells
    stores window keep presence thread_raw thread_bytes registers_from job_from thread_from signal_bytes signal_from tree_bytes tree_from
    encode words_from machine_from code detail answer_bytes event_from arrival_ok turn_ok event_ok event_at_ok events_from read_all perform
    outcome alien act_by plan_arrive plan_idle plan_running plan_step plan held blocked attempt admitted lost carry react answers final
    absent_zero running_tidy thread_tidy signal_tidy signal_at_tidy signals_tidy tree_tidy thread_at_tidy tree_at_tidy state_tidy apart
    place_ok thread_ok threads_ok pending_ok tree_ok homed queues_ok machine_ok well_formed state_length_fault state_fault
    events_length_fault event_fault answers_length_fault words_length_fault check_return fresh_return fresh_state run_return run_state
    run_answers Option-elim shift_record records linked names share_block shared_block_fault too_many_records_fault output_length_fault
    link_return link_out held_ok
divisions = record {
  answers = refl;
  on-to-A = refl;
  in-register = refl;
  rest-in-word = refl;
  in-word = refl;
  rest-in-register = refl;
  two-words = refl;
  over-sources = refl;
  over-turned = refl;
  by_one = refl;
  below = refl;
  zero-divisor = refl;
  zero-divisor-left = refl;
  absent-p = refl;
  absent-q = refl;
  equal-registers = refl;
  equal_words = refl;
  one_number = refl;
  two-numbers = refl;
  quotient-to-number = refl;
  remainder-to-number = refl;
  linked-at = refl;
}
