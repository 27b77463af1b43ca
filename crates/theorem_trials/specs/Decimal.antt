-- Packed decimal on the bytes of the calls, computed: `decimals`. Numbers are those of docs/MACHINE.md, so that a wrong one in the law
-- fails here.
use Rattle.std.specs.Prelude.{◌≡◌, refl, List, [], ◌∷◌, ◌++◌, ℕ, replicate, drop}
use Rattle.std.proofs.Math.Option.{Option-elim}
use Rattle.std.proofs.Math.Decide.{ℕ_discrete}
use Rattle.rules_decimal.specs.Packed.{pack, packed, unpack, sum}
use Rattle.rules.specs.Bytes.{num16, num32, part, is_zeros, all_from, any_from, first_bad, blocks, pad, chunks, every}
use Rattle.rules.specs.Image.{labels, record_at, row_at}
use Rattle.rules.specs.Statements.{operand_of, operand_at, operands_from, operation_at, optional, assignment_by, other_at, statement_of}
use Rattle.rules.specs.Check.{assign_ok, other_ok, head_ok, operand_slot_ok, label_ok, rule_ok, record_ok, row_ok, image_length_fault}
use Rattle.rules.specs.Check.{table_length_fault, table_fault, record_fault, first_refusal}
use Rattle.rules.specs.Machine.{fresh, queue, first, put, cells, stores, window, keep}
use Rattle.rules.specs.Encoding.{presence, thread_raw, thread_bytes, registers_from, job_from, thread_from, signal_bytes, signal_from}
use Rattle.rules.specs.Encoding.{tree_bytes, tree_from, encode, words_from, machine_from}
use Rattle.rules.specs.Answers.{code, detail, answer_bytes}
use Rattle.rules.specs.Events.{event_from, arrival_ok, turn_ok, event_ok, event_at_ok, events_from}
use Rattle.rules.specs.Effects.{read_all, perform, outcome}
use Rattle.rules.specs.Steps.{alien, act_by, plan_arrive, plan_idle, plan_running, plan_step, plan, held, blocked, attempt}
use Rattle.rules.specs.Steps.{admitted, lost, carry, react, answers, final}
use Rattle.rules.specs.WellFormed.{absent_zero, running_tidy, thread_tidy, signal_tidy, signal_at_tidy}
use Rattle.rules.specs.WellFormed.{signals_tidy, tree_tidy, thread_at_tidy}
use Rattle.rules.specs.WellFormed.{tree_at_tidy, state_tidy, apart, place_ok, held_ok, thread_ok, threads_ok, pending_ok}
use Rattle.rules.specs.WellFormed.{tree_ok, homed, queues_ok}
use Rattle.rules.specs.WellFormed.{machine_ok, well_formed}
use Rattle.rules.specs.Link.{shift_record, records, linked, names, share_block}
use Rattle.rules.specs.Calls.{state_length_fault, state_fault, events_length_fault, event_fault, answers_length_fault, words_length_fault}
use Rattle.rules.specs.Calls.{shared_block_fault, too_many_records_fault, output_length_fault}
use Rattle.rules.specs.Calls.{check_return, fresh_return, fresh_state, run_return, run_state, run_answers, link_return, link_out}
use Rattle.theorem_trials.specs.Lent.{record_bytes, number, register, word, exiting, start_and_step, table}
use Rattle.theorem_trials.specs.Lent.{fresh_with, answers_with, state_with, presence_set}

-- label 0: a record of block 0 of this opcode, without operator, with n operands, on to 1; label 1: EXIT
abbrev only : ℕ → ℕ → List ℕ → List ℕ
only opcode n operands = record_bytes opcode 0 3 0 1 0 (n ∷ operands) ++ exiting 0 0

abbrev packing : List ℕ → List ℕ → List ℕ
packing d p = only 13 2 (d ++ p)

abbrev unpacking : List ℕ → List ℕ → List ℕ
unpacking d p = only 14 2 (d ++ p)

abbrev adding : List ℕ → List ℕ → List ℕ → List ℕ
adding d p q = only 15 3 (d ++ p ++ q)

-- the values 1,234 and 1,234 packed become registers 0 and 1
abbrev carried_out : List ℕ
carried_out = start_and_step 2 (210 ∷ 4 ∷ 52 ∷ 18 ∷ [])

-- the answer to the second step, word 0 then, and 8 bytes from the presence set of thread 0 on
abbrev answer_to : List ℕ → List ℕ
answer_to image = drop 4 (answers_with table image 3 carried_out)

abbrev word_after : List ℕ → List ℕ
word_after image = part (state_with table image 3 carried_out) 0 2

abbrev registers_after : List ℕ → List ℕ
registers_after image = part (state_with table image 3 carried_out) presence_set 8

pub record Decimals : Type 0 where
  -- 1,234 packed is 18 × 256 + 52; 9,999 is packed, 10,000 is not
  pub answer : answer_to (packing (word 0) (register 0)) ≡ 6 ∷ 0 ∷ []
  pub packed-word : word_after (packing (word 0) (register 0)) ≡ 52 ∷ 18 ∷ []
  pub packed-register : registers_after (packing (register 0) (register 0)) ≡ 3 ∷ 0 ∷ 0 ∷ 0 ∷ 52 ∷ 18 ∷ 52 ∷ 18 ∷ []
  pub packed-highest : word_after (packing (word 0) (number 15 39)) ≡ 153 ∷ 153 ∷ []
  pub above : answer_to (packing (word 0) (number 16 39)) ≡ 8 ∷ 9 ∷ []
  pub above-left : state_with table (packing (word 0) (number 16 39)) 3 carried_out ≡ fresh_with table (packing (word 0) (number 16 39))
  -- and back; a digit of 10 in each of the four places
  pub unpacked-word : word_after (unpacking (word 0) (register 1)) ≡ 210 ∷ 4 ∷ []
  pub unpacked-highest : word_after (unpacking (word 0) (number 153 153)) ≡ 15 ∷ 39 ∷ []
  pub ones : answer_to (unpacking (word 0) (number 10 0)) ≡ 8 ∷ 9 ∷ []
  pub tens : answer_to (unpacking (word 0) (number 160 0)) ≡ 8 ∷ 9 ∷ []
  pub hundreds : answer_to (unpacking (word 0) (number 0 10)) ≡ 8 ∷ 9 ∷ []
  pub thousands : answer_to (unpacking (word 0) (number 0 160)) ≡ 8 ∷ 9 ∷ []
  -- 1,234 + 5,678 = 6,912; 999 + 1 = 1,000; 9,999 + 2 = 1; 1,234 + 1,234 = 2,468 over both
  pub sum_of : word_after (adding (word 0) (register 1) (number 120 86)) ≡ 18 ∷ 105 ∷ []
  pub carried : word_after (adding (word 0) (number 153 9) (number 1 0)) ≡ 0 ∷ 16 ∷ []
  pub carried-out : word_after (adding (word 0) (number 153 153) (number 2 0)) ≡ 1 ∷ 0 ∷ []
  pub over-source : registers_after (adding (register 1) (register 1) (register 1)) ≡ 3 ∷ 0 ∷ 0 ∷ 0 ∷ 210 ∷ 4 ∷ 104 ∷ 36 ∷ []
  -- a digit of 10 in the first alone, and in the second alone; an absent register is found first
  pub first-digit : answer_to (adding (word 0) (number 10 0) (register 1)) ≡ 8 ∷ 9 ∷ []
  pub second-digit : answer_to (adding (word 0) (register 1) (number 10 0)) ≡ 8 ∷ 9 ∷ []
  pub absent-p : answer_to (unpacking (word 0) (register 2)) ≡ 8 ∷ 1 ∷ []
  pub absent-q : answer_to (adding (word 0) (number 10 0) (register 2)) ≡ 8 ∷ 1 ∷ []
  -- a number as destination, an operand more and one less, an operator: number 4
  pub number-destination : check_return (packing (number 0 0) (register 0)) table ≡ 262144
  pub one_more : check_return (only 14 3 (word 0 ++ register 0 ++ register 1)) table ≡ 262144
  pub one_less : check_return (only 15 2 (word 0 ++ register 0)) table ≡ 262144
  pub with-operator : check_return (record_bytes 13 0 3 1 0 0 (2 ∷ word 0 ++ register 0)) table ≡ 262144
  pub no-opcode : check_return (only 16 2 (word 0 ++ register 0)) table ≡ 262144
  -- linked behind one record, label A is one higher
  pub linked-at : link_out (exiting 1 3) (adding (word 0) (register 0) (register 1)) table (replicate 252 7)
      ≡ exiting 1 3 ++ record_bytes 15 0 3 0 2 0 (3 ∷ word 0 ++ register 0 ++ register 1) ++ exiting 0 0

pub decimals : Decimals
unfolding num16 num32 part is_zeros all_from any_from first_bad blocks pad chunks every labels record_at row_at operand_of operand_at
    operands_from operation_at optional assignment_by other_at statement_of assign_ok other_ok head_ok operand_slot_ok label_ok rule_ok
    record_ok row_ok image_length_fault table_length_fault table_fault record_fault first_refusal ℕ_discrete fresh queue first put cells
    stores window keep presence thread_raw thread_bytes registers_from job_from thread_from signal_bytes signal_from tree_bytes tree_from
    encode words_from machine_from code detail answer_bytes event_from arrival_ok turn_ok event_ok event_at_ok events_from read_all perform
    outcome alien act_by plan_arrive plan_idle plan_running plan_step plan held blocked attempt admitted lost carry react answers final
    absent_zero running_tidy thread_tidy signal_tidy signal_at_tidy signals_tidy tree_tidy thread_at_tidy tree_at_tidy state_tidy apart
    place_ok thread_ok threads_ok pending_ok tree_ok homed queues_ok machine_ok well_formed state_length_fault state_fault
    events_length_fault event_fault answers_length_fault words_length_fault check_return fresh_return fresh_state run_return run_state
    run_answers Option-elim shift_record records linked names share_block shared_block_fault too_many_records_fault output_length_fault
    link_return link_out held_ok pack packed unpack sum
decimals = record {
  answer = refl;
  packed-word = refl;
  packed-register = refl;
  packed-highest = refl;
  above = refl;
  above-left = refl;
  unpacked-word = refl;
  unpacked-highest = refl;
  ones = refl;
  tens = refl;
  hundreds = refl;
  thousands = refl;
  sum_of = refl;
  carried = refl;
  carried-out = refl;
  over-source = refl;
  first-digit = refl;
  second-digit = refl;
  absent-p = refl;
  absent-q = refl;
  number-destination = refl;
  one_more = refl;
  one_less = refl;
  with-operator = refl;
  no-opcode = refl;
  linked-at = refl;
}
