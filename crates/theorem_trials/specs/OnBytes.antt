-- The marked trials of docs/PROMISES.md on the bytes of the calls: each from Fresh's state, computed. Counts and codes are those
-- of docs/MACHINE.md, so that a wrong one in the law fails here.
use Rattle.std.specs.Prelude.{◌≡◌, refl, List, [], ◌∷◌, ◌++◌, ℕ, ◌+◌, ◌*◌, replicate, drop}
use Rattle.std.proofs.Math.Option.{Option-elim}
use Rattle.std.proofs.Math.Decide.{ℕ_discrete}
use Rattle.rules.specs.Sizes.{words_size, threads_place, held_count_place, tree_size, tree_count_place, trees_place}
use Rattle.rules.specs.Bytes.{num16, num32, part, is_zeros, all_from, first_bad, blocks, pad, chunks, every}
use Rattle.rules.specs.Image.{labels, record_at, row_at}
use Rattle.rules.specs.Statements.{operand_of, operand_at, operands_from, operation_at, optional, assignment_by}
use Rattle.rules.specs.Statements.{relation_of, condition_of, other_at, statement_of}
use Rattle.rules.specs.Check.{assign_ok, other_ok, head_ok, operand_slot_ok, label_ok, rule_ok, record_ok, row_ok, image_length_fault}
use Rattle.rules.specs.Check.{table_length_fault, table_fault, record_fault, first_refusal}
use Rattle.rules.specs.Machine.{fresh, queue, first, put, cells, stores, window, keep}
use Rattle.rules.specs.Encoding.{presence, thread_raw, thread_bytes, registers_from, job_from, thread_from, signal_bytes, signal_from}
use Rattle.rules.specs.Encoding.{tree_bytes, tree_from, encode, words_from, machine_from}
use Rattle.rules.specs.Answers.{code, detail, answer_bytes}
use Rattle.rules.specs.Events.{event_from, arrival_ok, turn_ok, event_ok, event_at_ok, events_from}
use Rattle.rules.specs.Effects.{read_all, perform, outcome}
use Rattle.rules.specs.Steps.{alien, act_by, plan_arrive, plan_idle, plan_running, plan_step, plan_cut, plan, held, blocked, attempt}
use Rattle.rules.specs.Steps.{admitted, lost, carry, react, answers, final}
use Rattle.rules.specs.WellFormed.{absent_zero, running_tidy, thread_tidy, signal_tidy, signal_at_tidy}
use Rattle.rules.specs.WellFormed.{signals_tidy, tree_tidy, thread_at_tidy}
use Rattle.rules.specs.WellFormed.{tree_at_tidy, state_tidy, apart, place_ok, held_ok, thread_ok, threads_ok, pending_ok}
use Rattle.rules.specs.WellFormed.{tree_ok, homed, queues_ok}
use Rattle.rules.specs.WellFormed.{machine_ok, well_formed}
use Rattle.rules.specs.Walk.{mem?, walk_on, walk, holder, awaits, walk_from, met_bytes, met_count}
use Rattle.rules.specs.Calls.{thread_fault, met_length_fault, walk_fault, walk_return, walk_met}
use Rattle.rules.specs.Calls.{state_length_fault, state_fault, events_length_fault, event_fault, answers_length_fault, words_length_fault}
use Rattle.rules.specs.Calls.{check_return, fresh_return, fresh_state, run_return, run_state, run_answers}
use Rattle.theorem_trials.specs.Lent.{record_bytes, number, start_and_step, arrival_bytes, turn_bytes}
use Rattle.theorem_trials.specs.Lent.{times, table, beginning, words, zeros}
use Rattle.theorem_trials.specs.Lent.{fresh_with, answers_with, state_with, presence_set}

-- ---- the calls, with a block table of zeros

abbrev initial : List ℕ → List ℕ
initial image = fresh_with table image

abbrev answers_to : List ℕ → ℕ → List ℕ → List ℕ
answers_to image m events = answers_with table image m events

abbrev state_after : List ℕ → ℕ → List ℕ → List ℕ
state_after image m events = state_with table image m events

-- tables in which the first three blocks have a lock each: all FD on thread 0; block 1 on thread 1 and of this kind; blocks 0 and 1 CMX,
-- on threads 0 and 1
abbrev own_locks : List ℕ
own_locks = beginning (0 ∷ 0 ∷ 0 ∷ 0 ∷ 0 ∷ 1 ∷ 0 ∷ 0 ∷ 2 ∷ [])

abbrev foreign : ℕ → List ℕ
foreign kind = beginning (0 ∷ 0 ∷ 0 ∷ 1 ∷ kind ∷ 1 ∷ 0 ∷ 0 ∷ 2 ∷ [])

abbrev both : List ℕ
both = beginning (0 ∷ 1 ∷ 0 ∷ 1 ∷ 1 ∷ 1 ∷ 0 ∷ 0 ∷ 2 ∷ [])

-- ---- the images

-- label 0 block 0, entry 3, ASSIGN copy shared word 0 from 7, A 1; label 1 EXIT in block 0
abbrev assigning : List ℕ
assigning = record_bytes 2 0 3 1 1 0 (2 ∷ 3 ∷ 0 ∷ 0 ∷ 1 ∷ 7 ∷ 0 ∷ []) ++ record_bytes 10 0 0 0 0 0 []

-- label 0: ASSIGN with this operator, to register 0 or shared word 0 (kind 2 or 3), p the operand of these three bytes, q the number 1;
-- label 1: EXIT
abbrev computing : ℕ → ℕ → List ℕ → List ℕ
computing operator kind p =
    record_bytes 2 0 3 operator 1 0 (3 ∷ kind ∷ 0 ∷ 0 ∷ (p ++ 1 ∷ 1 ∷ 0 ∷ [])) ++ record_bytes 10 0 0 0 0 0 []

-- 0 - 1, to shared word 0
abbrev taking : List ℕ
taking = computing 3 3 (number 0 0)

-- Fresh's state where shared word 0 is 9
abbrev nine : List ℕ → List ℕ
nine image = fresh_state image table (pad 0 words_size (9 ∷ [])) zeros

-- label 0: IF with this operator, of the numbers p and q, on to 1 or to 2; labels 1 and 2: EXIT
abbrev comparing : ℕ → ℕ → ℕ → List ℕ
comparing operator p q =
    record_bytes 4 0 3 operator 1 2 (2 ∷ 1 ∷ p ∷ 0 ∷ 1 ∷ q ∷ 0 ∷ []) ++ record_bytes 10 0 0 0 0 0 [] ++ record_bytes 10 0 0 0 0 0 []

-- label 0: RETURN
abbrev returning : List ℕ
returning = record_bytes 8 0 3 0 0 0 []

-- label 0: GOTO 1; label 1: CALL 1, return label 1
abbrev calling : List ℕ
calling = record_bytes 3 0 3 0 1 0 [] ++ record_bytes 7 0 1 0 1 1 []

-- label 0: SEND buffered to 1, on to 0; label 1: EXIT
abbrev sending : List ℕ
sending = record_bytes 6 0 3 0 1 0 [] ++ record_bytes 10 0 2 0 0 0 []

-- label 0: SEND JOBTREE to 1, on to 0; label 1: EXIT
abbrev holding : List ℕ
holding = record_bytes 11 0 3 0 1 0 [] ++ record_bytes 10 0 2 0 0 0 []

-- a record of label l: SEND JOBTREE to 5 with its own label as the one value, on to the next
abbrev jobtree : ℕ → List ℕ
jobtree l = record_bytes 11 0 0 0 5 (l + 1) (1 ∷ 1 ∷ l ∷ 0 ∷ [])

-- label 0: a record that leads to 1; labels 1 to 3: SEND JOBTREE to 5; labels 4 and 5: EXIT
abbrev founding : List ℕ → List ℕ
founding first = first ++ jobtree 1 ++ jobtree 2 ++ jobtree 3 ++ record_bytes 10 0 0 0 0 0 [] ++ record_bytes 10 0 2 0 0 0 []

-- leading there by a GOTO, the job's own tree is empty at its EXIT; by a buffered SEND to 5, it is not
abbrev empty : List ℕ
empty = founding (record_bytes 3 0 3 0 1 0 [])

abbrev pending : List ℕ
pending = founding (record_bytes 6 0 3 0 5 1 [])

-- the first bytes of tree i: its thread, its pending count, and the label, the value count and the first value of its oldest signal
abbrev tree_start : List ℕ → ℕ → List ℕ
tree_start state i = part state (trees_place + tree_size * i) 7

-- 15 arrivals, and the first one's job: it starts, leads to 1, holds three signals and EXITs
abbrev three_held : List ℕ
three_held = times 15 (arrival_bytes 0 []) ++ times 6 (turn_bytes 2 0)

-- label 0 in block 0: CALL 2, return label 1; label 2 in block 1: CALL 4, return label 3; labels 1 and 3: EXIT; label 4 in block 2
abbrev nested : ℕ → List ℕ
nested opcode =
    record_bytes 7 0 3 0 2 1 [] ++ record_bytes 10 0 0 0 0 0 [] ++ record_bytes 7 1 1 0 4 3 [] ++ record_bytes 10 1 0 0 0 0 []
    ++ record_bytes opcode 2 1 0 0 0 []

-- label 0: an opcode to label 1 with the one value 5; label 1: EXIT
abbrev passing : ℕ → List ℕ
passing opcode = record_bytes opcode 0 3 0 1 0 (1 ∷ 1 ∷ 5 ∷ 0 ∷ []) ++ record_bytes 10 0 1 0 0 0 []

-- label 0 in block 0: SEND direct to 1; label 1 in block 1: EXIT
abbrev entering : List ℕ
entering = record_bytes 5 0 3 0 1 0 [] ++ record_bytes 10 1 1 0 0 0 []

-- the value 7 becomes register 0
abbrev carried_out : List ℕ
carried_out = start_and_step 1 (7 ∷ 0 ∷ [])

-- labels 0 in block 0 and 2 in block 1: SEND direct to 1 in block 1, to 3 in block 0; labels 1 and 3: EXIT
abbrev crossing : List ℕ
crossing = record_bytes 5 0 3 0 1 0 [] ++ record_bytes 10 1 1 0 0 0 [] ++ record_bytes 5 1 3 0 3 0 [] ++ record_bytes 10 0 1 0 0 0 []

-- a job starts on thread 0, and one on thread 1: each holds the lock that the other's next step asks for
abbrev ring : List ℕ
ring = state_with both crossing 4 (arrival_bytes 0 [] ++ arrival_bytes 2 [] ++ turn_bytes 2 0 ++ turn_bytes 2 1)

abbrev whole_list : List ℕ
whole_list = arrival_bytes 0 [] ++ times 4 (turn_bytes 2 0)

-- ---- the trials

pub record OnBytes : Type 0 where
  -- "65,535 + 1 is 0": the presence set and register 0, before it 7
  pub sum : part (state_after (computing 2 2 (number 255 255)) 3 carried_out) presence_set 6 ≡ 1 ∷ 0 ∷ 0 ∷ 0 ∷ 0 ∷ 0 ∷ []
  -- "0 - 1: 8, 7", to register 0 and to shared word 0, before it 9: after it the state is Fresh's again
  pub below-zero : answers_to (computing 3 2 (number 0 0)) 3 carried_out ≡ 1 ∷ 0 ∷ 5 ∷ 0 ∷ 8 ∷ 7 ∷ []
  pub below-zero-left : state_after (computing 3 2 (number 0 0)) 3 carried_out ≡ initial (computing 3 2 (number 0 0))
  pub below-zero-word : run_answers taking table (nine taking) carried_out (replicate 6 0) ≡ 1 ∷ 0 ∷ 5 ∷ 0 ∷ 8 ∷ 7 ∷ []
  pub below-zero-word-left : run_state taking table (nine taking) carried_out (replicate 6 0) ≡ nine taking
  -- also: 1 - 1 is 0, in register 0, before it 7, and 256 - 1 is 255, in shared word 0; with the absent register 3 as p: 8, 1
  pub no_difference : part (state_after (computing 3 2 (number 1 0)) 3 carried_out) presence_set 6 ≡ 1 ∷ 0 ∷ 0 ∷ 0 ∷ 0 ∷ 0 ∷ []
  pub difference : part (state_after (computing 3 3 (number 0 1)) 3 carried_out) 0 2 ≡ 255 ∷ 0 ∷ []
  pub absent-first : answers_to (computing 3 2 (2 ∷ 3 ∷ 0 ∷ [])) 3 carried_out ≡ 1 ∷ 0 ∷ 5 ∷ 0 ∷ 8 ∷ 1 ∷ []
  -- "RETURN in a job with no call: 8, 2"
  pub returns : answers_to returning 3 (arrival_bytes 0 [] ++ times 2 (turn_bytes 2 0)) ≡ 1 ∷ 0 ∷ 5 ∷ 0 ∷ 8 ∷ 2 ∷ []
  -- "The eighth CALL moves on; the ninth: 8, 3"
  pub calls : answers_to calling 12 (arrival_bytes 0 [] ++ times 11 (turn_bytes 2 0))
      ≡ 1 ∷ 0 ∷ 5 ∷ 0 ∷ 6 ∷ 0 ∷ times 8 (6 ∷ 0 ∷ []) ++ 8 ∷ 3 ∷ []
  -- "The eighth pending signal is kept; the ninth: 8, 4"
  pub signals : answers_to sending 11 (arrival_bytes 0 [] ++ times 10 (turn_bytes 2 0)) ≡ 1 ∷ 0 ∷ 5 ∷ 0 ∷ times 8 (6 ∷ 0 ∷ []) ++ 8 ∷ 4 ∷ []
  pub signals-kept : part (state_after sending 10 (arrival_bytes 0 [] ++ times 9 (turn_bytes 2 0))) tree_count_place 3 ≡ 1 ∷ 0 ∷ 8 ∷ []
  -- "The sixteenth arrival gets 1; the next 2"
  pub arrivals : answers_to assigning 17 (times 17 (arrival_bytes 0 [])) ≡ times 16 (1 ∷ 0 ∷ []) ++ 2 ∷ 0 ∷ []
  -- "EXIT two calls deep: lock set, return count, presence all 0": before it three locks are held and there are two return labels;
  -- after it the state is Fresh's again
  pub deep : part (state_with own_locks (nested 10) 4 (arrival_bytes 0 [] ++ times 3 (turn_bytes 2 0))) threads_place 5
      ≡ 4 ∷ 0 ∷ 7 ∷ 0 ∷ 2 ∷ []
  pub exit : answers_with own_locks (nested 10) 5 (arrival_bytes 0 [] ++ times 4 (turn_bytes 2 0))
      ≡ 1 ∷ 0 ∷ 5 ∷ 0 ∷ 6 ∷ 0 ∷ 6 ∷ 0 ∷ 7 ∷ 0 ∷ []
  pub exited : state_with own_locks (nested 10) 5 (arrival_bytes 0 [] ++ times 4 (turn_bytes 2 0)) ≡ initial (nested 10)
  -- "The fourth held signal is kept; the fifth: 8, 6"
  pub held-signals : answers_to holding 7 (arrival_bytes 0 [] ++ times 6 (turn_bytes 2 0))
      ≡ 1 ∷ 0 ∷ 5 ∷ 0 ∷ times 4 (6 ∷ 0 ∷ []) ++ 8 ∷ 6 ∷ []
  pub held_kept : part (state_after holding 6 (arrival_bytes 0 [] ++ times 5 (turn_bytes 2 0))) (threads_place + held_count_place) 3
      ≡ 4 ∷ 1 ∷ 0 ∷ []
  pub held-dropped : state_after holding 7 (arrival_bytes 0 [] ++ times 6 (turn_bytes 2 0)) ≡ initial holding
  pub held_cut : state_after holding 4 (arrival_bytes 0 [] ++ times 2 (turn_bytes 2 0) ++ turn_bytes 3 0) ≡ initial holding
  -- "EXIT with three held signals, its own tree empty and 14 others live: two are appended, one is lost; its own tree not empty: one is
  -- appended, two are lost": the answers, and the trees that come to the list's end
  pub empty-exit : drop 30 (answers_to empty 21 three_held) ≡ 5 ∷ 0 ∷ times 4 (6 ∷ 0 ∷ []) ++ 7 ∷ 1 ∷ []
  pub empty-first : tree_start (state_after empty 21 three_held) 14 ≡ 0 ∷ 1 ∷ 5 ∷ 0 ∷ 1 ∷ 1 ∷ 0 ∷ []
  pub empty-second : tree_start (state_after empty 21 three_held) 15 ≡ 0 ∷ 1 ∷ 5 ∷ 0 ∷ 1 ∷ 2 ∷ 0 ∷ []
  pub pending-exit : drop 30 (answers_to pending 21 three_held) ≡ 5 ∷ 0 ∷ times 4 (6 ∷ 0 ∷ []) ++ 7 ∷ 2 ∷ []
  pub pending-own : tree_start (state_after pending 21 three_held) 14 ≡ 0 ∷ 1 ∷ 5 ∷ 0 ∷ 0 ∷ 0 ∷ 0 ∷ []
  pub pending-first : tree_start (state_after pending 21 three_held) 15 ≡ 0 ∷ 1 ∷ 5 ∷ 0 ∷ 1 ∷ 1 ∷ 0 ∷ []
  -- "TRANSFER with one value keeps register 1; direct SEND with one makes it absent": the presence set and registers 0 and 1
  pub transfer : part (state_after (passing 9) 3 (arrival_bytes 0 (2 ∷ 3 ∷ 0 ∷ 4 ∷ 0 ∷ []) ++ times 2 (turn_bytes 2 0))) presence_set 8
      ≡ 3 ∷ 0 ∷ 0 ∷ 0 ∷ 5 ∷ 0 ∷ 4 ∷ 0 ∷ []
  pub direct : part (state_after (passing 5) 3 (arrival_bytes 0 (2 ∷ 3 ∷ 0 ∷ 4 ∷ 0 ∷ []) ++ times 2 (turn_bytes 2 0))) presence_set 8
      ≡ 1 ∷ 0 ∷ 0 ∷ 0 ∷ 5 ∷ 0 ∷ 0 ∷ 0 ∷ []
  -- "No events: return 0, state unchanged"
  pub no-events : run_return assigning table (initial assigning) [] [] ≡ 0
  pub unchanged : state_after assigning 0 [] ≡ initial assigning
  -- "Whole list": the image and the table pass the check, Fresh and Run return 0, the answers are these, and word 0 is then 7, the
  -- other bytes as Fresh left them
  pub checked : check_return assigning table ≡ 0
  pub fresh : fresh_return assigning table words zeros ≡ 0
  pub run : run_return assigning table (initial assigning) whole_list (replicate 10 0) ≡ 0
  pub answers : answers_to assigning 5 whole_list ≡ 1 ∷ 0 ∷ 5 ∷ 0 ∷ 6 ∷ 0 ∷ 7 ∷ 0 ∷ 3 ∷ 0 ∷ []
  pub word : state_after assigning 5 whole_list ≡ 7 ∷ drop 1 (initial assigning)
  -- also: IF, operator 2, is p less than q, and 1 is p equal to q: the label then
  pub less : part (state_after (comparing 2 3 5) 3 carried_out) threads_place 2 ≡ 1 ∷ 0 ∷ []
  pub not-less : part (state_after (comparing 2 5 3) 3 carried_out) threads_place 2 ≡ 2 ∷ 0 ∷ []
  pub equal : part (state_after (comparing 1 5 5) 3 carried_out) threads_place 2 ≡ 1 ∷ 0 ∷ []
  pub not_equal : part (state_after (comparing 1 3 5) 3 carried_out) threads_place 2 ≡ 2 ∷ 0 ∷ []
  -- also: a direct SEND to an FD block (kind 0) of another thread traps, reason 5; a CMX block (kind 1) is open
  pub foreign-FD : answers_with (foreign 0) entering 3 carried_out ≡ 1 ∷ 0 ∷ 5 ∷ 0 ∷ 8 ∷ 5 ∷ []
  pub foreign-CMX : answers_with (foreign 1) entering 3 carried_out ≡ 1 ∷ 0 ∷ 5 ∷ 0 ∷ 6 ∷ 0 ∷ []
  -- also: two threads that wait for each other: from either the walk writes both once and reports the ring; a walk from a thread that
  -- does not wait writes it alone
  pub walk-ring : walk_return crossing both ring 1 (replicate 8 0) ≡ 258
  pub walk-met : walk_met crossing both ring 1 (replicate 8 0) ≡ 1 ∷ 0 ∷ replicate 6 255
  pub walk-alone : walk_return crossing both ring 2 (replicate 8 0) ≡ 1
  pub alone-met : walk_met crossing both ring 2 (replicate 8 0) ≡ 2 ∷ replicate 7 255
  -- also: after two CALLs and a RETURN all three locks are held
  pub return : part (state_with own_locks (nested 8) 5 (arrival_bytes 0 [] ++ times 4 (turn_bytes 2 0))) threads_place 5
      ≡ 3 ∷ 0 ∷ 7 ∷ 0 ∷ 1 ∷ []
  -- also: a cut two calls deep leaves Fresh's state
  pub cut : answers_with own_locks (nested 10) 5 (arrival_bytes 0 [] ++ times 3 (turn_bytes 2 0) ++ turn_bytes 3 0)
      ≡ 1 ∷ 0 ∷ 5 ∷ 0 ∷ 6 ∷ 0 ∷ 6 ∷ 0 ∷ 9 ∷ 0 ∷ []
  pub cut-clears : state_with own_locks (nested 10) 5 (arrival_bytes 0 [] ++ times 3 (turn_bytes 2 0) ++ turn_bytes 3 0)
      ≡ initial (nested 10)

pub on_bytes : OnBytes
unfolding num16 num32 part is_zeros all_from first_bad blocks pad chunks every labels record_at row_at operand_of operand_at operands_from
    operation_at optional assignment_by relation_of condition_of other_at statement_of assign_ok other_ok head_ok operand_slot_ok label_ok
    rule_ok record_ok row_ok image_length_fault table_length_fault table_fault record_fault first_refusal ℕ_discrete fresh queue first put
    cells stores window keep presence thread_raw thread_bytes registers_from job_from thread_from signal_bytes signal_from tree_bytes
    tree_from encode words_from machine_from code detail answer_bytes event_from arrival_ok turn_ok event_ok event_at_ok events_from
    read_all perform outcome alien act_by plan_arrive plan_idle plan_running plan_step plan_cut plan held blocked attempt admitted lost
    carry react answers final absent_zero running_tidy thread_tidy signal_tidy signal_at_tidy signals_tidy held_ok tree_tidy thread_at_tidy
    tree_at_tidy state_tidy apart place_ok thread_ok threads_ok pending_ok tree_ok homed queues_ok machine_ok well_formed
    state_length_fault state_fault events_length_fault event_fault answers_length_fault words_length_fault check_return fresh_return
    fresh_state run_return run_state run_answers Option-elim mem? walk_on walk holder awaits walk_from met_bytes met_count thread_fault
    met_length_fault walk_fault walk_return walk_met
on_bytes = record {
  sum = refl;
  below-zero = refl;
  below-zero-left = refl;
  below-zero-word = refl;
  below-zero-word-left = refl;
  no_difference = refl;
  difference = refl;
  absent-first = refl;
  returns = refl;
  calls = refl;
  signals = refl;
  signals-kept = refl;
  arrivals = refl;
  deep = refl;
  exit = refl;
  exited = refl;
  held-signals = refl;
  held_kept = refl;
  held-dropped = refl;
  empty-exit = refl;
  empty-first = refl;
  empty-second = refl;
  pending-exit = refl;
  pending-own = refl;
  pending-first = refl;
  held_cut = refl;
  transfer = refl;
  direct = refl;
  no-events = refl;
  unchanged = refl;
  checked = refl;
  fresh = refl;
  run = refl;
  answers = refl;
  word = refl;
  less = refl;
  not-less = refl;
  equal = refl;
  not_equal = refl;
  foreign-FD = refl;
  foreign-CMX = refl;
  walk-ring = refl;
  walk-met = refl;
  walk-alone = refl;
  alone-met = refl;
  return = refl;
  cut = refl;
  cut-clears = refl;
}
