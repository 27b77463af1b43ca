-- The number of a refusal, and of what a call returns: 0 where it is not refused.
use Rattle.std.specs.Prelude.{◌≡◌, false, List, ◌∷◌, ℕ, Result, Ok, Err, IsErrAnd}
use Rattle.std.proofs.Common.{sym, ap, ◌∙◌, arith}
use Rattle.rules.specs.Codes.{bad_image_length_number, bad_table_length_number, bad_table_field_number, bad_record_number}
use Rattle.rules.specs.Codes.{bad_state_length_number, bad_state_number, bad_events_length_number, bad_event_number}
use Rattle.rules.specs.Codes.{bad_answers_length_number, bad_words_length_number, bad_walk_thread_number, bad_met_length_number}
use Rattle.rules.specs.Codes.{shared_block_number, too_many_records_number, bad_output_length_number}
use Rattle.rules.specs.Check.{refusal, first_refusal}
use Rattle.check_refusal.specs.FirstOf.{found, passed, last}
use Rattle.check_refusal.specs.declared.Refusal.{Refusal}
use Rattle.check_refusal.specs.declared.Refusal.TheVariants.{ImageLength, TableLength, TableField, Record, StateLength, State}
use Rattle.check_refusal.specs.declared.Refusal.TheVariants.{EventsLength, Event, AnswersLength, WordsLength, WalkThread, MetLength}
use Rattle.check_refusal.specs.declared.Refusal.TheVariants.{SharedBlock, TooManyRecords, OutputLength}

abbrev pub refusal_number : Refusal → ℕ
refusal_number ImageLength = refusal false bad_image_length_number 0
refusal_number TableLength = refusal false bad_table_length_number 0
refusal_number (TableField block) = refusal false bad_table_field_number block.0
refusal_number (Record label) = refusal false bad_record_number label.0
refusal_number StateLength = refusal false bad_state_length_number 0
refusal_number State = refusal false bad_state_number 0
refusal_number EventsLength = refusal false bad_events_length_number 0
refusal_number (Event index) = refusal false bad_event_number index
refusal_number AnswersLength = refusal false bad_answers_length_number 0
refusal_number WordsLength = refusal false bad_words_length_number 0
refusal_number WalkThread = refusal false bad_walk_thread_number 0
refusal_number MetLength = refusal false bad_met_length_number 0
refusal_number SharedBlock = refusal false shared_block_number 0
refusal_number TooManyRecords = refusal false too_many_records_number 0
refusal_number OutputLength = refusal false bad_output_length_number 0

abbrev pub number_of : Result Unit Refusal → ℕ
number_of (Ok _) = 0
number_of (Err r) = refusal_number r

-- no refusal's number is 0, which is what a call returns that is not refused
pub number-positive : (r : Refusal) → refusal_number r ≡ 0 → ⊥
number-positive ImageLength e = omega arith
number-positive TableLength e = omega arith
number-positive (TableField block) e = omega arith
number-positive (Record label) e = omega arith
number-positive StateLength e = omega arith
number-positive State e = omega arith
number-positive EventsLength e = omega arith
number-positive (Event index) e = omega arith
number-positive AnswersLength e = omega arith
number-positive WordsLength e = omega arith
number-positive WalkThread e = omega arith
number-positive MetLength e = omega arith
number-positive SharedBlock e = omega arith
number-positive TooManyRecords e = omega arith
number-positive OutputLength e = omega arith

-- what `?` hands on is the refusal itself
pub refused : (r : Result Unit Refusal) (e : Refusal) → IsErrAnd r (λ f. f ≡ e) → number_of r ≡ refusal_number e
refused (Ok x) e h = absurd h
refused (Err f) e h = ap refusal_number h

-- a refusal that applies is what the call returns
pub stops : (r : Refusal) (x : ℕ) (xs : List ℕ) → refusal_number r ≡ x → first_refusal (x ∷ xs) ≡ refusal_number r
stops r x xs h = found x xs (λ z. number-positive r (h ∙ z)) ∙ sym h

-- A call that goes through its refusals by `?`: one that applies is what it returns, and else the rest decides.
pub ruleset refusing = (refused, stops, passed, last)
