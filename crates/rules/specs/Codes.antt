-- The numbers that stand in the machine's bytes for a kind, an operator, an entry, an answer or a trap, under the header's words.
use Rattle.std.specs.Prelude.{ℕ}

-- ---- opcodes

abbrev pub skip_code : ℕ
skip_code = 1

abbrev pub assign_code : ℕ
assign_code = 2

abbrev pub goto_code : ℕ
goto_code = 3

abbrev pub if_code : ℕ
if_code = 4

abbrev pub send_direct_code : ℕ
send_direct_code = 5

abbrev pub send_buffered_code : ℕ
send_buffered_code = 6

abbrev pub call_code : ℕ
call_code = 7

abbrev pub return_code : ℕ
return_code = 8

abbrev pub transfer_code : ℕ
transfer_code = 9

abbrev pub exit_code : ℕ
exit_code = 10

abbrev pub send_tree_code : ℕ
send_tree_code = 11

abbrev pub divide_code : ℕ
divide_code = 12

abbrev pub pack_code : ℕ
pack_code = 13

abbrev pub unpack_code : ℕ
unpack_code = 14

abbrev pub decimal_add_code : ℕ
decimal_add_code = 15

-- ---- operators of ASSIGN, and of IF

abbrev pub copy_code : ℕ
copy_code = 1

abbrev pub add_code : ℕ
add_code = 2

abbrev pub subtract_code : ℕ
subtract_code = 3

abbrev pub multiply_code : ℕ
multiply_code = 4

abbrev pub equal_code : ℕ
equal_code = 1

abbrev pub less_code : ℕ
less_code = 2

-- ---- entries of a record

abbrev pub direct_code : ℕ
direct_code = 1

abbrev pub buffered_code : ℕ
buffered_code = 2

abbrev pub external_code : ℕ
external_code = 3

-- ---- kinds of an operand, of a block, of an event

abbrev pub number_operand_code : ℕ
number_operand_code = 1

abbrev pub register_operand_code : ℕ
register_operand_code = 2

abbrev pub word_operand_code : ℕ
word_operand_code = 3

abbrev pub fd_code : ℕ
fd_code = 0

abbrev pub cmx_code : ℕ
cmx_code = 1

abbrev pub arrival_code : ℕ
arrival_code = 1

abbrev pub step_code : ℕ
step_code = 2

abbrev pub cut_code : ℕ
cut_code = 3

-- ---- codes of an answer

abbrev pub arrived_code : ℕ
arrived_code = 1

abbrev pub list_full_code : ℕ
list_full_code = 2

abbrev pub no_work_code : ℕ
no_work_code = 3

abbrev pub waiting_code : ℕ
waiting_code = 4

abbrev pub started_code : ℕ
started_code = 5

abbrev pub moved_on_code : ℕ
moved_on_code = 6

abbrev pub exited_code : ℕ
exited_code = 7

abbrev pub trapped_code : ℕ
trapped_code = 8

abbrev pub was_cut_code : ℕ
was_cut_code = 9

abbrev pub nothing_to_cut_code : ℕ
nothing_to_cut_code = 10

-- ---- reasons of a trap

abbrev pub absent_register_code : ℕ
absent_register_code = 1

abbrev pub no_return_label_code : ℕ
no_return_label_code = 2

abbrev pub returns_full_code : ℕ
returns_full_code = 3

abbrev pub pending_full_code : ℕ
pending_full_code = 4

abbrev pub foreign_fd_block_code : ℕ
foreign_fd_block_code = 5

abbrev pub held_full_code : ℕ
held_full_code = 6

abbrev pub below_zero_code : ℕ
below_zero_code = 7

abbrev pub zero_divisor_code : ℕ
zero_divisor_code = 8

abbrev pub not_decimal_code : ℕ
not_decimal_code = 9

-- ---- numbers of a refusal

abbrev pub bad_image_length_number : ℕ
bad_image_length_number = 1

abbrev pub bad_table_length_number : ℕ
bad_table_length_number = 2

abbrev pub bad_table_field_number : ℕ
bad_table_field_number = 3

abbrev pub bad_record_number : ℕ
bad_record_number = 4

abbrev pub bad_state_length_number : ℕ
bad_state_length_number = 5

abbrev pub bad_state_number : ℕ
bad_state_number = 6

abbrev pub bad_events_length_number : ℕ
bad_events_length_number = 7

abbrev pub bad_event_number : ℕ
bad_event_number = 8

abbrev pub bad_answers_length_number : ℕ
bad_answers_length_number = 9

abbrev pub bad_words_length_number : ℕ
bad_words_length_number = 10

abbrev pub bad_walk_thread_number : ℕ
bad_walk_thread_number = 11

abbrev pub bad_met_length_number : ℕ
bad_met_length_number = 12

abbrev pub shared_block_number : ℕ
shared_block_number = 13

abbrev pub too_many_records_number : ℕ
too_many_records_number = 14

abbrev pub bad_output_length_number : ℕ
bad_output_length_number = 15
