-- The limits, the sizes and the places of docs/MACHINE.md, each said here and nowhere else. A count is a number of things, a size a number
-- of bytes, and a place the byte at which a field begins in the record that holds it.
use Rattle.std.specs.Prelude.{ℕ, ◌+◌, ◌*◌}

-- ---- limits

abbrev pub thread_count : ℕ
thread_count = 8

abbrev pub block_count : ℕ
block_count = 16

abbrev pub lock_count : ℕ
lock_count = 16

-- kinds of a block: FD and CMX
abbrev pub block_kind_count : ℕ
block_kind_count = 2

-- shared words a block, and of all blocks
abbrev pub word_count : ℕ
word_count = 16

abbrev pub word_total : ℕ
word_total = block_count * word_count

-- registers and return labels a thread
abbrev pub register_count : ℕ
register_count = 25

abbrev pub return_count : ℕ
return_count = 8

-- signals that a job holds for new trees
abbrev pub held_count : ℕ
held_count = 4

-- job trees, and pending signals a tree
abbrev pub tree_count : ℕ
tree_count = 16

abbrev pub pending_count : ℕ
pending_count = 8

-- records of an image, operands of a record, events of a run
abbrev pub record_count : ℕ
record_count = 512

abbrev pub operand_count : ℕ
operand_count = 25

abbrev pub event_count : ℕ
event_count = 1024

-- the label of an idle thread
abbrev pub idle_label : ℕ
idle_label = 65535

-- ---- the image: a record is opcode, block, entry, operator, label A, label B, operand count, operands of kind and value

abbrev pub opcode_place : ℕ
opcode_place = 0

abbrev pub block_place : ℕ
block_place = 1

abbrev pub entry_place : ℕ
entry_place = 2

abbrev pub operator_place : ℕ
operator_place = 3

abbrev pub label_a_place : ℕ
label_a_place = 4

abbrev pub label_b_place : ℕ
label_b_place = 6

abbrev pub operand_count_place : ℕ
operand_count_place = 8

abbrev pub operands_place : ℕ
operands_place = 9

abbrev pub operand_size : ℕ
operand_size = 3

abbrev pub record_size : ℕ
record_size = operands_place + operand_size * operand_count

-- ---- the block table: a row is thread, kind, lock

abbrev pub row_thread_place : ℕ
row_thread_place = 0

abbrev pub row_kind_place : ℕ
row_kind_place = 1

abbrev pub row_lock_place : ℕ
row_lock_place = 2

abbrev pub row_size : ℕ
row_size = 3

abbrev pub table_size : ℕ
table_size = row_size * block_count

-- ---- a signal: label, value count, values

abbrev pub value_count_place : ℕ
value_count_place = 2

abbrev pub values_place : ℕ
values_place = 3

abbrev pub signal_size : ℕ
signal_size = values_place + 2 * register_count

-- ---- a thread record: label, lock set, return count, return labels, presence set, register values, held count, held signals

abbrev pub locks_place : ℕ
locks_place = 2

abbrev pub return_count_place : ℕ
return_count_place = 4

abbrev pub returns_place : ℕ
returns_place = 5

abbrev pub presence_place : ℕ
presence_place = returns_place + 2 * return_count

abbrev pub registers_place : ℕ
registers_place = presence_place + 4

abbrev pub held_count_place : ℕ
held_count_place = registers_place + 2 * register_count

abbrev pub held_place : ℕ
held_place = held_count_place + 1

abbrev pub held_size : ℕ
held_size = signal_size * held_count

abbrev pub thread_size : ℕ
thread_size = held_place + held_size

-- ---- a tree record: thread, pending count, signals

abbrev pub pending_count_place : ℕ
pending_count_place = 1

abbrev pub signals_place : ℕ
signals_place = 2

abbrev pub tree_size : ℕ
tree_size = signals_place + signal_size * pending_count

-- ---- the state: the words, the thread records, the tree count, the tree records

abbrev pub words_size : ℕ
words_size = 2 * word_total

abbrev pub threads_place : ℕ
threads_place = words_size

abbrev pub tree_count_place : ℕ
tree_count_place = threads_place + thread_size * thread_count

abbrev pub trees_place : ℕ
trees_place = tree_count_place + 1

abbrev pub state_size : ℕ
state_size = trees_place + tree_size * tree_count

-- ---- an event: kind, thread, signal; an answer: code, detail

abbrev pub event_kind_place : ℕ
event_kind_place = 0

abbrev pub event_thread_place : ℕ
event_thread_place = 1

abbrev pub event_signal_place : ℕ
event_signal_place = 2

abbrev pub event_size : ℕ
event_size = event_signal_place + signal_size

abbrev pub answer_size : ℕ
answer_size = 2
