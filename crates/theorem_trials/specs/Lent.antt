-- What the trials on bytes lend: records of an image, events, block tables; and the calls on them.
use Rattle.std.specs.Prelude.{List, [], ◌∷◌, ◌++◌, ℕ, zero, suc, ◌+◌, ◌*◌, replicate}
use Rattle.rules.specs.Sizes.{table_size, words_size, state_size, threads_place, presence_place}
use Rattle.rules.specs.Bytes.{pad}
use Rattle.rules.specs.Calls.{fresh_state, run_state, run_answers}

-- ---- records of an image, and events

-- the 84 bytes of a record: opcode, block, entry, operator, labels A and B, and the operand count with the operands
abbrev pub record_bytes : ℕ → ℕ → ℕ → ℕ → ℕ → ℕ → List ℕ → List ℕ
record_bytes opcode block entry operator a b operands = opcode ∷ block ∷ entry ∷ operator ∷ a ∷ 0 ∷ b ∷ 0 ∷ pad 0 76 operands

-- an operand: a number of these two bytes, a register or a shared word
abbrev pub number : ℕ → ℕ → List ℕ
number low high = 1 ∷ low ∷ high ∷ []

abbrev pub register : ℕ → List ℕ
register r = 2 ∷ r ∷ 0 ∷ []

abbrev pub word : ℕ → List ℕ
word w = 3 ∷ w ∷ 0 ∷ []

-- EXIT in this block, with this entry
abbrev pub exiting : ℕ → ℕ → List ℕ
exiting block entry = record_bytes 10 block entry 0 0 0 []

-- the 55 bytes of an arrival at a label, with the value count and the values, and of a step (kind 2) or a cut (kind 3) of a thread
abbrev pub arrival_bytes : ℕ → List ℕ → List ℕ
arrival_bytes l values = 1 ∷ 0 ∷ l ∷ 0 ∷ pad 0 51 values

abbrev pub turn_bytes : ℕ → ℕ → List ℕ
turn_bytes kind t = kind ∷ t ∷ replicate 53 0

-- an arrival at label 0 with these values, the bytes after their count, and two steps: the job starts, and label 0 is carried out
abbrev pub start_and_step : ℕ → List ℕ → List ℕ
start_and_step n values = arrival_bytes 0 (n ∷ values) ++ turn_bytes 2 0 ++ turn_bytes 2 0

-- the same bytes n times
abbrev pub times : ℕ → List ℕ → List ℕ
times zero b = []
times (suc n) b = b ++ times n b

-- ---- block tables: of zeros, where lock 0 guards every block, and tables that begin with such rows

abbrev pub table : List ℕ
table = replicate table_size 0

abbrev pub beginning : List ℕ → List ℕ
beginning rows = pad 0 table_size rows

-- ---- the calls

abbrev pub words : List ℕ
words = replicate words_size 0

abbrev pub zeros : List ℕ
zeros = replicate state_size 0

-- Fresh, and then Run with m events: its answers, and the state that it leaves
abbrev pub fresh_with : List ℕ → List ℕ → List ℕ
fresh_with rows image = fresh_state image rows words zeros

abbrev pub answers_with : List ℕ → List ℕ → ℕ → List ℕ → List ℕ
answers_with rows image m events = run_answers image rows (fresh_with rows image) events (replicate (2 * m) 0)

abbrev pub state_with : List ℕ → List ℕ → ℕ → List ℕ → List ℕ
state_with rows image m events = run_state image rows (fresh_with rows image) events (replicate (2 * m) 0)

-- where the presence set of thread 0 stands in a state, its registers behind it
abbrev pub presence_set : ℕ
presence_set = threads_place + presence_place
