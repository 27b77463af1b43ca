-- What each opcode asks of operator, operand count and labels, and the row of bits by which it is tested.
use Rattle.std.specs.Prelude.{Bool, true, false, cond, List, [], ◌∷◌, ℕ, ◌+◌, ◌-◌, ◌^◌, eqb, get_or}
use Rattle.rules.specs.Sizes.{block_place}
use Rattle.rules.specs.Codes.{skip_code, assign_code, goto_code, if_code, send_direct_code, send_buffered_code, call_code, return_code}
use Rattle.rules.specs.Codes.{transfer_code, exit_code, send_tree_code, divide_code, pack_code, unpack_code, decimal_add_code}
use Rattle.rules.specs.Codes.{direct_code, buffered_code, register_operand_code}
use Rattle.rules.specs.declared.statement.Role.{Role}
use Rattle.rules.specs.declared.statement.Role.TheVariants.{Unused, Inner, Direct, Local, Buffered}
use Rattle.bytes_fields.specs.Marked.{eight}
use Rattle.check_record.specs.declared.rows.Row.{Row}

-- whether there are operators; the sums of operand count and four times the operator that are allowed, as a set; what label A is used for;
-- whether label B is used, which is then one of the own block; and the least kind of the first operand
pub record Asks : Type 0 where
  pub chosen : Bool
  pub sums : ℕ
  pub first : Role
  pub second : Bool
  pub least : ℕ

abbrev asking : Bool → ℕ → Role → Bool → ℕ → Asks
asking o n a b k = record { chosen = o; sums = n; first = a; second = b; least = k }

abbrev pub inner_if : Bool → Role
inner_if b = cond b Inner Unused

-- an opcode, and what it asks
pub record Line : Type 0 where
  pub opcode : ℕ
  pub asks : Asks

abbrev pub line : ℕ → Asks → Line
line op x = record { opcode = op; asks = x }

-- no operand
abbrev pub steps : Role → Asks
steps a = asking false (2 ^ 0) a false 0

-- any number of operands up to 25
abbrev pub carries : Role → Bool → Asks
carries a b = asking false (2 ^ 26 - 1) a b 0

-- of ASSIGN's kind without operator, with so many operands
abbrev pub stores : ℕ → Asks
stores c = asking false (2 ^ c) Inner false register_operand_code

abbrev pub assigns : Asks
assigns = asking true (2 ^ 6 + 2 ^ 11 + 2 ^ 15 + 2 ^ 19) Inner false register_operand_code

abbrev pub branches : Asks
branches = asking true (2 ^ 6 + 2 ^ 10) Inner true 0

abbrev pub table : List Line
table =
    line skip_code (steps Inner) ∷ line goto_code (steps Inner) ∷ line assign_code assigns ∷ line if_code branches
    ∷ line send_direct_code (carries Direct false) ∷ line send_buffered_code (carries Buffered true)
    ∷ line send_tree_code (carries Buffered true) ∷ line call_code (carries Direct true) ∷ line return_code (carries Unused false)
    ∷ line transfer_code (carries Local false) ∷ line exit_code (steps Unused) ∷ line divide_code (stores 4) ∷ line pack_code (stores 2)
    ∷ line unpack_code (stores 2) ∷ line decimal_add_code (stores 3) ∷ []

-- an opcode that there is not allows no sum
abbrev pub refuses : Asks
refuses = asking false 0 Unused false 0

abbrev pub asks_in : List Line → ℕ → Asks
asks_in [] op = refuses
asks_in (x ∷ xs) op = cond (eqb op x.opcode) x.asks (asks_in xs op)

-- ---- as bits

-- the bits that are zero in a byte of a label of this role; and of the record at the label those that are given, and its entry
abbrev pub zero_bits : Role → ℕ
zero_bits Unused = 255
zero_bits Inner = 0
zero_bits Direct = 0
zero_bits Local = 0
zero_bits Buffered = 0

abbrev pub given_bits : Role → ℕ
given_bits Unused = 0
given_bits Inner = 255
given_bits Direct = 65280
given_bits Local = 65535
given_bits Buffered = 65280

abbrev pub entry_for : Role → ℕ
entry_for Unused = 0
entry_for Inner = 0
entry_for Direct = direct_code
entry_for Local = direct_code
entry_for Buffered = buffered_code

-- the bits that are zero in byte i of the record: a block is below 16 and an entry below 4; where there are operators one is below 8 and a
-- count below 4, and else the operator is 0 and a count below 32
abbrev pub marks : Asks → List ℕ
marks x =
    0 ∷ 240 ∷ 252 ∷ cond x.chosen 248 255 ∷ zero_bits x.first ∷ zero_bits x.first ∷ zero_bits (inner_if x.second)
    ∷ zero_bits (inner_if x.second) ∷ cond x.chosen 252 224 ∷ []

abbrev pub mark : Asks → ℕ → ℕ
mark x i = get_or (marks x) i 0

abbrev pub row_by : ℕ → ℕ → ℕ → ℕ → ℕ → ℕ → Row
row_by z n g e h k = record { zeros = z; sums = n; given = g; entry = e; inner = h; least = k }

abbrev pub row_for : Asks → Row
row_for x = row_by (eight (mark x) block_place) x.sums (given_bits x.first) (entry_for x.first) (given_bits (inner_if x.second))
    x.least

unfoldable pub row_of : ℕ → Row
row_of op = row_for (asks_in table op)
