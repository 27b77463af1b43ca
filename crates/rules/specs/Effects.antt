-- What a statement does, told without image, table, other threads or locks. It sees the registers, the words of its own block, and how
-- many return labels, pending signals and held signals there are; of labels it says only "on to A", "on to B", "into A", "call A" and
-- "return".
use Rattle.std.specs.Prelude.{Bool, true, cond, ◌&&◌, List, [], ◌∷◌, ◌++◌, map, ℕ, ◌+◌, ◌-◌, ◌*◌, ◌/◌, ◌%◌, length, get_or, set, drop, eqb}
use Rattle.std.specs.Prelude.{leb, ltb}
use Rattle.std.proofs.Math.Option.{Option, none, some}
use Rattle.rules_decimal.specs.Packed.{pack, packed, unpack, sum}
use Rattle.rules.specs.Sizes.{return_count, held_count, pending_count}
use Rattle.rules.specs.Codes.{absent_register_code, returns_full_code, pending_full_code}
use Rattle.rules.specs.Codes.{held_full_code, below_zero_code, zero_divisor_code}
use Rattle.rules.specs.Codes.{not_decimal_code}
use Rattle.rules.specs.Machine.{fill}
use Rattle.rules.specs.Statements.{Way, following, branching, transferring, entering, posting, founding, calling, returning, ending}
use Rattle.rules.specs.Statements.{way, reads}
use Rattle.rules.specs.declared.statement.Operand.{Operand}
use Rattle.rules.specs.declared.statement.Operand.TheVariants.{Number, Register, Word}
use Rattle.rules.specs.declared.statement.Operation.{Operation}
use Rattle.rules.specs.declared.statement.Operation.TheVariants.{Copy, Add, Subtract, Multiply, Divide, Pack, Unpack, DecimalAdd}
use Rattle.rules.specs.declared.statement.Assignment.{Assignment}
use Rattle.rules.specs.declared.statement.Relation.{Relation}
use Rattle.rules.specs.declared.statement.Relation.TheVariants.{Equal, Less}
use Rattle.rules.specs.declared.statement.Statement.{Statement}
use Rattle.rules.specs.declared.statement.Statement.TheVariants.{Skip, Assign, If, SendDirect, SendBuffered, Call, Return}
use Rattle.rules.specs.declared.statement.Statement.TheVariants.{Transfer, Exit, SendTree}

-- a trap with its reason, or a result: the order of the traps is the order of the `then`s
pub data Got (A : Type 0) : Type 0 where
  trap : ℕ → Got A
  got : A → Got A

module _ {A B : Type 0} where
  abbrev pub then : Got A → (A → Got B) → Got B
  then (trap r) f = trap r
  then (got x) f = f x

module _ {A : Type 0} where
  -- a trap, if there is a reason for one
  abbrev pub unless : Option ℕ → Got A → Got A
  unless none x = x
  unless (some r) x = trap r

-- ---- reading and computing

-- the registers, and the words of the statement's own block
pub record Cells : Type 0 where
  pub registers : List (Option ℕ)
  pub words : List ℕ

-- an absent register is read: reason 1
abbrev pub present : Option ℕ → Got ℕ
present none = trap absent_register_code
present (some v) = got v

abbrev pub read : Cells → Operand → Got ℕ
read c (Number v) = got v
read c (Register r) = present (get_or c.registers r none)
read c (Word w) = got (get_or c.words w 0)

-- left to right
unfoldable pub read_all : Cells → List Operand → Got (List ℕ)
read_all c [] = got []
read_all c (p ∷ ps) = then (read c p) (λ v. then (read_all c ps) (λ vs. got (v ∷ vs)))

-- what is worked out: a value for each destination
pub record Results : Type 0 where
  pub first : ℕ
  pub second : ℕ

abbrev pub one : ℕ → Got Results
one v = got (record { first = v; second = 0 })

abbrev pub both : ℕ → ℕ → Got Results
both u v = got (record { first = u; second = v })

-- copy; add and multiply, each modulo 65,536; subtract, where q above p is reason 7; divide, where a zero q is reason 8, and otherwise the
-- results are the quotient and the remainder (`Divided` of Division says what they are, and that there are no others); pack, unpack and
-- add packed numbers of four digits, where a number above 9,999 to pack, or a digit above 9, is reason 9
abbrev pub compute : Operation → ℕ → ℕ → Got Results
compute Copy p q = one p
compute Add p q = one ((p + q) % 65536)
compute Subtract p q = cond (ltb p q) (trap below_zero_code) (one (p - q))
compute Multiply p q = one (p * q % 65536)
compute Divide p q = cond (eqb q 0) (trap zero_divisor_code) (both (p / q) (p % q))
compute Pack p q = cond (ltb 9999 p) (trap not_decimal_code) (one (pack 4 p))
compute Unpack p q = cond (packed 4 p) (one (unpack 4 p)) (trap not_decimal_code)
compute DecimalAdd p q = cond (packed 4 p && packed 4 q) (one (sum 4 p q)) (trap not_decimal_code)

abbrev pub holds : Relation → ℕ → ℕ → Bool
holds Equal p q = eqb p q
holds Less p q = ltb p q

-- a register stored to becomes present
abbrev pub store : Operand → ℕ → Cells → Cells
store (Number n) v c = c
store (Register r) v c = record { registers = set c.registers r (some v); words = c.words }
store (Word w) v c = record { registers = c.registers; words = set c.words w v }

abbrev pub assigned : Assignment → Results → Cells → Cells
assigned a x c = store a.second x.second (store a.first x.first c)

-- ---- where a statement leads, and what it leaves

pub data Next : Type 0 where
  on_a on_b into_a call_a back : Next

-- the cells that it leaves, and the values of a signal to A: for the job's own tree, if it sends one there, and to hold for a new
-- tree, if it sends one that founds it
pub record Going : Type 0 where
  pub next : Next
  pub cells : Cells
  pub sent : Option (List ℕ)
  pub held : Option (List ℕ)

pub data Outcome : Type 0 where
  ends : Outcome
  goes : Going → Outcome

-- what a statement sees besides its cells: how many return labels the job has, how many signals are pending in its own tree, and how
-- many it holds for new ones
pub record View : Type 0 where
  pub cells : Cells
  pub depth : ℕ
  pub pending : ℕ
  pub held : ℕ

-- the k data values in registers 0 to k - 1; the rest absent
abbrev pub filled : List ℕ → Cells → Cells
filled vs c = record { registers = fill vs; words = c.words }

-- the k data values in registers 0 to k - 1; the rest kept
abbrev pub overlaid : List ℕ → Cells → Cells
overlaid vs c = record { registers = map some vs ++ drop (length vs) c.registers; words = c.words }

-- ---- what a way leaves, and where it leads

-- by whether a condition holds; nowhere, where the job ends
abbrev pub next_of : Way → Bool → Option Next
next_of following holds = some on_a
next_of branching holds = some (cond holds on_a on_b)
next_of transferring holds = some on_a
next_of entering holds = some into_a
next_of posting holds = some on_b
next_of founding holds = some on_b
next_of calling holds = some call_a
next_of returning holds = some back
next_of ending holds = none

-- direct SEND, CALL and RETURN fill the registers, TRANSFER writes over them
abbrev pub handed : Way → List ℕ → Cells → Cells
handed following vs c = c
handed branching vs c = c
handed transferring vs c = overlaid vs c
handed entering vs c = filled vs c
handed posting vs c = c
handed founding vs c = c
handed calling vs c = filled vs c
handed returning vs c = filled vs c
handed ending vs c = c

abbrev pub posted : Way → List ℕ → Option (List ℕ)
posted following vs = none
posted branching vs = none
posted transferring vs = none
posted entering vs = none
posted posting vs = some vs
posted founding vs = none
posted calling vs = none
posted returning vs = none
posted ending vs = none

abbrev pub held_by : Way → List ℕ → Option (List ℕ)
held_by following vs = none
held_by branching vs = none
held_by transferring vs = none
held_by entering vs = none
held_by posting vs = none
held_by founding vs = some vs
held_by calling vs = none
held_by returning vs = none
held_by ending vs = none

abbrev pub leave_to : Option Next → Cells → Option (List ℕ) → Option (List ℕ) → Outcome
leave_to none c sent held = ends
leave_to (some n) c sent held = goes (record { next = n; cells = c; sent = sent; held = held })

abbrev pub leave : Way → Bool → List ℕ → Cells → Outcome
leave w holds vs c = leave_to (next_of w holds) (handed w vs c) (posted w vs) (held_by w vs)

-- ---- what a statement does with the values that it read

-- no room for what it adds: CALL with 8 return labels: reason 3; buffered SEND with 8 pending: reason 4; SEND
-- JOBTREE with 4 held: reason 6
abbrev pub overflow : View → Statement → Option ℕ
overflow v Skip = none
overflow v (Assign a) = none
overflow v (If c) = none
overflow v SendDirect = none
overflow v SendBuffered = cond (leb pending_count v.pending) (some pending_full_code) none
overflow v Call = cond (leb return_count v.depth) (some returns_full_code) none
overflow v Return = none
overflow v Transfer = none
overflow v Exit = none
overflow v SendTree = cond (leb held_count v.held) (some held_full_code) none

-- opcodes of ASSIGN's kind compute and store
abbrev pub worked : Statement → List ℕ → Cells → Got Cells
worked Skip vs c = got c
worked (Assign a) vs c = then (compute a.operation (get_or vs 0 0) (get_or vs 1 0)) (λ x. got (assigned a x c))
worked (If i) vs c = got c
worked SendDirect vs c = got c
worked SendBuffered vs c = got c
worked Call vs c = got c
worked Return vs c = got c
worked Transfer vs c = got c
worked Exit vs c = got c
worked SendTree vs c = got c

-- IF goes by its condition
abbrev pub chosen : Statement → List ℕ → Bool
chosen Skip vs = true
chosen (Assign a) vs = true
chosen (If c) vs = holds c.relation (get_or vs 0 0) (get_or vs 1 0)
chosen SendDirect vs = true
chosen SendBuffered vs = true
chosen Call vs = true
chosen Return vs = true
chosen Transfer vs = true
chosen Exit vs = true
chosen SendTree vs = true

unfoldable pub perform : View → Statement → List ℕ → Got Outcome
perform v s vs = unless (overflow v s) (then (worked s vs v.cells) (λ c. got (leave (way s) (chosen s vs) vs c)))

-- all data are read before any register changes
unfoldable pub outcome : View → Statement → List Operand → Got Outcome
outcome v s given = then (read_all v.cells (reads s given)) (λ vs. perform v s vs)
