-- Where the results of a step of ASSIGN's kind stand after it: a value that the step's cells have at a place, the machine has there.
use mathlib.Core.Path.{◌≡◌, ◌∙◌}
use mathlib.Core.Option.{Option, none, some}
use mathlib.Core.List.{List}
use Prim.Native.Nat.{ℕ, ◌+◌, ◌*◌, ◌≤◌}
use native.Mathlib.Omega.{arith}
use lib.ListN.{length, get_or}
use Rattle.rules.specs.Sizes.{word_count}
use Rattle.rules.specs.Image.{record_at}
use Rattle.rules.specs.Statements.{statement_of}
use Rattle.rules.specs.Machine.{Job, running, Machine, thread_at, keep}
use Rattle.rules.specs.Effects.{got, Cells, present, read, Results, compute, store, assigned}
use Rattle.rules.specs.Steps.{block_at}
use Rattle.rules.specs.Storing.{Place, length-window, length-words, place-stored}
use Rattle.rules.specs.declared.statement.Operand.{Operand}
use Rattle.rules.specs.declared.statement.Operand.TheVariants.{Number, Register, Word}
use Rattle.rules.specs.declared.statement.Assignment.{Assignment}
use Rattle.rules.specs.declared.statement.Statement.TheVariants.{Assign}
use Rattle.rules.proofs.Running.{cells_of}
use Rattle.rules.proofs.Opcodes.{step_of, register}
use Rattle.rules.proofs.Assigning.{kept, goes_on, words-after}

-- a register of thread t, or a word of block b, has this value
abbrev pub Stands : Machine → ℕ → ℕ → Operand → ℕ → Type 0
Stands m t b (Number n) v = ⊥
Stands m t b (Register r) v = register (thread_at m t) r ≡ some v
Stands m t b (Word w) v = get_or m.words (word_count * b + w) 0 ≡ v

present-some : (o : Option ℕ) (v : ℕ) → present o ≡ got v → o ≡ some v
present-some none v h = cc
present-some (some u) v h = cc

stands : (m : Machine) (t b : ℕ) (c : Cells) (words : List ℕ) (d : Operand) (v : ℕ) → ((r : ℕ) → register (thread_at m t) r
    ≡ get_or c.registers r none) → m.words ≡ keep b c.words words → length c.words ≡ word_count
    → word_count * b + word_count ≤ length words → Place c d → read c d ≡ got v → Stands m t b d v
stands m t b c words (Number n) v f g l h p e = absurd p
stands m t b c words (Register r) v f g l h p e = f r ∙ present-some (get_or c.registers r none) v e
stands m t b c words (Word w) v f g l h p e =
    let value : get_or c.words w 0 ≡ v = cc in
    rw g (kept b w c.words words (omega arith) p (omega arith) ∙ value)

module _ (image table : List ℕ) (s : Machine) (t locks : ℕ) (j : Job) (a : Assignment) (busy : thread_at s t ≡ running locks j)
    (statement : statement_of (record_at image j.label) ≡ Assign a) (p q : ℕ) (left : read (cells_of image s j) a.left ≡ got p)
    (right : read (cells_of image s j) a.right ≡ got q) (x : Results) (computed : compute a.operation p q ≡ got x)
    (inside : word_count * block_at image j.label + word_count ≤ length s.words) where
  abbrev before : Cells
  before = cells_of image s j

  abbrev once : Cells
  once = store a.first x.first before

  sized : length (assigned a x before).words ≡ word_count
  sized =
      length-words once a.second x.second
      ∙ length-words before a.first x.first
      ∙ length-window (block_at image j.label) s.words

  pub placed : (z : Operand) (v : ℕ) → Place before z → read (assigned a x before) z ≡ got v
      → Stands (step_of image table s t).state t (block_at image j.label) z v
  placed z v k =
      stands (step_of image table s t).state t (block_at image j.label) (assigned a x before) s.words z v
      (λ r. rw (goes_on image table s t locks j a busy statement p q left right x computed).thread)
      (words-after image table s t locks j a busy statement p q left right x computed) sized inside
      (place-stored once z a.second x.second (place-stored before z a.first x.first k))
