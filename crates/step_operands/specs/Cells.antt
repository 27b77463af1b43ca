-- What a statement reads from: a thread's registers, by their presence set and values, and the words of a block in the state's bytes.
use Rattle.std.specs.Prelude.{◌≡◌, refl, true, false, List, ℕ, ◌+◌, ◌*◌, ◌<◌, get_or, drop}
use Rattle.std.proofs.Common.{sym, ◌∙◌, zero-add, arith}
use Rattle.std.proofs.Math.Option.{none}
use Rattle.rules.specs.Sizes.{block_count, word_count, register_count}
use Rattle.rules.specs.Codes.{absent_register_code}
use Rattle.rules.specs.Bytes.{num16, has}
use Rattle.rules.specs.Image.{block_field}
use Rattle.rules.specs.Machine.{window}
use Rattle.rules.specs.Encoding.{register_of, registers_from, words_from}
use Rattle.rules.specs.Effects.{Got, Cells, read, trap, got}
use Rattle.rules.specs.declared.statement.Operand.{Operand}
use Rattle.rules.specs.declared.statement.Operand.TheVariants.{Register}
use Rattle.lemmas_encoding.specs.Registers.{register-at}
use Rattle.lemmas_encoding.specs.Slots.{registers_in}
use Rattle.lemmas_encoding.specs.Runs.{chunks-at}
use Rattle.state_thread.specs.declared.thread.ThreadState.{ThreadState}
use Rattle.state_shared.specs.Words.{word_place}
use Rattle.lemmas_step.specs.Same.{window-at}

abbrev pub cells_from : List ℕ → ℕ → ℕ → List ℕ → Cells
cells_from state block present registers = record {
  registers = registers_from present registers 0 register_count;
  words = window block
      (words_from state);
}

-- what the statement in the record r reads from, where thread w comes to it
abbrev pub cells_of : List ℕ → ThreadState → List ℕ → Cells
cells_of state w r = cells_from state (block_field r) w.present w.registers

pub word_read : (state : List ℕ) (block w : ℕ) → block < block_count → w < word_count
    → get_or (window block (words_from state)) w 0 ≡ num16 (drop (word_place block w) state)
unfolding words_from
word_read state block w b h = window-at block w (words_from state) h
    ∙ chunks-at num16 2 (block_count * word_count) state 0 (word_count * block + w) (omega arith)

module _ (state : List ℕ) (block present : ℕ) (registers : List ℕ) where
  register-is : (r : ℕ) → r < register_count
      → get_or (cells_from state block present registers).registers r none ≡ register_of present registers r
  register-is r h = register-at present registers 0 register_count r h ∙ rw zero-add refl

  pub register-read : (r : ℕ) → r < register_count → has r present ≡ true
      → read (cells_from state block present registers) (Register r) ≡ got (get_or registers r 0)
  register-read r h e = rw (register-is r h, e) refl

  pub register-absent : (r : ℕ) → r < register_count → has r present ≡ false
      → read (cells_from state block present registers) (Register r) ≡ trap absent_register_code
  register-absent r h e = rw (register-is r h, e) refl

-- what is read from the registers of the thread's record is read from what the statement reads from
pub read-here : (state : List ℕ) (w : ThreadState) (r : List ℕ) (t : ℕ) (p : Operand) {block : ℕ} {g h : Got ℕ}
    → block ≡ block_field r → w.registers ≡ registers_in state t
    → g ≡ read (cells_from state block w.present (registers_in state t)) p → g ≡ h → read (cells_of state w r) p ≡ h
read-here state w r t p b e f k = sym (rw (b, ← e) at f) ∙ k
