use borrow.Author.Rules.{rules}
use Rattle.std.specs.Prelude.{◌≡◌, ℕ, Bool, ◌<◌}
use Rattle.std.proofs.Common.{ap}
use native.Mathlib.Omega.{arith}
use Rattle.rules.specs.Sizes.{register_count, word_count}
use Rattle.rules.specs.Bytes.{has}
use Rattle.lemmas_encoding.specs.Slots.{registers_in}
use Rattle.rules.specs.Effects.{got}
use Rattle.step_operands.specs.Cells.{word_read, register-read, register-absent}
use Rattle.step_operands.proofs.read_operand.Goals as goal

-- what the test of the bit of register r says
seen : (set r at : ℕ) {b t : Bool} → b ≡ has at set → at ≡ r → b ≡ t → has r set ≡ t
seen set r at e p q = rw (← p, ← e, q)

pub has-requires : goal.has-requires
has-requires c =
    let h : c.in-Register.r < register_count = rw c.in-Register.is at c.requires.2 in
    omega (arith, h, c.from.ensures)

pub read_register-requires : goal.read_register-requires
read_register-requires c =
    let s = c in
    (s.requires.0, s.requires.3, rw c.in-Register.is at s.requires.2)

pub read_word-requires : goal.read_word-requires
read_word-requires c = (
  c.requires.0,
  c.requires.1,
  rw
      c.in-Word.is at c.requires.2,
)

pub returns-in-Number : goal.returns-in-Number
returns-in-Number c = rw c.in-Number.is

pub returns-then-has : goal.returns-then-has
returns-then-has c =
    let s = c in
    let a = s.args in
    let h : c.in-Register.r < register_count = rw c.in-Register.is at s.requires.2 in
    rw (
      c.in-Register.is,
      register-read a.state.now a.block.0 a.present (registers_in a.state.now a.t.0) c.in-Register.r h
          (seen a.present c.in-Register.r c.from.result c.has.ensures c.from.ensures c.if-has.true),
    ) (ap got c.read_register.ensures)

pub returns-else-has : goal.returns-else-has
returns-else-has c =
    let s = c in
    let a = s.args in
    let h : c.in-Register.r < register_count = rw c.in-Register.is at s.requires.2 in
    rw (
      c.in-Register.is,
      register-absent a.state.now a.block.0 a.present (registers_in a.state.now a.t.0) c.in-Register.r h
          (seen a.present c.in-Register.r c.from.result c.has.ensures c.from.ensures c.if-has.false),
    )

pub returns-in-Word : goal.returns-in-Word
returns-in-Word c =
    let s = c in
    let a = s.args in
    let h : c.in-Word.w < word_count = rw c.in-Word.is at s.requires.2 in
    rw (c.in-Word.is, word_read a.state.now a.block.0 c.in-Word.w s.requires.1 h) (ap got c.read_word.ensures)
