-- What is stored is read there, and nowhere else. So two values whose destinations are not equal are stored together: each is read where
-- it was stored, and their order does not matter.
use Rattle.std.specs.Prelude.{◌≡◌, refl, ◌≢◌, List, ℕ, ◌<◌, length}
use Rattle.std.proofs.Common.{ap, length-set, get_or-set_same, get_or-set_other}
use Rattle.std.proofs.Math.Option.{Option, none, some}
use Rattle.std.proofs.lemmas.List.{set_comm}
use Rattle.rules.specs.Sizes.{word_count}
use Rattle.rules.specs.Machine.{cells, window}
use Rattle.rules.specs.Effects.{got, Cells, present, read, store}
use Rattle.rules.specs.declared.statement.Operand.{Operand}
use Rattle.rules.specs.declared.statement.Operand.TheVariants.{Number, Register, Word}

-- a register or a word that there is
abbrev pub Place : Cells → Operand → Type 0
Place c (Number n) = ⊥
Place c (Register r) = r < length c.registers
Place c (Word w) = w < length c.words

-- a block has 16 words
pub length-window : (b : ℕ) (words : List ℕ) → length (window b words) ≡ word_count
unfolding window cells
length-window b words = refl

pub read-stored : (c : Cells) (d : Operand) (v : ℕ) → Place c d → read (store d v c) d ≡ got v
read-stored c (Number n) v h = absurd h
read-stored c (Register r) v h = ap present (get_or-set_same c.registers r (some v) none h)
read-stored c (Word w) v h = ap got (get_or-set_same c.words w v 0 h)

pub read-other : (c : Cells) (d e : Operand) (v : ℕ) → d ≢ e → read (store e v c) d ≡ read c d
read-other c (Number n) e v h = refl
read-other c (Register r) (Number n) v h = refl
read-other c (Register r) (Register s) v h = ap present (get_or-set_other c.registers s r (some v) none (λ q. h (ap Register q)))
read-other c (Register r) (Word w) v h = refl
read-other c (Word w) (Number n) v h = refl
read-other c (Word w) (Register s) v h = refl
read-other c (Word w) (Word x) v h = ap got (get_or-set_other c.words x w v 0 (λ q. h (ap Word q)))

pub place-stored : (c : Cells) (d e : Operand) (v : ℕ) → Place c d → Place (store e v c) d
place-stored c (Number n) e v h = h
place-stored c (Register r) (Number n) v h = h
place-stored c (Register r) (Register s) v h = rw (length-set c.registers s (some v)) h
place-stored c (Register r) (Word w) v h = h
place-stored c (Word w) (Number n) v h = h
place-stored c (Word w) (Register s) v h = h
place-stored c (Word w) (Word x) v h = rw (length-set c.words x v) h

pub length-words : (c : Cells) (d : Operand) (v : ℕ) → length (store d v c).words ≡ length c.words
length-words c (Number n) v = refl
length-words c (Register r) v = refl
length-words c (Word w) v = length-set c.words w v

pub together : (c : Cells) (d e : Operand) (u v : ℕ) → d ≢ e → store e v (store d u c) ≡ store d u (store e v c)
together c (Number n) e u v h = refl
together c (Register r) (Number n) u v h = refl
together c (Register r) (Register s) u v h =
    ap (λ (z : List (Option ℕ)). record { registers = z; words = c.words })
    (set_comm c.registers r s (some u) (some v) (λ q. h (ap Register q)))
together c (Register r) (Word w) u v h = refl
together c (Word w) (Number n) u v h = refl
together c (Word w) (Register s) u v h = refl
together c (Word w) (Word x) u v h =
    ap (λ (z : List ℕ). record { registers = c.registers; words = z }) (set_comm c.words w x u v (λ q. h (ap Word q)))
