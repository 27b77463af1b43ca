-- What a record that breaks no rule has: its block is one of the table's, its operands are within limits, and each label that it uses
-- is below n.
use Rattle.std.specs.Prelude.{◌≡◌, Bool, true, cond, ◌&&◌, ◌||◌, ◌⊎◌, List, ℕ, zero, suc, ◌+◌, ◌≤◌, ◌<◌, eqb, ltb, length}
use Rattle.std.proofs.Common.{ap, ◌∙◌, inl, inr, arith, eqb-true, ltb-true, lt-ltb}
use Rattle.rules.specs.Sizes.{block_count, operand_count, register_count, word_count, record_size}
use Rattle.rules.specs.Bytes.{all_from}
use Rattle.rules.specs.Image.{labels, record_at, block_field, entry, operands, kind, value}
use Rattle.rules.specs.Statements.{operand_of, operand_at}
use Rattle.rules.specs.Check.{operand_ok, operand_slot_ok, label_ok}
use Rattle.rules.specs.declared.statement.Operand.{Operand}
use Rattle.rules.specs.declared.statement.Operand.TheVariants.{Number, Register, Word}
use Rattle.rules.specs.declared.statement.Role.{Role}
use Rattle.rules.specs.declared.statement.Role.TheVariants.{Unused, Inner, Direct, Local, Buffered}
use Rattle.lemmas_rules.specs.Logic.{or_cases, and_both}

-- a register 0 to 24, a shared word 0 to 15, or any number
abbrev pub Fits : Operand → Type 0
Fits (Number v) = Unit {0}
Fits (Register r) = r < register_count
Fits (Word w) = w < word_count

-- a record whose data can be read
pub record Readable (r : List ℕ) : Type 0 where
  pub long : length r ≡ record_size
  pub block : block_field r < block_count
  pub few : operands r ≤ operand_count
  pub slots : all_from (operand_slot_ok r) 0 operand_count ≡ true

-- an operand that keeps the rules is a number, a register or a shared word
pub operand-kinds : (k v : ℕ) → operand_ok k v ≡ true → (k ≡ 1) ⊎ (((k ≡ 2) × (v < register_count)) ⊎ ((k ≡ 3) × (v < word_count)))
operand-kinds k v h = first (or_cases (eqb k 1 || (eqb k 2 && ltb v register_count)) (eqb k 3 && ltb v word_count) h)
  where
    second : (eqb k 1 ≡ true) ⊎ ((eqb k 2 && ltb v register_count) ≡ true)
        → (k ≡ 1) ⊎ (((k ≡ 2) × (v < register_count)) ⊎ ((k ≡ 3) × (v < word_count)))
    second (inl e) = inl (eqb-true k 1 e)
    second (inr e) = let b = and_both (eqb k 2) (ltb v register_count) e in inr (inl (eqb-true k 2 b.0, ltb-true v register_count b.1))

    first : ((eqb k 1 || (eqb k 2 && ltb v register_count)) ≡ true) ⊎ ((eqb k 3 && ltb v word_count) ≡ true)
        → (k ≡ 1) ⊎ (((k ≡ 2) × (v < register_count)) ⊎ ((k ≡ 3) × (v < word_count)))
    first (inl e) = second (or_cases (eqb k 1) (eqb k 2 && ltb v register_count) e)
    first (inr e) = let b = and_both (eqb k 3) (ltb v word_count) e in inr (inr (eqb-true k 3 b.0, ltb-true v word_count b.1))

operand-fits : (k v : ℕ) → operand_ok k v ≡ true → Fits (operand_of k v)
unfolding operand_of
operand-fits k v h = by (operand-kinds k v h)
  where
    by : (k ≡ 1) ⊎ (((k ≡ 2) × (v < register_count)) ⊎ ((k ≡ 3) × (v < word_count)))
        → Fits (cond (eqb k 1) (Number v) (cond (eqb k 2) (Register v) (Word v)))
    by (inl e) = rw e tt
    by (inr (inl e)) = rw e.0 e.1
    by (inr (inr e)) = rw e.0 e.1

-- a test that holds of a run holds at each place of it
all-at : (ok : ℕ → Bool) (i n : ℕ) → all_from ok i n ≡ true → (k : ℕ) → k < n → ok (i + k) ≡ true
unfolding all_from
all-at ok i zero h k l = absurd (omega arith)
all-at ok i (suc n) h zero l = ap ok (omega arith) ∙ (and_both (ok i) (all_from ok (i + 1) n) h).0
all-at ok i (suc n) h (suc k) l = ap ok (omega arith) ∙ all-at ok (i + 1) n (and_both (ok i) (all_from ok (i + 1) n) h).1 k (omega arith)

-- an operand that the record has is within limits
pub slot_ok : (r : List ℕ) → all_from (operand_slot_ok r) 0 operand_count ≡ true → (k : ℕ) → k < operands r → k < operand_count
    → operand_ok (kind r k) (value r k) ≡ true
unfolding operand_slot_ok
slot_ok r h k l m =
    let e : operand_slot_ok r k ≡ true = ap (operand_slot_ok r) (omega arith) ∙ all-at (operand_slot_ok r) 0 operand_count h k m in
    rw (lt-ltb k (operands r) l) at e

pub slot-fits : (r : List ℕ) → all_from (operand_slot_ok r) 0 operand_count ≡ true → (k : ℕ) → k < operands r → k < operand_count
    → Fits (operand_at r k)
unfolding operand_at
slot-fits r h k l m = operand-fits (kind r k) (value r k) (slot_ok r h k l m)

-- a label that is used is below n
abbrev pub Below : List ℕ → Role → ℕ → Type 0
Below image Unused v = Unit {0}
Below image Inner v = v < labels image
Below image Direct v = v < labels image
Below image Local v = v < labels image
Below image Buffered v = v < labels image

pub label-below : (image : List ℕ) (role : Role) (b v : ℕ) → label_ok image role b v ≡ true → Below image role v
unfolding label_ok
label-below image Unused b v h = tt
label-below image Inner b v h = ltb-true v (labels image) (and_both (ltb v (labels image)) _ h).0
label-below image Direct b v h = ltb-true v (labels image) (and_both (ltb v (labels image)) _ h).0
label-below image Local b v h = ltb-true v (labels image) (and_both (ltb v (labels image)) _
    (and_both _ (eqb (entry (record_at image v)) 1) h).0).0
label-below image Buffered b v h = ltb-true v (labels image) (and_both (ltb v (labels image)) _ h).0
