-- What an assignment with two destinations has, if its record breaks no rule: each is a register or a shared word, and they are not equal.
use Rattle.std.specs.Prelude.{◌≡◌, ◌≢◌, ◌⊎◌, Bool, cond, not, ◌&&◌, List, ℕ, ◌+◌, ◌≤◌, ◌<◌, leb}
use Rattle.std.proofs.Common.{sym, ◌∙◌, inl, inr, arith}
use Rattle.std.proofs.Math.Bool.{true, false, false≢true}
use Rattle.std.proofs.Math.Dec.{eqb}
use borrow.Author.Tests.{eq-eqb, leb-true}
use Rattle.rules.specs.Sizes.{register_count, word_count}
use Rattle.rules.specs.Image.{operands, kind, value}
use Rattle.rules.specs.Statements.{operand_of, operand_at, optional, shape, statement_of}
use Rattle.rules.specs.Check.{operand_ok}
use Rattle.rules.specs.declared.statement.Operand.TheVariants.{Register, Word}
use Rattle.rules.specs.declared.statement.Assignment.{Assignment}
use Rattle.rules.specs.declared.statement.Statement.TheVariants.{Assign}
use Rattle.lemmas_rules.specs.Logic.{never, and_both}
use Rattle.lemmas_rules.specs.Passed.{Parts}
use Rattle.step_operands.specs.Legal.{Fits, operand-kinds, slot_ok}
use Rattle.step_operands.specs.Statements.{Lands, lands, has, second_fits}

-- an operand that is no number
stores : (k v : ℕ) → operand_ok k v ≡ true → 2 ≤ k → (k ≡ 2) ⊎ (k ≡ 3)
stores k v h l = by (operand-kinds k v h)
  where
    by : (k ≡ 1) ⊎ (((k ≡ 2) × (v < register_count)) ⊎ ((k ≡ 3) × (v < word_count))) → (k ≡ 2) ⊎ (k ≡ 3)
    by (inl e) = absurd (omega arith)
    by (inr (inl e)) = inl e.0
    by (inr (inr e)) = inr e.0

-- two of them that are equal have the same kind and the same number
same : (k v k' v' : ℕ) → (k ≡ 2) ⊎ (k ≡ 3) → (k' ≡ 2) ⊎ (k' ≡ 3) → operand_of k v ≡ operand_of k' v' → (k ≡ k') × (v ≡ v')
unfolding operand_of
same k v k' v' (inl e) (inl f) h = let g : Register v ≡ Register v' = rw (e, f) at h in (e ∙ sym f, cc)
same k v k' v' (inl e) (inr f) h = let g : Register v ≡ Word v' = rw (e, f) at h in never (cc)
same k v k' v' (inr e) (inl f) h = let g : Word v ≡ Register v' = rw (e, f) at h in never (cc)
same k v k' v' (inr e) (inr f) h = let g : Word v ≡ Word v' = rw (e, f) at h in (e ∙ sym f, cc)

module _ {image r : List ℕ} (p : Parts image r) (a : Assignment) (e : statement_of r ≡ Assign a) (two : (shape a.operation).second ≡ true)
  where
    -- the test of the second destination
    both : (leb 2 (kind r 1) ≡ true) × (not (eqb (kind r 0) (kind r 1) && eqb (value r 0) (value r 1)) ≡ true)
    both = and_both (leb 2 (kind r 1)) (not (eqb (kind r 0) (kind r 1) && eqb (value r 0) (value r 1))) (rw two at (has p a e).second)

    pub second-lands : Lands (operand_at r 1)
    unfolding operand_at optional
    second-lands = lands (kind r 1) (value r 1) both.0 (fits (shape a.operation).second two (second_fits p a e))
      where
        fits : (has : Bool) → has ≡ true → Fits (optional has r 1) → Fits (operand_at r 1)
        fits true h f = f
        fits false h f = absurd (false≢true h)

    -- each of the first two operands is a register or a word
    stored : (k : ℕ) → k < 2 → 2 ≤ kind r k → (kind r k ≡ 2) ⊎ (kind r k ≡ 3)
    stored k l = stores (kind r k) (value r k) (slot_ok r p.slots k (omega (arith, count)) (omega arith))
      where
        count : operands r ≡ 2 + cond (shape a.operation).right 2 1
        count = rw two at (has p a e).count

    pub differ : operand_at r 0 ≢ operand_at r 1
    unfolding operand_at
    differ h =
        let one = stored 0 (omega arith) (leb-true 2 (kind r 0) (has p a e).first) in
        let other = stored 1 (omega arith) (leb-true 2 (kind r 1) both.0) in
        let s = same (kind r 0) (value r 0) (kind r 1) (value r 1) one other h in
        let k : eqb (kind r 0) (kind r 1) ≡ true = eq-eqb (kind r 0) (kind r 1) s.0 in
        let v : eqb (value r 0) (value r 1) ≡ true = eq-eqb (value r 0) (value r 1) s.1 in
        false≢true (rw (k, v) at both.1)
