-- Three bytes that are in range are an operand.
use Rattle.std.proofs.Common.{◌≡◌, ℕ, zero, suc, ◌+◌, ◌*◌, ◌%◌, ◌<◌, Bool, true, false, ◌&&◌, ltb, leb, sym, refl, ◌∙◌, arith, le-ltb}
use Rattle.std.proofs.Common.{lt-ltb, ne_eqb, le-leb, leb-false, leb-true}
use mathlib.Core.Bool.{or-false}
use borrow.Author.Tests.{lt-leb}
use Rattle.rules.specs.Check.{operand_ok}
use Rattle.check_operands.specs.Operands.{fewer, bound_of}

-- a number of two bytes is up to one byte's limit exactly if its low byte is and its high byte is zero
short : (x y l : ℕ) → l < 256 → (leb x l && leb y 0) ≡ ltb (x + 256 * y) (l + 1)
short x y l h = go (leb x l) (leb y 0) refl refl
  where
    go : (s t : Bool) → leb x l ≡ s → leb y 0 ≡ t → (s && t) ≡ ltb (x + 256 * y) (l + 1)
    go true true p q = sym (lt-ltb (x + 256 * y) (l + 1) (omega (arith, leb-true x l p, leb-true y 0 q)))
    go true false p q = sym (le-ltb (x + 256 * y) (l + 1) (omega (arith, leb-false y 0 q)))
    go false t p q = sym (le-ltb (x + 256 * y) (l + 1) (omega (arith, leb-false x l p)))

-- a byte is the same, round from 0 to 255
around : (x : ℕ) → x < 256 → (x + 256) % 256 ≡ x
around x h = omega arith

-- kind k, low byte x and high byte y
pub operand : (k x y : ℕ) → k < 256 → x < 256 → y < 256
    → (leb ((k + 255) % 256) 2 && leb ((x + 256) % 256) (bound_of k 24 fewer) && leb ((y + 256) % 256) (bound_of k 0 0))
    ≡ operand_ok k (x + 256 * y)
operand zero x y h i j = refl
operand (suc zero) x y h i j = rw (around x i, around y j, le-leb x 255 (omega arith), le-leb y 255 (omega arith)) refl
operand (suc (suc zero)) x y h i j = rw (around x i, around y j) (short x y 24 (omega arith) ∙ sym (or-false _))
operand (suc (suc (suc zero))) x y h i j = rw (around x i, around y j) (short x y 15 (omega arith))
operand (suc (suc (suc (suc k)))) x y h i j =
    let q : ℕ = suc (suc (suc (suc k))) in
    simp (
      lt-leb ((q + 255) % 256) 2 (omega arith),
      ne_eqb q 1 (λ z. omega arith),
      ne_eqb q 2 (λ z. omega arith),
      ne_eqb q 3 (λ z. omega arith),
    )
