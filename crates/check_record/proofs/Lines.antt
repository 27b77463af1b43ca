-- The line of an opcode, and an opcode that has none.
use mathlib.Core.Path.{◌≡◌, refl}
use mathlib.Core.Bool.{Bool, true, false, cond}
use mathlib.Core.List.{List, [], ◌∷◌}
use Prim.Native.Nat.{ℕ, ◌<◌}
use native.Mathlib.Omega.{arith}
use lib.Dec.{eqb, leb}
use borrow.Author.Tests.{leb-true, eqb-true, eqb-false}
use Rattle.rules.specs.Codes.{decimal_add_code}
use Rattle.rules.specs.Bytes.{every}
use Rattle.bytes_fields.specs.Each.{Each}
use Rattle.lemmas_rules.specs.Logic.{and_both}
use Rattle.check_record.specs.Rows.{Asks, Line, refuses, asks_in}

abbrev pub NoLine : ℕ → List Line → Type 0
NoLine op [] = Unit {0}
NoLine op (x ∷ xs) = (op ≡ x.opcode → ⊥) × NoLine op xs

-- the opcodes of the table are at most 15
pub no-greater : (op : ℕ) (xs : List Line) → decimal_add_code < op → every (λ x. leb x.opcode decimal_add_code) xs ≡ true → NoLine op xs
unfolding every
no-greater op [] h e = tt
no-greater op (x ∷ xs) h e =
    let both = and_both (leb x.opcode decimal_add_code) (every (λ x. leb x.opcode decimal_add_code) xs) e in
    (λ z. omega (arith, leb-true x.opcode decimal_add_code both.0), no-greater op xs h both.1)

-- what holds of the line of an opcode, and of an opcode that has none, holds of what the table says of it
abbrev pub At : (Asks → Type 0) → ℕ → Line → Type 0
At P op x = op ≡ x.opcode → P x.asks

pub lookup : (P : Asks → Type 0) (op : ℕ) (xs : List Line) → Each (At P op) xs → (NoLine op xs → P refuses) → P (asks_in xs op)
lookup P op [] e h = h tt
lookup P op (x ∷ xs) e h = go (eqb op x.opcode) refl (lookup P op xs e.1)
  where
    go : (t : Bool) → eqb op x.opcode ≡ t → ((NoLine op xs → P refuses) → P (asks_in xs op)) → P (cond t x.asks (asks_in xs op))
    go true q more = e.0 (eqb-true op x.opcode q)
    go false q more = more (λ no. h (eqb-false op x.opcode q, no))
