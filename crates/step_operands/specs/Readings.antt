-- Readings as the code has them.
use Rattle.std.specs.Prelude.{◌≡◌, List, [], ◌∷◌, ℕ, ◌≤◌, length, take, drop, replicate, Result, Ok, IsOk, ⊤}
use Rattle.rules.specs.Sizes.{operand_count}
use Rattle.rules.specs.Image.{operands}
use Rattle.rules.specs.Statements.{data_of}
use Rattle.rules.specs.Effects.{Got, read_all}
use Rattle.rules.specs.declared.trap.Trap.{Trap}
use Rattle.lemmas_step.specs.Got.{as_got}
use Rattle.state_thread.specs.declared.thread.ThreadState.{ThreadState}
use Rattle.step_operands.specs.Cells.{cells_of}
use Rattle.step_operands.specs.declared.Pair.{Pair}

-- data read: where all could be, the first n of vs are the values
pub record Reads (g : Got (List ℕ)) (result : Result ⊤ Trap) (n : ℕ) (before vs : List ℕ) : Type 0 where
  pub few : n ≤ operand_count
  pub gives : g ≡ as_got (λ _. take n vs) result
  pub sized : length vs ≡ operand_count
  -- behind them stands what stood there before
  pub rest : IsOk result → drop n vs ≡ drop n before

-- all data of a record could be read, and stand before zeros
abbrev pub Given : List ℕ → ThreadState → List ℕ → List ℕ → Type 0
Given b w r values = Reads (read_all (cells_of b w r) (data_of r)) (Ok tt) (operands r) (replicate operand_count 0) values

-- two operands read
abbrev pub both : Pair → List ℕ
both d = d.left ∷ d.right ∷ []
