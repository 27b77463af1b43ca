use Rattle.std.specs.Prelude.{◌≡◌, length}
use Rattle.rules.specs.Sizes.{operand_count}
use Rattle.step_operands.specs.Gathered.{ReadSoFar, Unstored}
use Rattle.step_operands.specs.Cells.{cells_of}
use Rattle.step_operands.proofs.read_data.Given as goal

abbrev pub invariant-loop-k : goal.invariant-loop-k
invariant-loop-k l = (length l.values ≡ operand_count) × ReadSoFar (cells_of l.state l.w l.r) l.r l.n l.k l.values ×
    Unstored l.k l.initial.values l.values
