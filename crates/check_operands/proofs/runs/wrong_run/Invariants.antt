use Rattle.std.proofs.Common.{◌≡◌, ◌+◌, ◌-◌, ◌&&◌, eqb}
use Rattle.rules.specs.Sizes.{operand_count_place}
use Rattle.rules.specs.Bytes.{all_from}
use Rattle.check_operands.specs.Operands.{run_size, run_ok}
use Rattle.check_operands.proofs.runs.wrong_run.Given as goal

abbrev pub invariant-loop-i : goal.invariant-loop-i
invariant-loop-i l = (l.from ≡ operand_count_place + l.at)
    × ((eqb l.wrong 0 && all_from (run_ok l.r l.at l.end) l.i (run_size - l.i)) ≡ all_from (run_ok l.r l.at l.end) 0 run_size)
