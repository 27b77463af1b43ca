use Rattle.std.proofs.Common.{◌+◌, refl, arith}
use mathlib.Core.Bool.{and_assoc, and-true}
use Rattle.rules.specs.Sizes.{operand_count_place}
use Rattle.bytes_fields.specs.Tests.{or-none, all-step, all_done}
use Rattle.check_operands.specs.Operands.{run_size, run_ok}
use Rattle.check_operands.proofs.Places.{as-tested}
use Rattle.check_operands.proofs.runs.wrong_run.Goals as goal

pub loop-i-preserved : goal.loop-i-preserved
loop-i-preserved c =
    let l = c.loop-i in
    let a = c.args in
    let test = run_ok a.r.now a.at a.end in
    let ok = as-tested a.r.now a.at a.end (operand_count_place + c.wide-from.result) l.i c.wrong_byte-wrong.result c.bound_of-bound.result
    refl refl refl refl refl l.invariant.0 c.bound_of-bound.ensures c.wrong_byte-wrong.ensures in (
      l.invariant.0,
      rw (or-none, ok, and_assoc) (rw (all-step test run_size l.i c.loop-i-test.true) at l.invariant.1),
    )

pub returns : goal.returns
returns c =
    let l = c.loop-i in
    let test = run_ok c.args.r.now c.args.at c.args.end in
    rw (← l.invariant.1, all_done test run_size l.i (omega arith), and-true)
