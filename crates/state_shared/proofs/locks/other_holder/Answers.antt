use mathlib.Core.Path.{ap, ◌∙◌}
use mathlib.Core.Bool.{not}
use native.Mathlib.Omega.{arith}
use Rattle.std.specs.Prelude.{option_map}
use Rattle.rules.specs.Sizes.{thread_count}
use Rattle.rules.specs.Sorts.{thread}
use Rattle.bytes_fields.specs.Tests.{begin, none, next, here}
use Rattle.bytes_fields.specs.Found.{found, not_found}
use Rattle.state_shared.specs.Locks.{holder-found}
use Rattle.state_shared.proofs.locks.other_holder.Goals as goal

pub loop-i-init : goal.loop-i-init
loop-i-init c = begin _ thread_count

pub passed-requires : goal.passed-requires
passed-requires c =
    (c.requires.0.long, c.requires.1, rw c.from-u.ensures (omega arith))

pub returns-then-not-passed : goal.returns-then-not-passed
returns-then-not-passed c =
    let l = c.loop-i in
    let e = rw c.from-u.ensures at c.passed.ensures in
    let at = here _ thread_count _ l.invariant _ (omega arith) e (ap not c.if-not-passed.true)
    ∙ holder-found _ _ c.requires.0 c.args.lock.0 c.args.t.0 in
    rw c.from-u.ensures (ap (option_map thread) (found thread_count _ l.i (omega arith) at))

pub loop-i-preserved : goal.loop-i-preserved
loop-i-preserved c =
    let e = rw c.from-u.ensures at c.passed.ensures in
    next _ thread_count _ c.loop-i.invariant _ (omega arith) e (ap not c.if-not-passed.false)

pub returns : goal.returns
returns c =
    let l = c.loop-i in
    let at = none _ thread_count _ l.invariant (omega arith) ∙ holder-found _ _ c.requires.0 c.args.lock.0 c.args.t.0 in
    ap (option_map thread) (not_found thread_count _ l.i (omega arith) at)
