use mathlib.Core.Path.{◌∙◌}
use mathlib.Core.Bool.{true}
use Rattle.rules.specs.Sizes.{thread_count}
use Rattle.bytes_fields.specs.Pieces.{tested-next, tested-all}
use Rattle.check_threads.specs.Places.{thread_at_good}
use Rattle.check_threads.proofs.threads_good.Goals as goal

pub loop-t-preserved : goal.loop-t-preserved
loop-t-preserved c =
    let a = c.args in
    let l = c.loop-t in
    tested-next true (thread_at_good a.image.now a.table.now a.state.now) thread_count l.t l.ok l.invariant
    c.thread_good-ok.result c.loop-t-test.true (c.thread_good-ok.ensures ∙ rw c.from.ensures)

pub returns : goal.returns
returns c =
    let a = c.args in
    let l = c.loop-t in
    tested-all true (thread_at_good a.image.now a.table.now a.state.now) thread_count l.t l.ok l.invariant
    c.loop-t-test.false
