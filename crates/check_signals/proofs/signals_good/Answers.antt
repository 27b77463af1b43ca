use mathlib.Core.Path.{sym, ◌∙◌}
use Rattle.bytes_fields.specs.Pieces.{tested-next, tested-all}
use Rattle.check_signals.specs.Signals.{signal_at_good, signals-many, signals-few, signal-at}
use Rattle.check_signals.proofs.signals_good.Goals as goal

pub returns-then-most-count : goal.returns-then-most-count
returns-then-most-count c =
    let a = c.args in
    let k = c.get8-count in
    sym (signals-many a.image.now a.external a.s.now a.at a.most k.result k.ensures.0 c.if-most-count.true)

pub loop-j-preserved : goal.loop-j-preserved
loop-j-preserved c =
    let a = c.args in
    let l = c.loop-j in
    tested-next c.all_zero-ok.result (signal_at_good a.image.now a.external a.at a.s.now)
    c.get8-count.result l.j l.ok l.invariant c.signal_good-ok.result
    c.loop-j-test.true
    (c.signal_good-ok.ensures ∙ sym (signal-at a.image.now a.external a.s.now a.at l.j))

pub returns : goal.returns
returns c =
    let a = c.args in
    let l = c.loop-j in
    let k = c.get8-count in
    tested-all c.all_zero-ok.result (signal_at_good a.image.now a.external a.at a.s.now) k.result l.j
    l.ok l.invariant c.loop-j-test.false
    ∙ rw c.all_zero-ok.ensures (sym (signals-few a.image.now a.external a.s.now a.at a.most k.result
    k.ensures.0 c.if-most-count.false))
