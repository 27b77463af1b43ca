use mathlib.Core.Path.{sym, ◌∙◌}
use Rattle.check_signals.specs.Signals.{signal-many, signal-few}
use Rattle.check_signals.proofs.signal_tidy.Goals as goal

pub returns-then-count-gt-REGISTERS : goal.returns-then-count-gt-REGISTERS
returns-then-count-gt-REGISTERS c =
    let a = c.args in
    let n = c.get8-count in
    sym (signal-many a.s.now a.at n.result n.ensures.0 c.if-count-gt-REGISTERS.true)

pub returns : goal.returns
returns c =
    let a = c.args in
    let n = c.get8-count in
    c.all_zero.ensures ∙ sym (signal-few a.s.now a.at n.result n.ensures.0 c.if-count-gt-REGISTERS.false)
