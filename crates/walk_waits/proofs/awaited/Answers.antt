use mathlib.Core.Path.{sym, ◌∙◌}
use borrow.Author.Rules.{rules}
use Rattle.step_contract.specs.At.{at_rest, at, label_inside}
use Rattle.walk_waits.proofs.awaited.Goals as goal

pub idle_waits-requires : goal.idle_waits-requires
idle_waits-requires c =
    let s = c in (
      s.requires.0,
      at_rest s.requires.0 s.args.t.0 c.read_thread-w.result s.requires.1
          c.read_thread-w.ensures (sym c.is_idle.ensures ∙ c.if-is_idle.true),
    )

-- the label of a thread that runs is below n
pub record_of-requires : goal.record_of-requires
record_of-requires c =
    let w = c in
    let s = w in
    label_inside s.requires.0 s.args.t.0 w.read_thread-w.result s.requires.1 w.read_thread-w.ensures
    (sym c.is_idle.ensures ∙ c.if-is_idle.false)

pub running_waits-requires : goal.running_waits-requires
running_waits-requires c =
    let s = c in
    at s.requires.0 s.args.t.0 c.read_thread-w.result s.requires.1
    c.read_thread-w.ensures
    (sym c.is_idle.ensures ∙ c.if-is_idle.false) c.record_of.ensures.0
