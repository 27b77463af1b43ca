use borrow.Author.Rules.{rules}
use mathlib.Core.Path.{sym, ◌∙◌}
use Rattle.step_exit.specs.Leaving.{bare-stepped, left-stepped}
use Rattle.step_exit.proofs.leave.Goals as goal

pub finish-requires : goal.finish-requires
finish-requires c =
    let s = c in
    let h = s.requires.0 in
    (h.ready, h.inside, c.read_thread.ensures, rw c.read_thread.ensures h.thread)

pub returns-then-read_held-eq0 : goal.returns-then-read_held-eq0
returns-then-read_held-eq0 c =
    let s = c in
    bare-stepped s.requires.0 s.requires.1 (sym c.read_held.ensures
    ∙ c.if-read_held-eq0.true) c.finish.ensures

pub end_holding-missed-requires : goal.end_holding-missed-requires
end_holding-missed-requires c = rw c.read_thread-2.ensures c.requires.0

pub returns : goal.returns
returns c =
    let s = c in
    let f = rw c.read_thread-2.ensures at c.end_holding-missed.ensures in
    left-stepped s.requires.0 s.requires.1 f.value f.encodes
