use mathlib.Core.Path.{◌≡◌, refl, ap, ◌∙◌}
use lib.ListN.{take}
use Rattle.rules.specs.Machine.{fill, job}
use Rattle.state_thread.specs.Returns.{newest_of, popped, popped-label, popped-tidy}
use Rattle.state_thread.specs.Threads.{returns_of, keeping, tidy-with, runs_as}
use Rattle.state_thread.proofs.thread.ThreadState.return_to_caller.Goals as goal

pub enter-requires : goal.enter-requires
enter-requires c =
    let w = c.args.self in
    let p = c.requires in
    let l : c.from-label.result.0 ≡ newest_of (returns_of w) = ap (λ l. l.0) c.from-label.ensures
    ∙ popped-label w.depth w.returns p.0.tidy.returns p.1 in
    (tidy-with w _ _ p.0 (popped-tidy w.depth w.returns p.0.tidy.returns p.1), rw l p.2, p.3, p.4)

pub returns : goal.returns
returns c =
    let a = c.args in
    let w = a.self in
    let z = c.requires.0.tidy.returns in
    let l : c.from-label.result.0 ≡ newest_of (returns_of w) = ap (λ l. l.0) c.from-label.ensures
    ∙ popped-label w.depth w.returns z c.requires.1 in
    runs_as c.enter.ensures refl (λ i. keeping w
    (job (l i) (popped w.depth w.returns z c.requires.1 i) (fill (take a.count a.values))))
