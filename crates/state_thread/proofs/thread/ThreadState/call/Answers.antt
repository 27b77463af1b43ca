use Prim.Native.Nat.{◌+◌}
use mathlib.Core.Path.{◌≡◌, refl, ap}
use mathlib.Core.List.{[], ◌∷◌, ◌++◌}
use lib.ListN.{set, take}
use Rattle.rules.specs.Machine.{fill, job}
use Rattle.state_thread.specs.Returns.{pushed, pushed-tidy}
use Rattle.state_thread.specs.Threads.{returns_of, keeping, tidy-with, runs_as}
use Rattle.state_thread.proofs.thread.ThreadState.call.Goals as goal

pub enter-requires : goal.enter-requires
enter-requires c =
    let w = c.args.self in
    let p = c.requires in
    (tidy-with w _ _ p.0 (pushed-tidy w.depth w.returns p.0.tidy.returns _ p.1), p.2, p.3, p.4)

pub returns : goal.returns
returns c =
    let a = c.args in
    let w = a.self in
    let e : take (w.depth + 1) (set w.returns w.depth c.label_number.result) ≡ returns_of w ++ (a.back.0 ∷ []) =
    rw c.label_number.ensures (pushed w.depth w.returns c.requires.0.tidy.returns a.back.0 c.requires.1) in
    runs_as c.enter.ensures refl (ap (λ l. keeping w (job a.label.0 l (fill (take a.count a.values)))) e)
