use borrow.Author.Rules.{rules}
use Prim.Native.Nat.{◌≤◌}
use mathlib.Core.Path.{◌≡◌}
use native.Mathlib.Omega.{arith}
use lib.ListN.{length, take}
use lib.Seq.{length-take-le}
use Rattle.rules.specs.Sizes.{register_count}
use Rattle.state_thread.specs.Threads.{filled_runs}
use Rattle.state_thread.proofs.thread.ThreadState.enter.Goals as goal

pub returns : goal.returns
returns c =
    let a = c.args in
    let p = c.requires in
    let long : length a.values ≡ register_count = search rules in
    let few : length (take a.count a.values) ≤ register_count = omega (arith, length-take-le a.count a.values (omega (arith, long))) in
    rw c.fill.ensures (filled_runs _ _ p.1 p.0.returns p.0.held few)
