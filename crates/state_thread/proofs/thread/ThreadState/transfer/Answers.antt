use borrow.Author.Rules.{rules}
use mathlib.Core.Path.{◌≡◌}
use lib.ListN.{length}
use Rattle.rules.specs.Sizes.{register_count}
use Rattle.state_thread.specs.Threads.{transferred-runs}
use Rattle.state_thread.proofs.thread.ThreadState.transfer.Goals as goal

pub returns : goal.returns
returns c =
    let a = c.args in
    let p = c.requires in
    let long : length a.values ≡ register_count = search rules in
    rw c.low.ensures (transferred-runs a.self a.label.0 a.count a.values p.0 p.1 p.2 long p.3)
