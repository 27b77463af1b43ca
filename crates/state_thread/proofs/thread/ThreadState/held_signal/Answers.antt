use borrow.Author.Rules.{rules}
use mathlib.Core.Path.{◌≡◌}
use native.Mathlib.Omega.{arith}
use lib.ListN.{length}
use Rattle.rules.specs.Sizes.{held_size}
use Rattle.state_thread.specs.Held.{held_at}
use Rattle.state_thread.proofs.thread.ThreadState.held_signal.Goals as goal

pub read_signal-requires : goal.read_signal-requires
read_signal-requires c =
    let long : length c.args.self.signals ≡ held_size = search rules in
    omega (arith, long)

pub returns : goal.returns
returns c =
    let w = c.args.self in
    held_at w.held w.signals c.requires.0.tidy.held c.args.i c.requires.1 c.read_signal.ensures
