use native.Mathlib.Omega.{arith}
use lib.Seq.{drop-drop, get_or-drop}
use Rattle.state_signal.specs.Signals.{signal_read}
use Rattle.state_signal.proofs.read_signal.Goals as goal

pub returns : goal.returns
unfolding signal_read
returns c =
    let s = c.args.s.now in
    let at = c.args.at in
    cc (drop-drop 3 at s, get_or-drop at s 2 0)
