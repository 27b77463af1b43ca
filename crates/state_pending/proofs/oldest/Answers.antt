use Rattle.state_pending.specs.Stored.{oldest-read}
use mathlib.Core.Path.{refl}
use Rattle.state_pending.proofs.oldest.Goals as goal

pub returns : goal.returns
returns c =
    let p = c.requires in
    oldest-read p.0 _ p.1 _ refl p.2 c.read_signal.ensures
