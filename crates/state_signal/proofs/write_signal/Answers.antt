use native.Mathlib.Omega.{arith}
use mathlib.Core.Path.{◌≡◌, refl, ◌∙◌}
use lib.ListN.{length}
use Rattle.rules.specs.Sizes.{register_count}
use Rattle.bytes_fields.specs.Put.{put_then}
use Rattle.state_signal.specs.Signals.{value-bytes}
use borrow.Author.Rules.{rules}
use Rattle.state_signal.proofs.write_signal.Goals as goal

long : (c : goal.After-slice_known-3-1) → length c.args.g.values ≡ register_count
long c = search rules

pub returns : goal.returns
returns c =
    let s = c in
    let head = c.write_head.ensures in
    put_then _ _ _ _ _ head c.put16s.ensures refl ∙ rw (value-bytes s.args.g (long s) s.requires.1)
