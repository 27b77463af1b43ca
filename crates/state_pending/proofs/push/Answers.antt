use native.Mathlib.Omega.{arith}
use mathlib.Core.Path.{◌≡◌, refl, ◌∙◌}
use lib.ListN.{length}
use Rattle.rules.specs.Sizes.{register_count}
use Rattle.state_signal.specs.Signals.{signal_of, value-sized}
use Rattle.state_pending.specs.Stored.{pending-byte, signal-pushed}
use borrow.Author.Rules.{rules}
use Rattle.state_pending.proofs.push.Goals as goal

pub write_signal-requires : goal.write_signal-requires
write_signal-requires c = (omega (arith, pending-byte c.requires.0 _ c.requires.1 _ refl), c.requires.3)

pub overflow_cast-k : goal.overflow_cast-k
overflow_cast-k c = omega (arith, pending-byte c.requires.0 _ c.requires.1 _ refl)

pub returns : goal.returns
returns c =
    let p = c.requires in
    let g = c.args.g in
    let long : length g.values ≡ register_count = search rules in
    let r = signal-pushed p.0 _ p.1 _ _ (signal_of g) (value-sized g long p.3) (c.get8-k.ensures.0 ∙ pending-byte p.0 _ p.1 _ refl) p.2 refl
    c.write_signal.ensures c.put8.ensures in
    record { canon = r.0; by_index = r.1 }
