use mathlib.Core.Path.{ap, sym}
use Rattle.bytes_lock_set.specs.Lowest.{lowest_by}
use Rattle.bytes_lock_set.specs.Sets.{zeros-lowest, zeros-none}
use Rattle.bytes_lock_set.proofs.held.lowest_held.Goals as goal

pub returns-then-zeros : goal.returns-then-zeros
returns-then-zeros c = rw c.from.ensures (sym (ap lowest_by (zeros-lowest c.args.set c.if-zeros.true)))

pub returns-else-zeros : goal.returns-else-zeros
returns-else-zeros c = sym (ap lowest_by (zeros-none c.args.set c.if-zeros.false))
