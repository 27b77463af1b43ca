use native.Mathlib.Omega.{arith}
use Rattle.bytes_lock_set.specs.Sets.{ones-held}
use Rattle.bytes_lock_set.proofs.held.number_held.Goals as goal

pub returns : goal.returns
returns c = ones-held c.args.set (omega arith)
