use Rattle.std.proofs.Common.{sym}
use mathlib.Core.List.{[]}
use Rattle.lemmas_rules.specs.Passed.{both-passed}
use Rattle.check_link.specs.BlockSets.{blocks-in}
use Rattle.check_link.proofs.link_fault.Goals as goal

pub shared_block_fault-requires : goal.shared_block_fault-requires
shared_block_fault-requires c =
    let first = c.args.first.now in
    let second = c.args.second.now in
    let k = both-passed first second c.args.table.now [] (sym c.in_ok-images_fault.ensures) in (
      rw c.of-one.ensures at c.of-one.result.counted,
      blocks-in first c.args.table.now k.0,
      rw c.of-other.ensures at c.of-other.result.counted,
      blocks-in second c.args.table.now k.1,
    )
