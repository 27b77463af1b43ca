use Rattle.rules.specs.Calls.{shared_block_fault}
use Rattle.check_link.specs.BlockSets.{shared}
use Rattle.check_link.proofs.shared_block_fault.Goals as goal

pub returns : goal.returns
unfolding shared_block_fault
returns c =
    let one = c.block_set in
    let other = c.block_set-2 in
    rw (c.ensure.ensures, shared c.args.first.now c.args.second.now _ _ c.requires.1 one.ensures other.ensures)
