use Rattle.step_start.specs.Starting.{tree-stays, signal-leaves}
use Rattle.step_start.proofs.begin_job.Goals as goal

pub take_oldest-requires : goal.take_oldest-requires
take_oldest-requires c =
    let pre = c.requires in
    tree-stays pre c.started-next.ensures c.write_holding.ensures

pub returns : goal.returns
returns c =
    let pre = c.requires in
    let started = c.started-next.ensures in
    let write-holding = c.write_holding.ensures in
    let take-oldest = c.take_oldest.ensures in
    signal-leaves pre started write-holding take-oldest.canon take-oldest.by_index
