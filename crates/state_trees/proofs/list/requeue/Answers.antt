use native.Mathlib.Omega.{arith}
use Rattle.rules.specs.Encoding.{machine_from}
use Rattle.bytes_fields.specs.Filled.{remove_at, length-remove_at}
use Rattle.state_pending.specs.Canon.{tree_at}
use Rattle.state_trees.specs.Stored.{last-moved}
use Rattle.state_trees.proofs.list.requeue.Goals as goal

pub returns : goal.returns
returns c =
    let a = c.args in
    let s = machine_from a.state.now in
    let m = c.move_to_end.ensures in
    let r = last-moved m.canon s (remove_at a.i s.trees) (tree_at s a.i) a.t.0 _ m.state_after
    (omega (arith, length-remove_at a.i s.trees c.requires.1))
    (rw c.thread_number.ensures at c.put8.ensures) in
    record { canon = r.0; state_after = r.1 }
