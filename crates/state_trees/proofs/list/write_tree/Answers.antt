use mathlib.Core.Path.{refl}
use Rattle.bytes_fields.specs.Put.{put_then}
use Rattle.state_trees.proofs.list.write_tree.Goals as goal

pub returns : goal.returns
returns c =
    let number = c.thread_number.ensures in
    let thread = rw number at c.put8.ensures in
    let count = put_then _ _ _ _ _ thread c.put8-2.ensures refl in
    put_then _ _ _ _ _ count c.write_signal.ensures refl
