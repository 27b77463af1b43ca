use native.Mathlib.Omega.{arith}
use mathlib.Core.Path.{◌≡◌, sym, ap}
use Prim.Native.Nat.{◌+◌}
use lib.ListN.{length}
use Rattle.rules.specs.Encoding.{machine_from}
use Rattle.lemmas_encoding.specs.TreeStores.{with_trees}
use Rattle.state_trees.specs.Changes.{last-stays}
use Rattle.state_trees.specs.Stored.{tree-copied}
use Rattle.state_trees.proofs.list.move_to_end.Goals as goal

pub reinsert-requires : goal.reinsert-requires
reinsert-requires c =
    let p = c.requires in
    (p.0, p.1, p.2, tree-copied p.0 _ p.1 c.copy.ensures)

pub returns-else-i-n : goal.returns-else-i-n
returns-else-i-n c =
    let p = c.requires in
    let i = c.args.i in
    let s = machine_from c.args.state.now in
    let l : length s.trees ≡ i + 1 = omega arith in
    record { canon = p.0; state_after = sym (ap (with_trees s) (last-stays s.trees i l)) }
