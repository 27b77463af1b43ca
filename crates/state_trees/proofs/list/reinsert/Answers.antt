use native.Mathlib.Omega.{arith}
use mathlib.Core.Path.{ap}
use lib.ListN.{length}
use Rattle.lemmas_encoding.specs.Lengths.{length-tree}
use Rattle.state_trees.specs.Stored.{tree-moved}
use Rattle.state_trees.proofs.list.reinsert.Goals as goal

pub append_copy-requires : goal.append_copy-requires
append_copy-requires c =
    omega (arith, simp length-tree at (ap length c.requires.3))

pub returns : goal.returns
returns c =
    let p = c.requires in
    let m = c.remove_tree.ensures in
    let r = tree-moved p.0 _ p.1 _ p.2 p.3 m.canon m.state_after c.append_copy.ensures in
    record { canon = r.0; state_after = r.1 }
