use mathlib.Core.Path.{refl}
use Rattle.state_trees.specs.Stored.{tree-removed}
use Rattle.state_trees.proofs.list.remove_tree.Goals as goal

pub returns : goal.returns
returns c =
    let p = c.requires in
    let r = tree-removed p.0 _ p.1 _ _ p.2 refl c.remove_bytes.ensures c.put8.ensures in
    record { canon = r.0; state_after = r.1 }
