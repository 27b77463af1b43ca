use mathlib.Core.Path.{sym}
use Rattle.check_trees.specs.Trees.{tree-at}
use Rattle.check_trees.proofs.tree_good.Goals as goal

pub returns : goal.returns
returns c =
    let a = c.args in
    simp (c.signals_good.ensures, c.get8.ensures.0) (sym (tree-at a.image.now a.s.now a.at))
