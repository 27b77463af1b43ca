use native.Mathlib.Omega.{arith}
use mathlib.Core.Path.{◌≡◌, ◌∙◌}
use lib.Seq.{take_all}
use Rattle.rules.specs.Sizes.{tree_size}
use Rattle.rules.specs.Bytes.{part}
use Rattle.state_trees.proofs.list.append_copy.Goals as goal

pub returns : goal.returns
unfolding part
returns c =
    let w : part c.args.tree.now 0 tree_size ≡ c.args.tree.now = take_all tree_size c.args.tree.now (omega arith) in
    c.put8.ensures ∙ rw (c.copy.ensures, w)
