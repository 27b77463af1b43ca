use mathlib.Core.Path.{◌≡◌, refl}
use borrow.Author.Rules.{rules}
use lib.ListN.{length}
use Rattle.rules.specs.Sizes.{register_count}
use Rattle.state_signal.specs.Signals.{signal_of, value-sized}
use Rattle.state_trees.specs.Stored.{signal-arrived}
use Rattle.state_trees.proofs.list.append_tree.Goals as goal

pub returns : goal.returns
returns c =
    let g = c.args.g in
    let long : length g.values ≡ register_count = search rules in
    let r = signal-arrived c.requires.0 c.args.t.0 _ _ (signal_of g) (value-sized g long c.requires.2) c.requires.1
    c.tree_count-n.ensures refl
    c.write_tree.ensures c.put8.ensures in
    record { canon = r.0; state_after = r.1 }
