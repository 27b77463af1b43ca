use native.Mathlib.Omega.{arith}
use mathlib.Core.Path.{sym, ◌∙◌}
use Prim.Native.Nat.{◌<◌}
use lib.ListN.{length}
use Rattle.rules.specs.Encoding.{machine_from}
use Rattle.state_pending.specs.Canon.{pending_at}
use Rattle.state_trees.specs.Changes.{ended-empty, ended-pending}
use Rattle.state_trees.proofs.list.end_tree.Goals as goal

pub returns-then-pending-eq0 : goal.returns-then-pending-eq0
returns-then-pending-eq0 c =
    let a = c.args in
    let m = c.remove_tree.ensures in record {
      canon = m.canon;
      by_index = λ u e. m.state_after ∙ ended-empty (machine_from a.state.now) a.i u e c.requires.1 a.t.0
          (sym c.pending.ensures ∙ c.if-pending-eq0.true);
    }

pub returns-else-pending-eq0 : goal.returns-else-pending-eq0
returns-else-pending-eq0 c =
    let a = c.args in
    let m = c.requeue.ensures in
    let l : 0 < length (pending_at (machine_from a.state.now) a.i) = omega arith in record {
      canon = m.canon;
      by_index = λ u e. m.state_after ∙ ended-pending (machine_from a.state.now) a.i u e c.requires.1 a.t.0 l;
    }
