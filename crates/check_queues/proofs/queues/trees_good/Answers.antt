use mathlib.Core.Path.{◌≡◌, sym, ◌∙◌}
use mathlib.Core.Bool.{true}
use Prim.Native.Nat.{◌+◌, ◌*◌}
use native.Mathlib.Omega.{arith}
use lib.ListN.{drop}
use Rattle.rules.specs.Sizes.{tree_size, trees_place}
use Rattle.rules.specs.Encoding.{tree_from}
use Rattle.check_trees.specs.Trees.{good-below}
use Rattle.check_queues.specs.Passing.{tree_at_good, tree-thread, passing-none, passing-all, passing-bad, passing-lost}
use Rattle.check_queues.specs.Passing.{passing-next}
use Rattle.check_queues.proofs.queues.trees_good.Goals as goal

pub loop-i-init : goal.loop-i-init
loop-i-init c =
    let a = c.args in
    rw c.flag_running.ensures (passing-none a.image.now a.table.now a.state.now a.count)

pub returns-then-not-tree_good : goal.returns-then-not-tree_good
returns-then-not-tree_good c =
    let a = c.args in
    let l = c.loop-i in
    passing-bad a.image.now a.table.now a.state.now a.count l.unmet l.i l.invariant
    c.loop-i-test.true (sym c.tree_good.ensures ∙ c.if-not-tree_good.true)

pub bounds-unmet-t : goal.bounds-unmet-t
bounds-unmet-t c =
    let a = c.args in
    let l = c.loop-i in
    omega (
      arith,
      good-below a.image.now a.state.now (trees_place + tree_size * l.i)
          (sym c.tree_good.ensures ∙ c.if-not-tree_good.false),
    )

pub returns-then-not-unmet-t : goal.returns-then-not-unmet-t
returns-then-not-unmet-t c =
    let a = c.args in
    let l = c.loop-i in
    let at = trees_place + tree_size * l.i in
    let e : c.get8-t.result ≡ (tree_from (drop at a.state.now)).thread = c.get8-t.ensures.0
    ∙ tree-thread a.state.now at in
    let good : tree_at_good a.image.now a.state.now l.i ≡ true = sym c.tree_good.ensures
    ∙ c.if-not-tree_good.false in
    passing-lost a.image.now a.table.now a.state.now a.count l.unmet l.i l.invariant
    c.loop-i-test.true c.get8-t.result e good
    (rw (← c.is_homed.ensures) (c.if-not-unmet-t.true))

pub bounds-unmet-t-in-loop-i : goal.bounds-unmet-t-in-loop-i
bounds-unmet-t-in-loop-i c =
    let a = c.args in
    let l = c.loop-i in
    omega (
      arith,
      good-below a.image.now a.state.now (trees_place + tree_size * l.i)
          (sym c.tree_good.ensures ∙ c.if-not-tree_good.false),
    )

pub loop-i-preserved : goal.loop-i-preserved
loop-i-preserved c =
    let a = c.args in
    let l = c.loop-i in
    let at = trees_place + tree_size * l.i in
    let e : c.get8-t.result ≡ (tree_from (drop at a.state.now)).thread = c.get8-t.ensures.0
    ∙ tree-thread a.state.now at in
    let good : tree_at_good a.image.now a.state.now l.i ≡ true = sym c.tree_good.ensures
    ∙ c.if-not-tree_good.false in
    passing-next a.image.now a.table.now a.state.now a.count l.unmet l.i l.invariant
    c.loop-i-test.true c.get8-t.result e good
    (rw (← c.is_homed.ensures) (c.if-not-unmet-t.false))

pub returns : goal.returns
returns c =
    let a = c.args in
    let l = c.loop-i in
    c.all_zero.ensures ∙ passing-all a.image.now a.table.now a.state.now a.count l.unmet l.i l.invariant
    c.loop-i-test.false
