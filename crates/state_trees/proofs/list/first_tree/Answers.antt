use mathlib.Core.Path.{refl, sym, ◌∙◌}
use mathlib.Core.Bool.{true, false}
use native.Mathlib.Omega.{arith}
use borrow.Author.Tests.{eq-eqb, ne_eqb}
use Rattle.bytes_fields.specs.Found as below
use Rattle.bytes_fields.specs.Tests.{begin, none, next, here}
use Rattle.lemmas_encoding.specs.FirstTree.{elsewhere}
use Rattle.state_trees.specs.Stored.{found}
use Rattle.state_trees.proofs.list.first_tree.Goals as goal

pub loop-i-init : goal.loop-i-init
loop-i-init c = begin _ _

pub returns-then-state-i : goal.returns-then-state-i
unfolding elsewhere
returns-then-state-i c =
    let b = c.args.state.now in
    let l = c.loop-i in
    let t = c.thread_number-thread.result in
    let n = c.tree_count-n in
    let at = found c.requires _ t _ c.thread_number-thread.ensures (n.ensures ∙ sym c.requires.count)
    (here (elsewhere b t) n.result l.i l.invariant false (omega arith) (rw (eq-eqb _ _ c.if-state-i.true)) refl) in
    rw (← n.ensures) (below.found n.result _ l.i (omega arith) at)

pub loop-i-preserved : goal.loop-i-preserved
unfolding elsewhere
loop-i-preserved c =
    let b = c.args.state.now in
    let l = c.loop-i in
    next (elsewhere b c.thread_number-thread.result) c.tree_count-n.result l.i l.invariant true (omega arith)
    (rw (ne_eqb _ _ c.if-state-i.false)) refl

pub returns : goal.returns
returns c =
    let b = c.args.state.now in
    let l = c.loop-i in
    let t = c.thread_number-thread.result in
    let n = c.tree_count-n in
    let at = found c.requires _ t _ c.thread_number-thread.ensures (n.ensures ∙ sym c.requires.count)
    (none (elsewhere b t) n.result l.i l.invariant (omega arith)) in
    rw (← n.ensures) (below.not_found n.result _ l.i (omega arith) at)
