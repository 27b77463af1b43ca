use borrow.Author.Rules.{rules}
use mathlib.Core.Path.{refl}
use native.Mathlib.Omega.{arith}
use mathlib.Core.Bool.{true}
use borrow.Author.Tests.{lt-ltb, le-ltb}
use Rattle.rules.specs.Encoding.{machine_from}
use Rattle.rules.specs.Steps.{rules_by, admitted, lost}
use Rattle.state_signal.specs.Signals.{signal_of}
use Rattle.step_exit.specs.Admitting.{few-lost}
use Rattle.step_exit.proofs.found_next.Goals as goal

pub found_tree-requires : goal.found_tree-requires
found_tree-requires c = c.requires.1 c.if-i-count.true

pub returns-then-i-count : goal.returns-then-i-count
returns-then-i-count c =
    let s = c in
    let e = c.found_tree.ensures in
    let few = few-lost (rules_by s.args.image.now s.args.table.now) true (signal_of s.args.g) (machine_from
    s.args.state.now) in
    rw (lt-ltb s.args.i s.args.count c.if-i-count.true) (record { value = (e.value, omega (arith, few, e.value)); encodes = e.encodes })

pub returns : goal.returns
unfolding admitted lost
returns c =
    let s = c in
    rw (le-ltb s.args.i s.args.count (omega (arith, c.if-i-count.false))) (record { value = (refl, omega arith); encodes = s.requires.0 })
