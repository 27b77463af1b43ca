use mathlib.Core.Path.{sym, ap, ◌∙◌}
use mathlib.Core.Bool.{Bool, cond}
use Rattle.rules.specs.Image.{label_a, label_b}
use Rattle.rules.specs.declared.statement.Statement.TheVariants.{If}
use Rattle.step_contract.specs.At.{registers-here, label-A, label-B, small, unread-stepped}
use Rattle.step_if.specs.Branches.{places-fit, condition-at, choice-below, branched}
use native.Mathlib.Omega.{arith}
use borrow.Author.Rules.{rules}
use Rattle.step_if.proofs.branch.Goals as goal

pub read_pair-requires : goal.read_pair-requires
read_pair-requires c =
    let s = c in
    let h = s.requires.0 in
    let k = places-fit h s.args.c s.requires.1 in
    (h.ready.canonical.long, h.readable, omega arith, k.0, k.1, h.inside, registers-here h)

pub returns-in-Err : goal.returns-in-Err
returns-in-Err c =
    unread-stepped c.requires.0 (If c.args.c) c.requires.1
    (condition-at c.requires.0 c.args.c c.requires.1 (sym c.in-Err.ensures))
    (rw c.from.ensures at c.trapped.ensures.value) c.trapped.ensures.ended

pub go_on-requires : goal.go_on-requires
go_on-requires c =
    let s = c in
    let h = s.requires.0 in
    let a = small h _ (label-A h (If s.args.c) s.requires.1) in
    let b = small h _ (label-B h (If s.args.c) s.requires.1) in
    (h.ready.canonical, h.inside, h.thread, rw c.label_by.ensures (choice-below c.relation_holds-test.result a b))

pub returns : goal.returns
returns c =
    let r = c.args.r.now in
    let to = ap (λ l. l.0) c.label_by.ensures ∙ ap (λ (z : Bool). cond z (label_a r) (label_b r)) c.relation_holds-test.ensures in
    branched c.requires.0 c.args.c c.in-Ok.pair.left c.in-Ok.pair.right c.requires.1
    (condition-at c.requires.0 c.args.c c.requires.1 (sym c.in-Ok.ensures)) to c.go_on.ensures.value c.go_on.ensures.encodes
