use mathlib.Core.Path.{ap}
use Rattle.rules.specs.declared.statement.Statement.TheVariants.{Skip}
use Rattle.step_contract.specs.At.{label-A, small}
use Rattle.step_goto.specs.Onward.{skipped}
use borrow.Author.Rules.{rules}
use Rattle.step_goto.proofs.skip.Goals as goal

pub go_on-requires : goal.go_on-requires
go_on-requires c =
    let s = c in
    let h = s.requires.0 in
    (h.ready.canonical, h.inside, h.thread, rw c.label_a.ensures (small h _ (label-A h Skip s.requires.1)))

pub returns : goal.returns
returns c =
    let go_on = c.go_on in
    let label-a = c.label_a in
    let s = c in
    skipped s.requires.0 s.requires.1 (ap (λ l. l.0) label-a.ensures) go_on.ensures.value go_on.ensures.encodes
