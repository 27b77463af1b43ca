use mathlib.Core.Path.{sym, ap, ◌∙◌}
use Rattle.rules.specs.Encoding.{machine_from}
use Rattle.rules.specs.declared.statement.Shape.{Shape}
use Rattle.step_store.specs.Destinations.{one-stored}
use Rattle.step_store.specs.Operands.{legal, one-destination}
use Rattle.step_store.proofs.store_results.Goals as goal

pub store_both-requires : goal.store_both-requires
store_both-requires c =
    let s = c in
    (s.requires.0, s.requires.1, ap (λ (z : Shape). z.second) (sym c.shape_of.ensures) ∙ c.if-shape_of.true)

pub returns-else-shape_of : goal.returns-else-shape_of
returns-else-shape_of c =
    let s = c in
    let h = s.requires.0 in
    let a = s.args.a in
    let fits = legal h a s.requires.1 in
    let first = c.store_first in
    let if1 = c.if-shape_of in
    let shape = c.shape_of in
    let one = one-destination h a s.requires.1 (ap (λ (z : Shape). z.second) (sym shape.ensures) ∙ if1.false) in
    one-stored (machine_from s.args.state.now) s.args.t.0 (rw h.ready.canonical.sized.threads h.inside) s.args.w
    s.args.r.now a s.args.u s.args.v first.result fits.first fits.second first.ensures.runs first.ensures.encodes
    0 one
