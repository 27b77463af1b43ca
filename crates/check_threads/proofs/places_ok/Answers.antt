use mathlib.Core.Path.{sym, ◌∙◌}
use lib.ListN.{drop}
use Rattle.bytes_fields.specs.Pieces.{tested-next, tested-all}
use Rattle.check_threads.specs.Places.{return_ok, return-at, places-at}
use Rattle.check_threads.proofs.places_ok.Goals as goal

pub loop-k-preserved : goal.loop-k-preserved
loop-k-preserved c =
    let a = c.args in
    let l = c.loop-k in
    tested-next c.place_ok-ok.result
    (return_ok a.image.now a.table.now a.t.0 (drop a.at a.s.now))
    c.get8-returns.result l.k l.ok l.invariant c.place_ok-ok-in-loop-k.result
    c.loop-k-test.true
    (c.place_ok-ok-in-loop-k.ensures ∙ rw (
      c.from-l.ensures,
      c.get16-in-loop-k.ensures,
      c.get16-locks.ensures,
    )
    (sym (return-at a.image.now a.table.now a.t.0 a.s.now a.at l.k)))

pub returns : goal.returns
returns c =
    let a = c.args in
    let l = c.loop-k in
    tested-all c.place_ok-ok.result (return_ok a.image.now a.table.now a.t.0 (drop a.at a.s.now))
    c.get8-returns.result l.k l.ok l.invariant c.loop-k-test.false
    ∙ rw (
      c.place_ok-ok.ensures,
      c.from.ensures,
      c.get16.ensures,
      c.get16-locks.ensures,
      c.get8-returns.ensures.0,
    ) (sym (places-at a.image.now a.table.now a.t.0 a.s.now a.at))
