use mathlib.Core.Path.{sym, ap, ◌∙◌}
use native.Mathlib.Omega.{arith}
use Rattle.rules.specs.declared.sorts.Thread.{Thread}
use Rattle.check_refusal.specs.Refusals.{number-positive}
use Rattle.plex.specs.Lent.{walk_refused, walk-return, walk-met, walk-thread, walk-lent}
use Rattle.plex.proofs.plex_walk.Goals as goal

pub overflow_cast-thread : goal.overflow_cast-thread
overflow_cast-thread c =
    let a = c.args in
    omega (arith, walk-thread a.image.now a.table.now a.state.now a.thread a.met.now (sym c.in-Ok.ensures))

pub walk-requires : goal.walk-requires
walk-requires c =
    let a = c.args in
    let h = sym c.in-Ok.ensures in
    let k = walk-lent a.image.now a.table.now a.state.now a.thread a.met.now h
    (λ i. omega (arith, c.shared_slice_known-3-1.given i)) in
    (k.0, k.1, rw c.from.ensures (walk-thread a.image.now a.table.now a.state.now a.thread a.met.now h))

pub returns-in-Ok : goal.returns-in-Ok
returns-in-Ok c =
    let a = c.args in
    let h = sym c.in-Ok.ensures in
    let e = ap (λ (t : Thread). t.0) c.from.ensures in record {
      value = c.walk.ensures.count ∙ rw e (sym (walk-return a.image.now a.table.now a.state.now a.thread a.met.now h));
      met_after = c.walk.ensures.bytes ∙ rw e (sym (walk-met a.image.now a.table.now a.state.now a.thread a.met.now h));
    }

pub returns-in-Err : goal.returns-in-Err
returns-in-Err c =
    let a = c.args in
    let e = c.in-Err.ensures in
    let k = walk_refused a.image.now a.table.now a.state.now a.thread a.met.now (λ z. number-positive _ (e ∙ z)) in
    record { value = c.into.ensures ∙ e ∙ sym k.0; met_after = sym k.1 }
