use mathlib.Core.Path.{sym, ◌∙◌}
use native.Mathlib.Omega.{arith}
use Rattle.check_refusal.specs.Refusals.{number-positive}
use Rattle.plex.specs.Lent.{run-refused, run_lent, run-state, run-answers}
use Rattle.plex.proofs.plex_run.Goals as goal

pub run-requires : goal.run-requires
run-requires c =
    let a = c.args in
    let k = run_lent a.image.now a.table.now a.state.now a.events.now a.answers.now (sym c.in-Ok.ensures)
    (λ i. omega (arith, c.slice_known-1.given i)) in
    record { ready = k.0; events = (k.1, k.2) }

pub returns-in-Ok : goal.returns-in-Ok
returns-in-Ok c =
    let a = c.args in
    let h = sym c.in-Ok.ensures in
    record {
      value = c.in-Ok.ensures;
      state_after = c.run.ensures.state_after ∙ sym (run-state a.image.now a.table.now a.state.now a.events.now a.answers.now h);
      answers_after = c.run.ensures.space_after ∙ sym (run-answers a.image.now a.table.now a.state.now a.events.now a.answers.now h);
    }

pub returns-in-Err : goal.returns-in-Err
returns-in-Err c =
    let a = c.args in
    let e = c.in-Err.ensures in
    let k = run-refused a.image.now a.table.now a.state.now a.events.now a.answers.now (λ z. number-positive _ (e ∙ z)) in
    record { value = c.into.ensures ∙ e; state_after = sym k.0; answers_after = sym k.1 }
