use mathlib.Core.Path.{sym, ◌∙◌}
use Rattle.check_refusal.specs.Refusals.{number-positive}
use Rattle.plex.specs.Lent.{fresh-refused, fresh-lengths, fresh-state}
use Rattle.plex.proofs.plex_fresh.Goals as goal

pub fresh-requires : goal.fresh-requires
fresh-requires c =
    let a = c.args in
    fresh-lengths a.image.now a.table.now a.words.now a.state.now (sym c.in-Ok.ensures)

pub returns-in-Ok : goal.returns-in-Ok
returns-in-Ok c =
    let a = c.args in
    record {
      value = c.in-Ok.ensures;
      state_after = c.fresh.ensures ∙ sym (fresh-state a.image.now a.table.now a.words.now a.state.now (sym c.in-Ok.ensures));
    }

pub returns-in-Err : goal.returns-in-Err
returns-in-Err c =
    let a = c.args in
    let e = c.in-Err.ensures in
    record {
      value = c.into.ensures ∙ e;
      state_after = sym (fresh-refused a.image.now a.table.now a.words.now a.state.now (λ z. number-positive _ (e ∙ z)));
    }
