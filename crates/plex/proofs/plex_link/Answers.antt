use mathlib.Core.Path.{sym, ◌∙◌}
use Rattle.check_refusal.specs.Refusals.{number-positive}
use Rattle.plex.specs.Lent.{link-refused, link-out, link-lent}
use Rattle.plex.proofs.plex_link.Goals as goal

pub link-requires : goal.link-requires
link-requires c =
    let a = c.args in
    link-lent a.first.now a.second.now a.table.now a.out.now (sym c.in-Ok.ensures)

pub returns-in-Ok : goal.returns-in-Ok
returns-in-Ok c =
    let a = c.args in
    record {
      value = c.in-Ok.ensures;
      out_after = c.link.ensures ∙ sym (link-out a.first.now a.second.now a.table.now a.out.now (sym c.in-Ok.ensures));
    }

pub returns-in-Err : goal.returns-in-Err
returns-in-Err c =
    let a = c.args in
    let e = c.in-Err.ensures in
    record {
      value = c.into.ensures ∙ e;
      out_after = sym (link-refused a.first.now a.second.now a.table.now a.out.now (λ z. number-positive _ (e ∙ z)));
    }
