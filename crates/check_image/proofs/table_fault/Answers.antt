use mathlib.Core.Path.{sym, ◌∙◌}
use Rattle.check_image.specs.Faults.{rows_pass}
use Rattle.check_image.proofs.table_fault.Goals as goal

pub returns-then-rows_ok : goal.returns-then-rows_ok
returns-then-rows_ok c = sym (rows_pass c.args.table.now (sym c.rows_ok.ensures ∙ c.if-rows_ok.true))
