use mathlib.Core.Bool.{and-true}
use mathlib.Core.Path.{sym}
use borrow.Author.Tests.{ne_eqb}
use Rattle.check_record.specs.Tests.{stores_ok}
use Rattle.check_record.proofs.outline.stores_ok.Goals as goal

pub returns-then-op-eq-DIVIDE : goal.returns-then-op-eq-DIVIDE
unfolding stores_ok
returns-then-op-eq-DIVIDE c = rw (c.if-op-eq-DIVIDE.true, c.second_ok.ensures)

pub returns-else-op-eq-DIVIDE : goal.returns-else-op-eq-DIVIDE
unfolding stores_ok
returns-else-op-eq-DIVIDE c = rw (ne_eqb _ 12 c.if-op-eq-DIVIDE.false) (sym (and-true _))
