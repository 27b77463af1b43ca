use mathlib.Core.Path.{sym, ◌∙◌}
use native.Mathlib.Omega.{arith}
use borrow.Author.Rules.{rules}
use Rattle.step_dispatch.proofs.carry_out.Goals as goal

pub skip-requires : goal.skip-requires
skip-requires c = (
  rw c.read_thread.ensures c.requires,
  sym c.statement_of.ensures ∙ c.in-Skip.is,
)

pub assign-requires : goal.assign-requires
assign-requires c = (
  rw c.read_thread-in-Assign.ensures c.requires,
  sym c.statement_of.ensures ∙ c.in-Assign.is,
)

pub branch-image-requires : goal.branch-image-requires
branch-image-requires c = (
  rw c.read_thread-in-If.ensures c.requires,
  sym c.statement_of.ensures ∙ c.in-If.is,
)

pub enter-requires : goal.enter-requires
enter-requires c = (
  c.requires,
  sym c.statement_of.ensures ∙ c.in-SendDirect.is,
)

pub send_buffered-requires : goal.send_buffered-requires
send_buffered-requires c = (
  rw c.read_thread-in-SendBuffered.ensures c.requires,
  sym c.statement_of.ensures ∙ c.in-SendBuffered.is,
)

pub enter-requires-in-Call : goal.enter-requires-in-Call
enter-requires-in-Call c = (
  c.requires,
  sym c.statement_of.ensures ∙ c.in-Call.is,
)

pub give_back-requires : goal.give_back-requires
give_back-requires c = (
  rw c.read_thread-in-Return.ensures c.requires,
  sym c.statement_of.ensures ∙ c.in-Return.is,
)

pub transfer-requires : goal.transfer-requires
transfer-requires c = (
  rw c.read_thread-in-Transfer.ensures c.requires,
  sym c.statement_of.ensures ∙ c.in-Transfer.is,
)

pub leave-requires : goal.leave-requires
leave-requires c = (
  c.requires,
  sym c.statement_of.ensures ∙ c.in-Exit.is,
)

pub send_tree-requires : goal.send_tree-requires
send_tree-requires c = (
  rw c.read_thread-in-SendTree.ensures c.requires,
  sym c.statement_of.ensures ∙ c.in-SendTree.is,
)

pub statement_of-requires : goal.statement_of-requires
statement_of-requires c = omega (arith, c.requires.readable.long)
