use Rattle.bytes_fields.specs.Tests.{or-none}
use Rattle.check_operands.proofs.runs.wrong_rest.Goals as goal

pub returns : goal.returns
returns c = rw (
  or-none,
  or-none,
  or-none,
  c.wrong_run.ensures,
  c.wrong_run-2.ensures,
  c.wrong_run-3.ensures,
  c.wrong_run-4.ensures,
)
