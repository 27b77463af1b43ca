use borrow.Author.Rules.{rules}
use Rattle.walk_waits.proofs.passage_waits.Goals as goal

pub returns-in-Ok-Wait : goal.returns-in-Ok-Wait
returns-in-Ok-Wait c = let passage = rw c.in-Ok-Wait.is at c.in-Ok-Wait.field-0-is in rw (c.in-Ok-Wait.is, passage)
