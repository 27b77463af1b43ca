use borrow.Author.Rules.{rules}
use Rattle.walk_waits.specs.Waiting.{waits-first}
use Rattle.walk_waits.proofs.idle_waits.Goals as goal

pub returns-in-None : goal.returns-in-None
returns-in-None c = waits-first c.requires.0 c.args.t.0 c.requires.1 c.first_signal.ensures _ c.in-None.is

pub returns-in-Some-Wait : goal.returns-in-Some-Wait
returns-in-Some-Wait c =
    let found = rw c.in-Some-Wait.field-0-is at c.in-Some-Wait.is in
    waits-first c.requires.0 c.args.t.0 c.requires.1 c.first_signal.ensures _ found

pub returns-in-Some-Go : goal.returns-in-Some-Go
returns-in-Some-Go c =
    let found = rw c.in-Some-Go.field-0-is at c.in-Some-Go.is in
    waits-first c.requires.0 c.args.t.0 c.requires.1 c.first_signal.ensures _ found
