use borrow.Author.Rules.{rules}
use Rattle.step_start.specs.Starting.{rests-on, waits-on, can-begin, begins-on}
use Rattle.step_start.proofs.start.Goals as goal

pub begin_job-requires : goal.begin_job-requires
begin_job-requires c =
    let found = rw c.in-Some-Go.field-0-is at c.in-Some-Go.is in
    can-begin c.requires.0 c.args.t.0 c.requires.3 c.first_signal.ensures _ _ found c.requires.1 c.requires.2

pub returns-in-None : goal.returns-in-None
returns-in-None c = rests-on c.requires.0 c.args.t.0 c.requires.3 c.first_signal.ensures c.in-None.is

pub returns-in-Some-Wait : goal.returns-in-Some-Wait
returns-in-Some-Wait c =
    let found = rw c.in-Some-Wait.field-0-is at c.in-Some-Wait.is in
    waits-on c.requires.0 c.args.t.0 c.requires.3 c.first_signal.ensures _ _ found

pub returns-in-Some-Go : goal.returns-in-Some-Go
returns-in-Some-Go c =
    let found = rw c.in-Some-Go.field-0-is at c.in-Some-Go.is in
    begins-on c.requires.0 c.args.t.0 c.requires.3 c.first_signal.ensures _ _ found c.begin_job.ensures
