use borrow.Author.Rules.{rules}
use Rattle.step_contract.specs.Ready.{job-written}
use Rattle.step_hold.proofs.write_holding.Goals as goal

pub returns : goal.returns
returns c =
    let s = c in
    let hold = c.hold.ensures in
    job-written s.args.t.0 s.requires.0 s.requires.1 hold c.write_thread.ensures
