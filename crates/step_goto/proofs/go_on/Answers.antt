use mathlib.Core.Path.{refl}
use Rattle.step_contract.specs.Ready.{job-written}
use borrow.Author.Rules.{rules}
use Rattle.step_goto.proofs.go_on.Goals as goal

pub returns : goal.returns
returns c =
    let write-thread = c.write_thread in
    let move-on = c.move_on in
    let s = c in
    record { value = refl; encodes = job-written s.args.t.0 s.requires.0 s.requires.1 move-on.ensures write-thread.ensures }
