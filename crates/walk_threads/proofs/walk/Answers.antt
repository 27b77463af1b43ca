use Rattle.rules.specs.Encoding.{machine_from}
use Rattle.rules.specs.Steps.{rules_by}
use Rattle.rules.specs.Walk.{awaits, walk_from}
use Rattle.walk_threads.specs.Walking.{from-none}
use Rattle.walk_threads.proofs.walk.Goals as goal

pub returns : goal.returns
unfolding walk_from
returns c =
    let a = c.args in
    let R = rules_by a.image.now a.table.now in
    let m = machine_from a.state.now in
    let e = from-none (awaits R m) _ a.t.0 _ _ c.blank.ensures c.walk_on.ensures.count c.walk_on.ensures.bytes in
    record { count = e.0; bytes = e.1 }
