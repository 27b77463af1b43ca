use Rattle.std.proofs.Common.{◌≡◌, [], sym, rules}
use Rattle.lemmas_rules.specs.Passed.{passed}
use Rattle.check_state.specs.States.{state-many, state-few}
use Rattle.check_state.proofs.form.well_formed.Goals as goal
use Rattle.check_state.proofs.form.well_formed.Goals.{After-unwrap-state}

pub returns-then-count-gt-COUNT : goal.returns-then-count-gt-COUNT
returns-then-count-gt-COUNT c =
    let a = c.args in
    sym (state-many a.image.now a.table.now a.state.now c.get8-count.result c.get8-count.ensures.0
    c.if-count-gt-COUNT.true)

-- the state as an array
same : (c : After-unwrap-state) → c.unwrap-state.result.now ≡ c.args.state.now
same c = search rules

pub threads_good-requires : goal.threads_good-requires
threads_good-requires c = (passed c.args.image.now c.args.table.now [] c.requires.0).0

pub trees_good-requires : goal.trees_good-requires
trees_good-requires c = ((passed c.args.image.now c.args.table.now [] c.requires.0).0, c.if-count-gt-COUNT.false)

pub returns : goal.returns
returns c =
    let a = c.args in
    simp (
      c.trees_good.ensures,
      c.many_zero-unused.ensures,
      c.locks_apart.ensures,
      c.threads_good.ensures,
      same (goal.at.returns c).After-unwrap-state,
    )
    (sym (state-few a.image.now a.table.now a.state.now c.get8-count.result
    c.get8-count.ensures.0 c.if-count-gt-COUNT.false))
