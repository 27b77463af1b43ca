use Rattle.std.proofs.Common.{◌≡◌, List, ℕ, ◌<◌, length, sym, ap, ◌∙◌}
use Rattle.rules.specs.Sizes.{block_count, table_size}
use Rattle.rules.specs.Sorts.{block}
use Rattle.rules.specs.Image.{block_field}
use Rattle.rules.specs.Steps.{block_at}
use Rattle.lemmas_invariant.specs.Destinations.{block-below, lock-below}
use Rattle.check_threads.specs.Places.{place-past, place_is}
use Rattle.check_threads.proofs.place_ok.Goals as goal
use Rattle.check_threads.proofs.place_ok.Goals.{After-block_field-b}

pub returns-in_default : goal.returns-in_default
returns-in_default c =
    let a = c.args in
    sym (place-past a.image.now a.table.now a.t.0 a.locks a.l.0 c.in_default.ensures)

-- the block that was read is the law's and has a row of the table
found : (c : After-block_field-b) → c.block_field-b.result ≡ block (block_at c.args.image.now c.args.l.0)
found c = c.block_field-b.ensures ∙ ap (λ (r : List ℕ). block (block_field r)) c.in-Some.ensures.1

row : (c : After-block_field-b) → (c.block_field-b.result.0 < block_count) × (length c.args.table.now ≡ table_size)
row c =
    let a = c.args in
    (rw (found c) (block-below a.image.now a.table.now c.requires a.l.0 c.in-Some.ensures.0), c.requires.whole_table)

pub thread_at-requires : goal.thread_at-requires
thread_at-requires c = row (goal.at.thread_at-requires c).After-block_field-b

pub lock_at-requires : goal.lock_at-requires
lock_at-requires c = row (goal.at.lock_at-requires c).After-block_field-b

pub holds-requires : goal.holds-requires
holds-requires c =
    let a = c.args in
    let b = (goal.at.holds-requires c).After-block_field-b in
    rw (c.lock_at.ensures, found b) (lock-below a.image.now a.table.now c.requires a.l.0 c.in-Some.ensures.0)

pub kind_at-requires : goal.kind_at-requires
kind_at-requires c = row (goal.at.kind_at-requires c).After-block_field-b

pub returns : goal.returns
returns c =
    let a = c.args in
    let b = (goal.at.returns c).After-block_field-b in
    simp (
      c.kind_at.ensures,
      c.holds.ensures,
      c.lock_at.ensures,
      c.eq-own.ensures,
      c.thread_at.ensures,
      found b,
    )
    (sym (place_is a.image.now a.table.now a.t.0 a.locks a.l.0 c.in-Some.ensures.0))
