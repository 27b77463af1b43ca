use Rattle.std.proofs.Common.{◌≡◌, ℕ, List, sym, ap, ◌∙◌}
use Rattle.rules.specs.Sorts.{thread, block}
use Rattle.rules.specs.Image.{block_field}
use Rattle.rules.specs.Steps.{block_at}
use Rattle.lemmas_invariant.specs.Destinations.{block-below}
use Rattle.check_queues.specs.Homes.{no-thread}
use Rattle.check_queues.proofs.queues.home.Goals as goal
use Rattle.check_queues.proofs.queues.home.Goals.{After-block_field}

pub returns-in-None : goal.returns-in-None
returns-in-None c =
    c.from.ensures ∙ ap thread
    (sym (no-thread c.args.image.now c.args.table.now c.args.l.0 c.requires.whole_table c.in-None.ensures))

-- the block that was read is the law's
found : (c : After-block_field) → c.block_field.result ≡ block (block_at c.args.image.now c.args.l.0)
found c = c.block_field.ensures ∙ ap (λ (r : List ℕ). block (block_field r)) c.in-Some.ensures.1

pub thread_at-requires : goal.thread_at-requires
thread_at-requires c = (
  rw (found (goal.at.thread_at-requires c).After-block_field) (block-below c.args.image.now c.args.table.now c.requires c.args.l.0
      c.in-Some.ensures.0),
  c.requires.whole_table,
)
