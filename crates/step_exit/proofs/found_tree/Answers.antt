use borrow.Author.Rules.{rules}
use mathlib.Core.Path.{◌≡◌, sym, ◌∙◌}
use Rattle.rules.specs.Image.{row_at}
use Rattle.rules.specs.Encoding.{machine_from}
use Rattle.rules.specs.Steps.{block_at}
use Rattle.state_trees.specs.Changes.{room-below}
use Rattle.step_exit.specs.Admitting.{held_below, held-block, table-long, tree-founded, tree-lost}
use Rattle.step_exit.proofs.found_tree.Goals as goal

pub block_at-requires : goal.block_at-requires
block_at-requires c = held_below c.requires

pub thread_at-to-requires : goal.thread_at-to-requires
thread_at-to-requires c = (
  rw c.block_at.ensures (held-block c.requires),
  table-long
      c.requires,
)

pub append_tree-requires : goal.append_tree-requires
append_tree-requires c =
    let s = c in
    let free = room-below (machine_from s.args.state.now) c.thread_at-to.result.0 (sym
    c.room.ensures ∙ c.if-room.true) in
    (s.requires.canonical, free, s.requires.tidy)

pub returns-then-room : goal.returns-then-room
returns-then-room c =
    let s = c in
    let u = c.thread_at-to.result.0 in
    let to : u ≡ (row_at s.args.table.now (block_at s.args.image.now s.args.g.label.0)).thread =
    rw (
      c.thread_at-to.ensures,
      c.block_at.ensures,
    ) in
    let e = tree-founded s.requires u to (sym c.room.ensures ∙ c.if-room.true) c.append_tree.ensures.canon
    c.append_tree.ensures.state_after in
    record { value = e.0; encodes = e.1 }

pub returns : goal.returns
returns c =
    let s = c in
    let u = c.thread_at-to.result.0 in
    let to : u ≡ (row_at s.args.table.now (block_at s.args.image.now s.args.g.label.0)).thread =
    rw (c.thread_at-to.ensures, c.block_at.ensures) in
    let e = tree-lost s.requires u to (sym c.room.ensures ∙ c.if-room.false) in
    record { value = e.0; encodes = e.1 }
