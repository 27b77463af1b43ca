use mathlib.Core.Path.{◌≡◌, refl, sym, ◌∙◌}
use Prim.Native.Nat.{ℕ, ◌+◌, ◌*◌}
use native.Mathlib.Omega.{arith}
use lib.ListN.{drop}
use Rattle.rules.specs.Sizes.{event_size, event_signal_place}
use Rattle.rules.specs.Bytes.{num16}
use Rattle.rules.specs.Image.{row_at}
use Rattle.rules.specs.Encoding.{machine_from}
use Rattle.rules.specs.Steps.{block_at}
use Rattle.step_end.specs.Home.{table-long}
use Rattle.state_trees.specs.Changes.{room-below}
use Rattle.step_send_buffered.specs.Arrivals.{arrival-tidy, arrival-below, arrival-block, full-done, arrived-done}
use borrow.Author.Rules.{rules}
use Rattle.step_send_buffered.proofs.arriving.arrive.Goals as goal

pub get16-requires : goal.get16-requires
get16-requires c = omega (arith, c.requires.1.room)

pub block_at-requires : goal.block_at-requires
block_at-requires c =
    let s = c in
    rw (c.from.ensures, c.get16.ensures) (arrival-below s.requires.1 s.requires.2)

pub thread_at-t-requires : goal.thread_at-t-requires
thread_at-t-requires c =
    let from = c.from in
    let get16 = c.get16 in
    let s = c in
    let block = arrival-block s.requires.1 s.requires.2 s.requires.0 in
    (rw (c.block_at.ensures, from.ensures, get16.ensures) block, table-long s.requires.0)

pub append-requires : goal.append-requires
append-requires c =
    let if1 = c.if-room in
    let room = c.room in
    let thread-at = c.thread_at-t in
    let s = c in
    let free = room-below (machine_from s.args.state.now) thread-at.result.0 (sym room.ensures ∙ if1.true) in
    (s.requires.0.canonical, free, omega (arith, s.requires.1.room), arrival-tidy s.requires.1 s.requires.2)

pub returns-then-room : goal.returns-then-room
returns-then-room c =
    let append = c.append in
    let if1 = c.if-room in
    let room = c.room in
    let thread-at = c.thread_at-t in
    let at-block = c.block_at in
    let from = c.from in
    let earlier = c in
    let get16 = earlier.get16 in
    let s = earlier in
    let t = thread-at.result.0 in
    let l : ℕ = num16 (drop (event_size * s.args.i + event_signal_place) s.args.events.now) in
    let to : t ≡ (row_at s.args.table.now (block_at s.args.image.now l)).thread =
    rw (thread-at.ensures, at-block.ensures, from.ensures, get16.ensures) refl in
    arrived-done s.requires.1 s.requires.2 s.requires.0 t to (sym room.ensures ∙ if1.true) append.ensures.canon append.ensures.state_after

pub returns : goal.returns
returns c =
    let room = c.room in
    let thread-at = c.thread_at-t in
    let at-block = c.block_at in
    let from = c.from in
    let get16 = c.get16 in
    let s = c in
    let t = thread-at.result.0 in
    let l : ℕ = num16 (drop (event_size * s.args.i + event_signal_place) s.args.events.now) in
    let to : t ≡ (row_at s.args.table.now (block_at s.args.image.now l)).thread =
    rw (thread-at.ensures, at-block.ensures, from.ensures, get16.ensures) refl in
    full-done s.requires.1 s.requires.2 s.requires.0 t to (sym room.ensures ∙ c.if-room.false)

pub overflow_mul-at : goal.overflow_mul-at
overflow_mul-at c = omega (arith, c.requires.1.room)

pub overflow_add-at : goal.overflow_add-at
overflow_add-at c = omega (arith, c.requires.1.room)
