use mathlib.Core.Path.{refl, sym, ◌∙◌}
use Prim.Native.Nat.{◌<◌}
use native.Mathlib.Omega.{arith}
use lib.ListN.{length}
use borrow.Author.Rules.{rules}
use Rattle.rules.specs.Encoding.{machine_from}
use Rattle.state_pending.specs.Canon.{pending_at}
use Rattle.step_end.specs.Home.{home-none, home_some, oldest-below, block_inside, table-long}
use Rattle.step_end.proofs.home.Goals as goal

pub pending-requires : goal.pending-requires
pending-requires c = (c.requires.0.canonical, c.requires.1)

pub returns-then-pending-eq0 : goal.returns-then-pending-eq0
returns-then-pending-eq0 c =
    let s = c in
    home-none s.args.image.now s.args.table.now (pending_at (machine_from s.args.state.now) s.args.i)
    c.from.result.0 (sym c.pending.ensures ∙ c.if-pending-eq0.true)

pub oldest_label-requires : goal.oldest_label-requires
oldest_label-requires c =
    let s = c in
    (s.requires.0.canonical, s.requires.1, omega (arith, c.pending.ensures))

pub block_at-requires : goal.block_at-requires
block_at-requires c =
    let s = c in
    let k = oldest-below s.requires.0 s.args.i s.requires.1 (omega (arith, c.pending.ensures)) in
    rw c.oldest_label.ensures k

pub thread_at-requires : goal.thread_at-requires
thread_at-requires c =
    let s = c in
    let k = oldest-below s.requires.0 s.args.i s.requires.1 (omega (arith, c.pending.ensures)) in
    (rw (c.block_at.ensures, c.oldest_label.ensures) (block_inside s.requires.0 _ k), table-long s.requires.0)

pub returns : goal.returns
returns c =
    let s = c in
    let p = pending_at (machine_from s.args.state.now) s.args.i in
    let l : 0 < length p = omega (arith, c.pending.ensures) in
    home_some s.args.image.now s.args.table.now p c.thread_at.result.0 l
    (rw (c.thread_at.ensures, c.block_at.ensures, c.oldest_label.ensures) refl)
