use mathlib.Core.Path.{◌≡◌, refl, sym, ◌∙◌}
use mathlib.Core.Bool.{true, false}
use mathlib.Core.List.{List, []}
use Prim.Native.Nat.{ℕ, ◌-◌, ◌<◌}
use borrow.Author.Rules.{rules}
use native.Mathlib.Omega.{arith}
use borrow.Author.Tests.{lt-ltb, le-ltb}
use lib.ListN.{length, take}
use lib.Seq.{take_all}
use Rattle.rules.specs.Sorts.{thread}
use Rattle.rules.specs.Sizes.{thread_count, block_count, lock_count, table_size}
use Rattle.rules.specs.Image.{labels, row_at}
use Rattle.rules.specs.Check.{Checked}
use Rattle.rules.specs.Steps.{block_at}
use Rattle.bytes_fields.specs.Found.{found-as, none-as}
use Rattle.lemmas_rules.specs.Passed.{passed}
use Rattle.lemmas_invariant.specs.Destinations.{block-below, lock-below}
use Rattle.step_lock.specs.Passages.{passage-on}
use Rattle.step_lock.proofs.passage_to.Goals as goal

-- the block of a label is one of the table's, and its lock one of the 16
module _ (image table : List ℕ) (h : Checked image table) (l : ℕ) (inside : l < labels image) where
  block : (block_at image l < block_count) × (length table ≡ table_size)
  block = let k = (passed image table [] h).0 in (block-below image table k l inside, k.whole_table)

  lock-small : (row_at table (block_at image l)).lock < lock_count
  lock-small = lock-below image table (passed image table [] h).0 l inside

-- the state lent anew is all of it
all_of : (b : List ℕ) → take (length b - 0) b ≡ b
all_of b = take_all (length b - 0) b (omega arith)

pub lock_at-lock-requires : goal.lock_at-lock-requires
lock_at-lock-requires c = rw c.block_at-block.ensures (block _ _ c.requires.0 _ c.requires.2)

pub is_alien-requires : goal.is_alien-requires
is_alien-requires c = rw c.block_at-block.ensures (block _ _ c.requires.0 _ c.requires.2)

pub returns-then-is_alien : goal.returns-then-is_alien
returns-then-is_alien c =
    let alien = rw c.block_at-block.ensures at (sym c.is_alien.ensures ∙ c.if-is_alien.true) in
    sym (passage-on _ _ c.args.t.0 c.args.own true _ _ alien refl refl)

pub holds-requires : goal.holds-requires
holds-requires c = rw (c.lock_at-lock.ensures, c.block_at-block.ensures) (lock-small _ _ c.requires.0 _ c.requires.2)

pub returns-then-holds : goal.returns-then-holds
returns-then-holds c =
    let not-alien = rw c.block_at-block.ensures at (sym c.is_alien.ensures ∙ c.if-is_alien.false) in
    let own = rw (c.lock_at-lock.ensures, c.block_at-block.ensures) at (sym c.holds.ensures ∙ c.if-holds.true) in
    sym (passage-on _ _ c.args.t.0 c.args.own false true _ not-alien own refl)

pub other_holder-requires : goal.other_holder-requires
other_holder-requires c =
    let small = lock-small _ _ c.requires.0 _ c.requires.2 in
    (rw (all_of c.args.state.now) c.requires.1, rw (c.lock_at-lock.ensures, c.block_at-block.ensures) small)

pub returns-in-Some : goal.returns-in-Some
returns-in-Some c =
    let a = c.args in
    let not-alien = rw c.block_at-block.ensures at (sym c.is_alien.ensures ∙ c.if-is_alien.false) in
    let not-own = rw (c.lock_at-lock.ensures, c.block_at-block.ensures) at (sym c.holds.ensures ∙ c.if-holds.false) in
    let found = found-as thread thread_count _
    (rw (c.lock_at-lock.ensures, c.block_at-block.ensures, all_of a.state.now) at c.in-Some.ensures) in
    rw (found.0, c.lock_at-lock.ensures, c.block_at-block.ensures)
    (sym (passage-on _ _ a.t.0 a.own false false true not-alien not-own (lt-ltb _ thread_count found.1)))

pub returns-in-None : goal.returns-in-None
returns-in-None c =
    let a = c.args in
    let not-alien = rw c.block_at-block.ensures at (sym c.is_alien.ensures ∙ c.if-is_alien.false) in
    let not-own = rw (c.lock_at-lock.ensures, c.block_at-block.ensures) at (sym c.holds.ensures ∙ c.if-holds.false) in
    let free = none-as thread thread_count _
    (rw (c.lock_at-lock.ensures, c.block_at-block.ensures, all_of a.state.now) at c.in-None.ensures) in
    rw (c.lock_at-lock.ensures, c.block_at-block.ensures)
    (sym (passage-on _ _ a.t.0 a.own false false false not-alien not-own (le-ltb _ thread_count free)))
