use mathlib.Core.Path.{refl, sym, ◌∙◌}
use Prim.Native.Nat.{◌≤◌, ◌<◌}
use native.Mathlib.Omega.{arith}
use lib.ListN.{length}
use Rattle.rules.specs.Sizes.{pending_count}
use Rattle.rules.specs.Encoding.{machine_from}
use Rattle.rules.specs.declared.statement.Statement.TheVariants.{SendBuffered}
use Rattle.bytes_fields.specs.Found.{some_found, found-is}
use Rattle.state_pending.specs.Canon.{pending_at}
use Rattle.step_contract.specs.At.{registers-here, unread-stepped}
use Rattle.step_send_buffered.specs.Buffered.{own-tree, full-stepped}
use borrow.Author.Rules.{rules}
use Rattle.step_send_buffered.proofs.buffered.send_buffered.Goals as goal

-- the registers of the value are those of the record
pub read_data-requires : goal.read_data-requires
read_data-requires c =
    let h = c.requires.0 in
    (h.ready.canonical.long, h.readable, search rules, h.inside, registers-here h)

pub returns-in-Err : goal.returns-in-Err
returns-in-Err c =
    unread-stepped c.requires.0 SendBuffered c.requires.1 c.in-Err.ensures.gives (rw c.from.ensures at c.trapped.ensures.value)
    c.trapped.ensures.ended

pub unwrap-i-requires : goal.unwrap-i-requires
unwrap-i-requires c = rw c.first_tree.ensures (some_found _ _ (own-tree c.requires.0 _ refl))

pub pending-requires : goal.pending-requires
pending-requires c = (c.requires.0.ready.canonical, (found-is _ _ (sym c.unwrap-i.ensures ∙ c.first_tree.ensures)).1)

pub returns-then-pending-ge-PENDING : goal.returns-then-pending-ge-PENDING
returns-then-pending-ge-PENDING c =
    let own = found-is _ _ (sym c.unwrap-i.ensures ∙ c.first_tree.ensures) in
    let m = machine_from c.args.state.now in
    let l : pending_count ≤ length (pending_at m c.unwrap-i.result) = omega (arith, c.pending.ensures, c.if-pending-ge-PENDING.true) in
    full-stepped c.requires.0 c.requires.1 c.read_data.new.values c.in_default.ensures _ own.0 l
    (rw c.from-then-pending-ge-PENDING.ensures at c.trapped-then-pending-ge-PENDING.ensures.value)
    c.trapped-then-pending-ge-PENDING.ensures.ended

pub buffer-requires : goal.buffer-requires
buffer-requires c =
    let own = found-is _ _ (sym c.unwrap-i.ensures ∙ c.first_tree.ensures) in
    let m = machine_from c.args.state.now in
    let l : length (pending_at m c.unwrap-i.result) < pending_count = omega (arith, c.pending.ensures, c.if-pending-ge-PENDING.false) in
    record { at = (c.requires.0, c.requires.1, c.in_default.ensures); i_value = (own.0, l) }
