use Prim.Native.Nat.{ℕ}
use mathlib.Core.Path.{◌≡◌, refl}
use mathlib.Core.List.{List}
use native.Mathlib.Omega.{arith}
use lib.ListN.{length, take}
use lib.Seq.{length-take-le}
use Rattle.rules.specs.Image.{operands}
use Rattle.rules.specs.declared.answer.Answer.TheVariants.{Moved}
use Rattle.rules.specs.declared.statement.Statement.TheVariants.{Transfer}
use Rattle.step_contract.specs.Ready.{thread-stepped}
use Rattle.step_contract.specs.At.{registers-here, label-A, small, unread-stepped}
use Rattle.step_transfer_return.specs.Steps.{transferred}
use borrow.Author.Rules.{rules}
use Rattle.step_transfer_return.proofs.transfer.Goals as goal

-- the registers of the value are those of the record
pub read_data-requires : goal.read_data-requires
read_data-requires c =
    let h = c.requires.0 in
    (h.ready.canonical.long, h.readable, search rules, h.inside, registers-here h)

pub returns-in-Err : goal.returns-in-Err
returns-in-Err c =
    unread-stepped c.requires.0 Transfer c.requires.1 c.in-Err.ensures.gives (rw c.from.ensures at c.trapped.ensures.value)
    c.trapped.ensures.ended

pub transfer-requires : goal.transfer-requires
transfer-requires c =
    let label-a = c.label_a in
    let read = c.in_default.ensures in
    let s = c in
    let h = s.requires.0 in
    let n = c.operand_count.ensures in
    let small-A = small h _ (label-A h Transfer s.requires.1) in
    (h.thread, rw label-a.ensures small-A, rw n h.readable.few, rw n (read.rest refl))

pub write_thread-requires : goal.write_thread-requires
write_thread-requires c =
    let h = c.requires.0 in
    let z = c.transfer.ensures.running.tidy in
    (h.ready.canonical.long, h.inside, z.returns.within, z.held.within)

pub returns : goal.returns
returns c =
    let write-thread = c.write_thread in
    let transfer = c.transfer in
    let operand-count = c.operand_count in
    let label-a = c.label_a in
    let read = c.in_default.ensures in
    let s = c in
    let h = s.requires.0 in
    let n = operands s.args.r.now in
    let values : List ℕ = c.read_data.new.values in
    let size : length (take n values) ≡ n = length-take-le n values (omega (arith, read.few, read.sized)) in
    let law = rw size at (transferred h (take n values) read.gives s.requires.1) in
    thread-stepped h.ready s.args.t.0 Moved h.inside law (rw (label-a.ensures, operand-count.ensures) at transfer.ensures)
    write-thread.ensures
