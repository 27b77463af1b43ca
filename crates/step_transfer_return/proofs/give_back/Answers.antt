use native.Mathlib.Omega.{arith}
use Rattle.rules.specs.declared.answer.Answer.TheVariants.{Moved}
use Rattle.rules.specs.declared.statement.Statement.TheVariants.{Return}
use Rattle.step_operands.specs.Gathered.{zeros-stay}
use Rattle.step_contract.specs.Ready.{thread-stepped}
use Rattle.step_contract.specs.At.{registers-here, unread-stepped}
use Rattle.step_transfer_return.specs.Steps.{returned, unreturned, newest-small}
use borrow.Author.Rules.{rules}
use Rattle.step_transfer_return.proofs.give_back.Goals as goal

-- the registers of the value are those of the record
pub read_data-requires : goal.read_data-requires
read_data-requires c =
    let h = c.requires.0 in
    (h.ready.canonical.long, h.readable, search rules, h.inside, registers-here h)

pub returns-in-Err : goal.returns-in-Err
returns-in-Err c =
    unread-stepped c.requires.0 Return c.requires.1 c.in-Err.ensures.gives (rw c.from.ensures at c.trapped.ensures.value)
    c.trapped.ensures.ended

pub returns-then-w-eq0 : goal.returns-then-w-eq0
returns-then-w-eq0 c =
    unreturned c.requires.0 _ c.in_default.ensures.gives c.requires.1 c.if-w-eq0.true
    (rw c.from-then-w-eq0.ensures at c.trapped-then-w-eq0.ensures.value) c.trapped-then-w-eq0.ensures.ended

pub return_to_caller-requires : goal.return_to_caller-requires
return_to_caller-requires c =
    let read = c.in_default.ensures in
    let h = c.requires.0 in
    let n = c.operand_count.ensures in
    (h.thread, omega arith, newest-small h (omega arith), rw n h.readable.few, rw n (zeros-stay read))

pub write_thread-requires : goal.write_thread-requires
write_thread-requires c =
    let h = c.requires.0 in
    let z = c.return_to_caller.ensures.running.tidy in
    (h.ready.canonical.long, h.inside, z.returns.within, z.held.within)

pub returns : goal.returns
returns c =
    let write-thread = c.write_thread in
    let return-to-caller = c.return_to_caller in
    let operand-count = c.operand_count in
    let if2 = c.if-w-eq0 in
    let read = c.in_default.ensures in
    let s = c in
    let h = s.requires.0 in
    let law = returned h _ read.gives s.requires.1 (omega (arith, if2.false)) in
    thread-stepped h.ready s.args.t.0 Moved h.inside law
    (rw operand-count.ensures at return-to-caller.ensures) write-thread.ensures
