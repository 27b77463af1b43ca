use Prim.Native.Nat.{ℕ, ◌+◌, ◌*◌, ◌<◌}
use native.Mathlib.Omega.{arith}
use Rattle.rules.specs.Sizes.{block_count, word_count}
use Rattle.rules.specs.Encoding.{machine_from}
use Rattle.rules.specs.declared.statement.Operand.TheVariants.{Register, Word}
use Rattle.rules.specs.declared.statement.Statement.TheVariants.{Assign}
use Rattle.lemmas_encoding.specs.Encoded.{encoded-canonical}
use Rattle.state_shared.specs.Words.{word-written}
use Rattle.state_thread.specs.Threads.{runs-itself}
use Rattle.step_contract.specs.Ready.{job-written, slots-assigned}
use Rattle.step_contract.specs.At.{label-A, small}
use Rattle.step_store.specs.Destinations.{register-stored, first-written}
use Rattle.step_store.specs.Operands.{first-register, first-word}
use Rattle.step_store.proofs.store_first.Goals as goal

pub move_on-next-requires : goal.move_on-next-requires
move_on-next-requires c =
    let s = c in
    let h = s.requires.0 in
    (h.thread, rw c.label_a.ensures (small h _ (label-A h (Assign s.args.a) s.requires.1)))

pub assign_register-x-requires : goal.assign_register-x-requires
assign_register-x-requires c = (
  c.move_on-next.ensures.running,
  (first-register c.requires.0 c.args.a c.requires.1 _ _ c.kind_at.ensures c.value_at-to.ensures c.if-kind_at-eq-REGISTER_OPERAND.true).1,
)

pub write_assigned-requires : goal.write_assigned-requires
write_assigned-requires c =
    let move-on = c.move_on-next in
    let s = c in
    let h = s.requires.0 in
    let k = c.value_at-to.result in
    let runs = register-stored (Register k) s.args.u move-on.ensures c.assign_register-x.ensures in
    let kept = slots-assigned h.read h.thread k s.args.u runs in (
      h.ready.canonical.long,
      h.inside,
      runs.running.tidy.returns.within,
      (first-register c.requires.0 c.args.a c.requires.1 _ _ c.kind_at.ensures c.value_at-to.ensures
          c.if-kind_at-eq-REGISTER_OPERAND.true).1,
      kept,
    )

pub returns-then-kind_at-eq-REGISTER_OPERAND : goal.returns-then-kind_at-eq-REGISTER_OPERAND
returns-then-kind_at-eq-REGISTER_OPERAND c =
    let k = c.value_at-to.result in
    let move-on = c.move_on-next in
    let assign-register = c.assign_register-x in
    let s = c in
    let h = s.requires.0 in
    let to = first-register c.requires.0 c.args.a c.requires.1 _ _ c.kind_at.ensures c.value_at-to.ensures
    c.if-kind_at-eq-REGISTER_OPERAND.true in
    let runs = register-stored (Register k) s.args.u move-on.ensures assign-register.ensures in
    rw to.0 (record {
      runs = rw c.label_a.ensures at runs;
      encodes = job-written s.args.t.0 h.ready.canonical h.inside
          (runs-itself runs.running)
          c.write_assigned.ensures;
    })

pub write_thread-requires : goal.write_thread-requires
write_thread-requires c =
    let h = c.requires.0 in
    let z = c.move_on-next.ensures.running.tidy in
    (h.ready.canonical.long, h.inside, z.returns.within, z.held.within)

pub write_word-requires : goal.write_word-requires
write_word-requires c =
    let move-on = c.move_on-next in
    let s = c in
    let h = s.requires.0 in
    let thread = job-written s.args.t.0 h.ready.canonical h.inside (runs-itself move-on.ensures.running)
    c.write_thread.ensures in
    let block = c.block_field-block in (
      (encoded-canonical _ _ thread).long,
      rw block.ensures h.readable.block,
      (first-word c.requires.0 c.args.a c.requires.1 _ _ c.kind_at.ensures c.value_at-to.ensures
          c.if-kind_at-eq-REGISTER_OPERAND.false).1,
    )

pub returns : goal.returns
returns c =
    let s = c in
    let h = s.requires.0 in
    let to = first-word c.requires.0 c.args.a c.requires.1 _ _ c.kind_at.ensures c.value_at-to.ensures
    c.if-kind_at-eq-REGISTER_OPERAND.false in
    let k : ℕ = c.value_at-to.result in
    let l : k < word_count = to.1 in
    let next = c.move_on-next in
    let thread = job-written s.args.t.0 h.ready.canonical h.inside (runs-itself next.ensures.running)
    c.write_thread.ensures in
    let block = c.block_field-block in
    let inside : block.result.0 < block_count = rw block.ensures h.readable.block in
    let stored = word-written _ _ (encoded-canonical _ _ thread) (word_count * block.result.0 + k) s.args.u
    (omega arith) c.write_word.ensures in
    rw to.0 (record {
      runs = rw c.label_a.ensures at next.ensures;
      encodes = first-written (machine_from s.args.state.now)
          s.args.t.0 _ next.result (Word k) s.args.u thread
          (rw block.ensures at stored);
    })
