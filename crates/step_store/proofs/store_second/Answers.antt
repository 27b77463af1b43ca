use Prim.Native.Nat.{ℕ, ◌+◌, ◌*◌, ◌<◌}
use native.Mathlib.Omega.{arith}
use Rattle.rules.specs.Sizes.{word_count}
use Rattle.state_shared.specs.Words.{word-written}
use Rattle.step_contract.specs.Ready.{job-written, slots-assigned, head-assigned}
use Rattle.step_store.specs.Operands.{register-lands, word-lands}
use Rattle.step_store.proofs.store_second.Goals as goal

pub assign_register-requires : goal.assign_register-requires
assign_register-requires c = (c.requires.2, (register-lands _ _ c.if-kind-eq-REGISTER_OPERAND.true c.requires.4).1)

pub write_register-requires : goal.write_register-requires
write_register-requires c =
    let s = c in
    let x = c.assign_register.ensures in
    let kept = slots-assigned s.requires.5 s.requires.2 _ _ x in (
      s.requires.0.long,
      s.requires.1,
      (register-lands _ _ c.if-kind-eq-REGISTER_OPERAND.true c.requires.4).1,
      head-assigned s.requires.5 s.requires.2 x,
      kept,
    )

pub write_word-requires : goal.write_word-requires
write_word-requires c = (c.requires.0.long, c.requires.3, (word-lands _ _ c.if-kind-eq-REGISTER_OPERAND.false c.requires.4).1)

pub returns-then-kind-eq-REGISTER_OPERAND : goal.returns-then-kind-eq-REGISTER_OPERAND
returns-then-kind-eq-REGISTER_OPERAND c =
    let s = c in
    rw (register-lands _ _ c.if-kind-eq-REGISTER_OPERAND.true c.requires.4).0
    (job-written s.args.t.0 s.requires.0 s.requires.1 c.assign_register.ensures
    c.write_register.ensures)

pub returns-else-kind-eq-REGISTER_OPERAND : goal.returns-else-kind-eq-REGISTER_OPERAND
returns-else-kind-eq-REGISTER_OPERAND c =
    let s = c in
    let to = word-lands _ _ c.if-kind-eq-REGISTER_OPERAND.false c.requires.4 in
    let k : ℕ = s.args.to in
    let h : k < word_count = to.1 in
    rw to.0
    (word-written _ _ s.requires.0 (word_count * s.args.block.0 + k) s.args.v (omega (arith, s.requires.3))
    c.write_word.ensures)
