use borrow.Author.Rules.{rules}
use mathlib.Core.Path.{ap}
use native.Mathlib.Omega.{arith}
use Prim.Native.Nat.{◌+◌}
use lib.ListN.{length}
use Rattle.rules.specs.Encoding.{machine_from}
use Rattle.rules.specs.Steps.{rules_by}
use Rattle.lemmas_encoding.specs.Encoded.{encoded-canonical}
use Rattle.state_thread.specs.Threads.{signals_of}
use Rattle.step_contract.specs.At.{at-busy}
use Rattle.step_end.specs.Home.{settled}
use Rattle.step_exit.specs.Admitting.{Through, through-none, through-more}
use Rattle.step_exit.specs.Leaving.{admissible, all_held, still-runs, left, lost-there}
use Rattle.step_exit.proofs.end_holding.Goals as goal

pub settle-requires : goal.settle-requires
settle-requires c = let h = c.requires in
    (h.ready, h.inside, at-busy h)

pub found_next-a-requires : goal.found_next-a-requires
found_next-a-requires c =
    admissible c.requires 0 c.settle.ensures
    c.held_signal-first.ensures

pub found_next-b-requires : goal.found_next-b-requires
found_next-b-requires c =
    admissible c.requires 1 c.found_next-a.ensures.encodes
    c.held_signal-second.ensures

pub found_next-c-requires : goal.found_next-c-requires
found_next-c-requires c =
    admissible c.requires 2 c.found_next-b.ensures.encodes
    c.held_signal-third.ensures

pub found_next-d-requires : goal.found_next-d-requires
found_next-d-requires c =
    admissible c.requires 3 c.found_next-c.ensures.encodes
    c.held_signal-fourth.ensures

-- all signals that the job held have been admitted
through : (c : goal.After-clear_thread-arg-1)
    → let a = c.args in
    Through (rules_by a.image.now a.table.now) (settled a.image.now a.table.now a.t.0 (machine_from a.state.now))
    (signals_of a.w)
    (0 + c.found_next-a.result
    + c.found_next-b.result
    + c.found_next-c.result
    + c.found_next-d.result) c.found_next-d.new.state
through c =
    let s = c in
    let R = rules_by s.args.image.now s.args.table.now in
    let f₁ = c.found_next-a.ensures in
    let f₂ = c.found_next-b.ensures in
    let f₃ = c.found_next-c.ensures in
    let f₄ = c.found_next-d.ensures in
    let settle = c.settle.ensures in
    let g₄ = c in
    let x₁ = through-more R _ (through-none R settle) f₁.value.0 f₁.encodes in
    let x₂ = through-more R _ x₁ f₂.value.0 f₂.encodes in
    let x₃ = through-more R _ x₂ f₃.value.0 f₃.encodes in
    all_held s.requires g₄.held_signal-first.ensures.0 g₄.held_signal-second.ensures.0
    g₄.held_signal-third.ensures.0 g₄.held_signal-fourth.ensures.0 (through-more R _ x₃ f₄.value.0 f₄.encodes)

-- all signals that the job held have been admitted
through-2 : (c : goal.After-slice_known-7-1)
    → let a = c.args in
    Through (rules_by a.image.now a.table.now) (settled a.image.now a.table.now a.t.0 (machine_from a.state.now))
    (signals_of a.w)
    (0 + c.found_next-a.result
    + c.found_next-b.result
    + c.found_next-c.result
    + c.found_next-d.result) c.found_next-d.new.state
through-2 c =
    let s = c in
    let R = rules_by s.args.image.now s.args.table.now in
    let f₁ = c.found_next-a.ensures in
    let f₂ = c.found_next-b.ensures in
    let f₃ = c.found_next-c.ensures in
    let f₄ = c.found_next-d.ensures in
    let settle = c.settle.ensures in
    let g₄ = c in
    let x₁ = through-more R _ (through-none R settle) f₁.value.0 f₁.encodes in
    let x₂ = through-more R _ x₁ f₂.value.0 f₂.encodes in
    let x₃ = through-more R _ x₂ f₃.value.0 f₃.encodes in
    all_held s.requires g₄.held_signal-first.ensures.0 g₄.held_signal-second.ensures.0
    g₄.held_signal-third.ensures.0 g₄.held_signal-fourth.ensures.0 (through-more R _ x₃ f₄.value.0 f₄.encodes)

pub clear_thread-requires : goal.clear_thread-requires
clear_thread-requires c =
    let h = c.requires in
    let k = (through c).bytes in
    (encoded-canonical _ _ k, h.inside, still-runs h k, h.thread)

pub overflow_add-result : goal.overflow_add-result
overflow_add-result c = omega (
  arith,
  c.found_next-a.ensures.value.1,
  c.found_next-b.ensures.value.1,
)

pub overflow_add-result-2 : goal.overflow_add-result-2
overflow_add-result-2 c = omega (
  arith,
  c.found_next-a.ensures.value.1,
  c.found_next-b.ensures.value.1,
  c.found_next-c.ensures.value.1,
)

pub overflow_add-result-3 : goal.overflow_add-result-3
overflow_add-result-3 c =
    omega (
      arith,
      c.found_next-a.ensures.value.1,
      c.found_next-b.ensures.value.1,
      c.found_next-c.ensures.value.1,
      c.found_next-d.ensures.value.1,
    )

pub returns : goal.returns
returns c =
    let h = c.requires in
    let q = through-2 c in
    record { value = omega (arith, q.count, ap length (lost-there h)); encodes = left h q.bytes c.clear_thread.ensures }
