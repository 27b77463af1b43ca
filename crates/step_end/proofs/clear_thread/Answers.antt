use borrow.Author.Rules.{rules}
use native.Mathlib.Omega.{arith}
use mathlib.Core.Path.{◌≡◌}
use Prim.Native.Nat.{◌≤◌}
use Rattle.rules.specs.Sizes.{return_count, held_count}
use Rattle.state_thread.specs.Threads.{idle_thread}
use Rattle.state_thread.specs.declared.thread.ThreadState.{ThreadState}
use Rattle.step_end.specs.Home.{cleared, none-there}
use Rattle.step_end.proofs.clear_thread.Goals as goal

-- an ended thread has no return label and no signal
few : (x : ThreadState) → x ≡ idle_thread → (x.depth ≤ return_count) × (x.held ≤ held_count)
few x e = rw e (omega arith, omega arith)

pub write_without_held-requires : goal.write_without_held-requires
write_without_held-requires c =
    let s = c in
    let e = c.end.ensures in (
      s.requires.0.long,
      s.requires.1,
      (few _ e).0,
      none-there s.args.t.0 s.requires.2 s.requires.3 (omega
          (arith, c.if-w-eq0.true)) e,
    )

pub write_thread-requires : goal.write_thread-requires
write_thread-requires c =
    let s = c in
    let n = few _ c.end-else-w-eq0.ensures in
    (s.requires.0.long, s.requires.1, n.0, n.1)

pub returns-then-w-eq0 : goal.returns-then-w-eq0
returns-then-w-eq0 c =
    let s = c in
    cleared s.args.t.0 s.requires.0 s.requires.1 c.end.ensures
    c.write_without_held.ensures

pub returns-else-w-eq0 : goal.returns-else-w-eq0
returns-else-w-eq0 c =
    let s = c in
    cleared s.args.t.0 s.requires.0 s.requires.1 c.end-else-w-eq0.ensures c.write_thread.ensures
