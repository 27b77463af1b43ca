use native.Mathlib.Omega.{arith}
use mathlib.Core.Path.{◌≡◌, refl, ap, subst}
use Prim.Native.Nat.{◌≤◌}
use Rattle.rules.specs.Sizes.{return_count}
use Rattle.rules.specs.Machine.{Machine, with_thread, idle}
use Rattle.lemmas_encoding.specs.Encoded.{Encodes, encoded-machine, encoded-canonical}
use Rattle.state_thread.specs.Threads.{idle_thread}
use Rattle.state_thread.specs.declared.thread.ThreadState.{ThreadState}
use Rattle.step_contract.specs.Ready.{Recorded, thread_in, stands, still-recorded}
use Rattle.step_end.specs.Home.{cleared, none-there}
use Rattle.step_end.proofs.finish_apart.Goals as goal
use Rattle.step_end.proofs.finish_apart.Goals.{After-settle}

-- an ended thread has no return label
few : (x : ThreadState) → x ≡ idle_thread → x.depth ≤ return_count
few x e = rw e (omega arith)

-- the thread that runs is still that of the record
still : (c : After-settle) → Recorded c.settle.new.state c.args.t.0 (thread_in c.args.state.now c.args.t.0)
still c =
    let p = c.requires in
    let a = c.args in
    still-recorded a.t.0 p.1 p.2 c.settle.ensures (stands p.0 a.t.0 p.1 refl p.2)

pub settle-requires : goal.settle-requires
settle-requires c =
    let p = c.requires in
    let a = c.args in
    (p.0, p.1, ((thread_in a.state.now a.t.0).locks, _, stands p.0 a.t.0 p.1 refl p.2))

pub write_without_held-requires : goal.write_without_held-requires
write_without_held-requires c =
    let p = c.requires in
    let k = encoded-canonical _ _ c.settle.ensures in
    let r = still (goal.at.write_without_held-requires c).After-settle in
    let none = c.read_held-held.ensures in
    let e = c.idle.ensures in
    (k.long, p.1, few _ e, none-there c.args.t.0 r p.2 (omega (arith, c.if-held-eq0.true, none, ap (λ (q : ThreadState). q.held) r)) e)

pub returns-then-held-eq0 : goal.returns-then-held-eq0
returns-then-held-eq0 c =
    let k = c.settle.ensures in
    subst (λ (q : Machine). Encodes c.write_without_held.new.state (with_thread q c.args.t.0 idle)) (encoded-machine _ _ k)
    (cleared c.args.t.0 (encoded-canonical _ _ k) c.requires.1 c.idle.ensures c.write_without_held.ensures)

pub returns-else-held-eq0 : goal.returns-else-held-eq0
returns-else-held-eq0 c =
    let k = c.settle.ensures in
    subst (λ (q : Machine). Encodes c.write_thread.new.state (with_thread q c.args.t.0 idle)) (encoded-machine _ _ k)
    (cleared c.args.t.0 (encoded-canonical _ _ k) c.requires.1 c.idle-else-held-eq0.ensures c.write_thread.ensures)
