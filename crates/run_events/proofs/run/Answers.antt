use mathlib.Core.Path.{◌≡◌, ap, ◌∙◌, subst}
use Prim.Native.Nat.{ℕ, ◌-◌, ◌≤◌}
use native.Mathlib.Omega.{arith}
use lib.ListN.{length}
use Rattle.rules.specs.Events.{events_in}
use Rattle.bytes_fields.specs.Put.{length-put}
use Rattle.run_events.specs.Runs.{event-at, Ran, ran-none, ran-more, ran-state, ran-answers}
use Rattle.run_events.proofs.run.Goals as goal

pub loop-i-init : goal.loop-i-init
loop-i-init c =
    let s = c in
    ran-none s.args.image.now s.args.table.now s.args.events.now s.args.state.now s.args.space.now s.requires.ready

pub event-a-requires : goal.event-a-requires
event-a-requires c = (
  c.loop-i.invariant.ready,
  event-at
      c.requires.events.0 c.loop-i.i (omega arith),
)

pub write_answer-requires : goal.write_answer-requires
write_answer-requires c =
    let s = c in
    let l : length c.loop-i.space ≡ length s.args.space.now =
    ap length c.loop-i.invariant.answered ∙ length-put s.args.space.now 0 _ in
    omega (arith, s.requires.events.1)

pub loop-i-preserved : goal.loop-i-preserved
loop-i-preserved c =
    let s = c in
    let l = c.loop-i in
    ran-more s.args.image.now s.args.table.now s.args.events.now s.args.state.now s.args.space.now
    l.i l.invariant (event-at s.requires.events.0 l.i (omega arith))
    c.event-a.ensures c.write_answer.ensures

pub shape_of-space : goal.shape_of-space
shape_of-space c = ap length c.loop-i.invariant.answered
    ∙ length-put c.args.space.now 0 _

pub returns : goal.returns
returns c =
    let s = c in
    let l = c.loop-i in
    let e : l.i ≡ events_in s.args.events.now = omega arith in
    let h = subst (λ (k : ℕ). Ran s.args.image.now s.args.table.now s.args.events.now s.args.state.now
    s.args.space.now k l.state l.space) e l.invariant in
    let image = s.args.image.now in record {
      state_after = ran-state image s.args.table.now s.args.events.now s.args.state.now s.args.space.now l.state l.space h;
      space_after = ran-answers image s.args.table.now s.args.events.now s.args.state.now s.args.space.now l.state l.space h
          s.requires.events.1;
    }

pub shape_of-state : goal.shape_of-state
shape_of-state c = omega (arith, ap length c.loop-i.invariant.ready.canonical.same)
