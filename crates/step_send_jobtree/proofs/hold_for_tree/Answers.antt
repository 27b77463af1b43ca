use mathlib.Core.Path.{◌≡◌}
use mathlib.Core.List.{[], ◌∷◌, ◌++◌}
use native.Mathlib.Omega.{arith}
use lib.ListN.{length}
use Rattle.rules.specs.Sizes.{register_count}
use Rattle.rules.specs.Machine.{Job, job, with_held}
use Rattle.rules.specs.declared.statement.Statement.TheVariants.{SendTree}
use Rattle.state_signal.specs.Signals.{signal_of, TidySignal, value-sized}
use Rattle.state_signal.specs.declared.Signal.{Signal}
use Rattle.state_thread.specs.Threads.{Runs, signals_of, returns_of, registers_of, runs_then}
use Rattle.step_contract.specs.At.{label-B, small}
use Rattle.step_send_jobtree.specs.Held.{signal-tidy, one_more, slots-held, held-stepped}
use borrow.Author.Rules.{rules}
use Rattle.step_send_jobtree.proofs.hold_for_tree.Goals as goal

sized : (c : goal.After-move_on) → length c.args.values ≡ register_count
sized c = search rules

-- the signal, which is tidy
abbrev signal : goal.After-operand_count → Signal
signal c = record {
  label = c.label_a-to.result;
  count = c.operand_count.result;
  values = c.args.values;
}

-- the signal, which is tidy
abbrev signal-2 : goal.After-move_on → Signal
signal-2 c = record {
  label = c.label_a-to.result;
  count = c.operand_count.result;
  values = c.args.values;
}

-- the signal, which is tidy
abbrev signal-3 : goal.After-slice_known-2-1 → Signal
signal-3 c = record {
  label = c.label_a-to.result;
  count = c.operand_count.result;
  values = c.args.values;
}

tidy : (c : goal.After-operand_count) → TidySignal (signal c)
tidy c =
    let s = c in
    signal-tidy s.requires.0 s.requires.1 s.args.values s.requires.2 _ _ c.operand_count.ensures

tidy-2 : (c : goal.After-move_on) → TidySignal (signal-2 c)
tidy-2 c =
    let s = c in
    signal-tidy s.requires.0 s.requires.1 s.args.values s.requires.2 _ _ c.operand_count.ensures

pub hold_signal-held-requires : goal.hold_signal-held-requires
hold_signal-held-requires c =
    let s = c in
    (s.requires.0.thread, s.requires.3, tidy c)

pub move_on-requires : goal.move_on-requires
move_on-requires c =
    let s = c in
    let h = s.requires.0 in (
      c.hold_signal-held.ensures.running,
      rw c.label_b-next.ensures (small h _ (label-B h SendTree
          s.requires.1)),
    )

-- the thread that is written holds the signal, and goes on
runs : (c : goal.After-move_on)
    → let w = c.args.w in
    Runs c.move_on.result w.locks
    (with_held (signals_of w ++ signal_of (signal-2 c) ∷ [])
    (job c.label_b-next.result.0 (returns_of w) (registers_of w)))
runs c =
    runs_then (λ l. l) (λ (j : Job). with_held j.held (job c.label_b-next.result.0 j.returns
    j.registers))
    c.hold_signal-held.ensures c.move_on.ensures

-- the thread that is written holds the signal, and goes on
runs-2 : (c : goal.After-slice_known-2-1)
    → let w = c.args.w in
    Runs c.move_on.result w.locks
    (with_held (signals_of w ++ signal_of (signal-3 c) ∷ [])
    (job c.label_b-next.result.0 (returns_of w) (registers_of w)))
runs-2 c =
    runs_then (λ l. l) (λ (j : Job). with_held j.held (job c.label_b-next.result.0 j.returns
    j.registers))
    c.hold_signal-held.ensures c.move_on.ensures

pub write_held_signal-requires : goal.write_held_signal-requires
write_held_signal-requires c =
    let s = c in
    let h = s.requires.0 in
    let g = signal-2 c in
    let t = tidy-2 c in
    let r = runs c in
    let z = r.running.tidy in
    let small = value-sized g (sized s) t in
    let slots = slots-held s.args.state.now s.args.t.0 h.read h.thread (signal_of g) s.requires.3 small r in
    let more = one_more s.args.state.now s.args.t.0 h.read h.thread (signal_of g) s.requires.3 small r in (
      h.ready.canonical.long,
      h.inside,
      z.returns.within,
      t,
      slots.0,
      slots.1,
      slots.2,
      omega (arith, more),
      z.held.within,
      slots.3,
    )

pub returns : goal.returns
returns c =
    let s = c in
    let label-a = c.label_a-to in
    let label-b = c.label_b-next in
    let operand-count = c.operand_count in
    held-stepped s.requires.0 s.requires.1 s.args.values s.requires.2 _ _ _ label-a.ensures label-b.ensures
    operand-count.ensures s.requires.3 (runs-2 c) c.write_held_signal.ensures
