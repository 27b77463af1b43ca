use Rattle.std.specs.Prelude.{◌≡◌, ◌*◌, get_or, drop}
use Rattle.std.proofs.Common.{sym, ap, ◌∙◌, subst, arith}
use Rattle.rules.specs.Sizes.{event_size}
use Rattle.rules.specs.Codes.{arrival_code, step_code}
use Rattle.rules.specs.Events.{Event, step, cut, event_from}
use Rattle.step_contract.specs.Ready.{Done, reply_to}
use Rattle.run_event.specs.Kinds.{kind-place, turn-thread, step_is, cut-is}
use Rattle.run_event.proofs.event.Goals as goal

pub step-requires : goal.step-requires
step-requires c =
    let s = c in
    let k : get_or s.args.events.now (event_size * s.args.i) 0 ≡ step_code = sym (kind-place s.requires.1) ∙ c.if-kind-eq-STEP.true in
    (s.requires.0, rw c.from-t.ensures (turn-thread s.requires.1 (λ e. omega arith)))

pub returns-then-kind-eq-STEP : goal.returns-then-kind-eq-STEP
returns-then-kind-eq-STEP c =
    let s = c in
    let k : get_or s.args.events.now (event_size * s.args.i) 0 ≡ step_code = sym (kind-place s.requires.1)
    ∙ c.if-kind-eq-STEP.true in
    let e : step c.from-t.result.0 ≡ event_from
    (drop (event_size * s.args.i) s.args.events.now) =
    ap (λ t. step t.0) c.from-t.ensures ∙ sym (step_is s.requires.1 k) in
    subst (λ (x : Event). Done (reply_to s.args.image.now s.args.table.now s.args.state.now x)
    c.step.new.state c.step.result) e c.step.ensures

pub arrive-requires : goal.arrive-requires
arrive-requires c =
    let s = c in
    let k : get_or s.args.events.now (event_size * s.args.i) 0 ≡ arrival_code = sym (kind-place s.requires.1) ∙ c.if-kind-eq-ARRIVAL.true in
    (s.requires.0, s.requires.1, k)

pub read_thread-w-requires : goal.read_thread-w-requires
read_thread-w-requires c =
    let s = c in
    let k : get_or s.args.events.now (event_size * s.args.i) 0 ≡ arrival_code
    → ⊥ = λ e. c.if-kind-eq-ARRIVAL.false (kind-place s.requires.1 ∙ e) in
    (s.requires.0.canonical.long, rw c.from-t.ensures (turn-thread s.requires.1 k))

pub cut_job-requires : goal.cut_job-requires
cut_job-requires c =
    let s = c in
    let k : get_or s.args.events.now (event_size * s.args.i) 0 ≡ arrival_code
    → ⊥ = λ e. c.if-kind-eq-ARRIVAL.false (kind-place s.requires.1 ∙ e) in
    let t = c.from-t in
    (s.requires.0, rw t.ensures (turn-thread s.requires.1 k), c.read_thread-w.ensures)

pub returns : goal.returns
returns c =
    let s = c in
    let k : get_or s.args.events.now (event_size * s.args.i) 0 ≡ arrival_code
    → ⊥ = λ e. c.if-kind-eq-ARRIVAL.false (kind-place s.requires.1 ∙ e) in
    let m : get_or s.args.events.now (event_size * s.args.i) 0 ≡ step_code
    → ⊥ = λ e. c.if-kind-eq-STEP.false (kind-place s.requires.1 ∙ e) in
    let e : cut c.from-t.result.0 ≡ event_from
    (drop (event_size * s.args.i) s.args.events.now) =
    ap (λ t. cut t.0) c.from-t.ensures
    ∙ sym (cut-is s.requires.1 k m) in
    subst (λ (x : Event). Done (reply_to s.args.image.now s.args.table.now s.args.state.now x)
    c.cut_job.new.state c.cut_job.result) e c.cut_job.ensures
