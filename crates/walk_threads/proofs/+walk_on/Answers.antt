use Rattle.std.specs.Prelude.{◌≡◌, ◌<◌}
use Rattle.std.proofs.Common.{sym, ap, ◌∙◌, arith}
use Rattle.std.proofs.Math.Option.{none, some}
use lib.ListN.{length-set}
use Rattle.rules.specs.Sizes.{thread_count}
use Rattle.rules.specs.Encoding.{machine_from}
use Rattle.rules.specs.Steps.{rules_by}
use Rattle.rules.specs.Walk.{awaits}
use Rattle.lemmas_walk.specs.Waits.{awaits-inside}
use Rattle.walk_threads.specs.Walking.{next-some, next-none, ring, goes, halts, full}
use Rattle.walk_threads.proofs.+walk_on.Goals as goal

pub returns-then-n-eq-COUNT : goal.returns-then-n-eq-COUNT
returns-then-n-eq-COUNT t c =
    let e = full _ c.args.met.now c.args.n _ c.requires.2 (omega arith) in
    record { count = e.0; bytes = e.1 }

pub returns-then-is_met : goal.returns-then-is_met
returns-then-is_met t c =
    let short : c.args.n < thread_count = omega arith in
    let e = ring _ c.args.met.now c.args.n _ c.requires.2 short (sym c.is_met.ensures ∙ c.if-is_met.true) in
    record { count = e.0; bytes = e.1 }

pub walk_on-requires : goal.walk_on-requires
walk_on-requires t c =
    let a = c.args in
    let R = rules_by a.image.now a.table.now in
    let m = machine_from a.state.now in
    let u : awaits R m a.t.0 ≡ some c.in-Some.next.0 = next-some _ _ _ c.awaited.ensures c.in-Some.is in (
      omega arith,
      (
        c.requires.0,
        omega arith,
        simp length-set (omega arith),
        awaits-inside R m c.requires.0.canonical.sized.threads
            a.t.0 _ u,
      ),
    )

pub shape_of-met-in-Some : goal.shape_of-met-in-Some
shape_of-met-in-Some t c = c.walk_on.auto.met ∙ simp length-set

pub returns-in-Some : goal.returns-in-Some
returns-in-Some t c =
    let a = c.args in
    let R = rules_by a.image.now a.table.now in
    let m = machine_from a.state.now in
    let short : a.n < thread_count = omega arith in
    let e : c.thread_number.result ≡ a.t.0 = c.thread_number.ensures in
    let fresh = rw (← e) at (sym c.is_met.ensures ∙ c.if-is_met.false) in
    let u : awaits R m c.thread_number.result ≡ some c.in-Some.next.0 = ap (awaits R m) e
    ∙ next-some _ _ _ c.awaited.ensures c.in-Some.is in
    rw (← e) (
    let l = goes (awaits R m) a.met.now a.n _ c.requires.2 short fresh _ _ _ u
    c.walk_on.ensures.count c.walk_on.ensures.bytes in
    record { count = l.0; bytes = l.1 }
    )

pub returns-in-None : goal.returns-in-None
returns-in-None t c =
    let a = c.args in
    let R = rules_by a.image.now a.table.now in
    let m = machine_from a.state.now in
    let short : a.n < thread_count = omega arith in
    let e : c.thread_number.result ≡ a.t.0 = c.thread_number.ensures in
    let fresh = rw (← e) at (sym c.is_met.ensures ∙ c.if-is_met.false) in
    let u : awaits R m c.thread_number.result ≡ none = ap (awaits R m) e ∙ next-none _ _ c.awaited.ensures c.in-None.is in
    rw (← e) (
    let l = halts (awaits R m) a.met.now a.n _ c.requires.2 short fresh u in
    record { count = l.0; bytes = l.1 }
    )
