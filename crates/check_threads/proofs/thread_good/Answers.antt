use mathlib.Core.Path.{◌≡◌, sym, ◌∙◌}
use native.Mathlib.Omega.{arith}
use Rattle.bytes_lock_set.specs.Sets.{none-held}
use Rattle.check_threads.specs.Places.{thread-idle, thread-lockless, thread-untidy, thread-runs, few-returns}
use Rattle.check_threads.proofs.thread_good.Goals as goal

pub returns-then-get16 : goal.returns-then-get16
returns-then-get16 c =
    let a = c.args in
    rw c.all_zero.ensures (sym (thread-idle a.image.now a.table.now a.t.0 a.s.now a.at
    (sym c.get16.ensures ∙ c.if-get16.true)))

pub returns-then-number_held-eq0 : goal.returns-then-number_held-eq0
returns-then-number_held-eq0 c =
    let a = c.args in
    let own = c.get16-2 in
    let e : own.result ≡ 0 = none-held own.result (omega arith) (sym c.number_held.ensures ∙ c.if-number_held-eq0.true) in
    sym (thread-lockless a.image.now a.table.now a.t.0 a.s.now a.at
    (λ z. c.if-get16.false (c.get16.ensures ∙ z)) (sym own.ensures ∙ e))

pub returns-then-not-running_tidy : goal.returns-then-not-running_tidy
returns-then-not-running_tidy c =
    let a = c.args in
    sym (thread-untidy a.image.now a.table.now a.t.0 a.s.now a.at
    (λ e. c.if-get16.false (c.get16.ensures ∙ e))
    (sym c.running_tidy.ensures ∙ c.if-not-running_tidy.true))

pub places_ok-requires : goal.places_ok-requires
places_ok-requires c =
    let a = c.args in
    let p = c.requires in
    (p.0, p.1, few-returns a.s.now a.at (sym c.running_tidy.ensures ∙ c.if-not-running_tidy.false))

pub returns : goal.returns
returns c =
    let a = c.args in
    rw (c.places_ok.ensures, c.signals_good.ensures)
    (sym (thread-runs a.image.now a.table.now a.t.0 a.s.now a.at
    (λ e. c.if-get16.false
    (c.get16.ensures ∙ e)) (sym c.running_tidy.ensures
    ∙ c.if-not-running_tidy.false)))
