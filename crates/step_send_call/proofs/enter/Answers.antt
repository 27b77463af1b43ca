use mathlib.Core.Path.{◌≡◌, refl}
use mathlib.Core.Bool.{not}
use mathlib.Core.List.{List}
use Prim.Native.Nat.{ℕ}
use borrow.Author.Rules.{rules}
use lib.Dec.{eqb}
use Rattle.state_thread.specs.declared.thread.ThreadState.{ThreadState}
use Rattle.step_contract.specs.Ready.{thread_in}
use Rattle.step_contract.specs.At.{At}
use Rattle.step_lock.specs.Enters.{entering-below}
use Rattle.step_send_call.specs.Entering.{trap-stepped, wait-stepped, can-enter, can-hold, go-stepped, own-stepped}
use Rattle.step_send_call.proofs.enter.Goals as goal

-- the thread that was read is the one in the state
here : {image table b : List ℕ} {t : ℕ} {w : ThreadState} {r : List ℕ} → w ≡ thread_in b t → At image table b t (thread_in b t) r
    → At image table b t w r
here e h = rw e h

pub passage_of-requires : goal.passage_of-requires
passage_of-requires g c = (here c.read_thread-w.ensures c.requires.0, c.requires.1, search rules)

pub entered-requires : goal.entered-requires
entered-requires g c =
    let h = here c.read_thread-w.ensures c.requires.0 in
    (can-enter h c.in-Ok.ensures (entering-below h (not (eqb g.row.CALL 0)) c.requires.1), c.in-Ok.ensures.room refl)

pub write_holding-requires : goal.write_holding-requires
write_holding-requires g c =
    let e = rw c.in-Go.is at c.in-Ok.ensures in
    can-hold (here c.read_thread-w.ensures c.requires.0) e c.entered.ensures.running

pub entered-requires-in-Own : goal.entered-requires-in-Own
entered-requires-in-Own g c =
    let h = here c.read_thread-w.ensures c.requires.0 in
    (can-enter h c.in-Ok.ensures (entering-below h (not (eqb g.row.CALL 0)) c.requires.1), c.in-Ok.ensures.room refl)

pub write_thread-requires : goal.write_thread-requires
write_thread-requires g c =
    let h = c.requires.0 in
    let z = c.entered-in-Own.ensures.running.tidy in
    (h.ready.canonical.long, h.inside, z.returns.within, z.held.within)

pub trapped-requires : goal.trapped-requires
trapped-requires g c =
    let h = here c.read_thread-w.ensures c.requires.0 in
    (h.ready, h.inside, c.read_thread-w.ensures, h.thread)

pub returns-in-Err : goal.returns-in-Err
returns-in-Err g c = trap-stepped c.in-Err.ensures (rw c.from.ensures at c.trapped.ensures.value) c.trapped.ensures.ended

pub returns-in-Wait : goal.returns-in-Wait
returns-in-Wait g c =
    let e = rw c.in-Wait.is at c.in-Ok.ensures in
    wait-stepped (here c.read_thread-w.ensures c.requires.0) e

pub returns-in-Go : goal.returns-in-Go
returns-in-Go g c =
    let e = rw c.in-Go.is at c.in-Ok.ensures in
    go-stepped (here c.read_thread-w.ensures c.requires.0) e c.entered.ensures c.write_holding.ensures

pub returns-in-Own : goal.returns-in-Own
returns-in-Own g c =
    let e = rw c.in-Own.is at c.in-Ok.ensures in
    own-stepped (here c.read_thread-w.ensures c.requires.0) e c.entered-in-Own.ensures c.write_thread.ensures
