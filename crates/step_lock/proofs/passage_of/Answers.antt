use mathlib.Core.Path.{◌≡◌, ap}
use mathlib.Core.Bool.{Bool, true, not, false≢true}
use mathlib.Core.Logic.{◌⊎◌, inl, inr}
use Prim.Native.Nat.{ℕ, ◌<◌}
use borrow.Author.Rules.{rules}
use borrow.Author.Tests.{ne_eqb}
use lib.Dec.{eqb}
use lib.ListN.{length}
use Rattle.std.proofs.lemmas.Result.{err_from_is_err_and}
use Rattle.rules.specs.Sizes.{return_count}
use Rattle.step_contract.specs.At.{registers-here}
use Rattle.step_lock.specs.Enters.{entering-below, unread-enters, deep-enters, enters-as}
use Rattle.step_lock.proofs.passage_of.Goals as goal

-- past the test a CALL has room for its return label
room : {call depth : ℕ} → ((call ≡ 0 → ⊥) × (depth < return_count)) ⊎ (call ≡ 0) → not (eqb call 0) ≡ true → depth < return_count
room (inl h) e = h.1
room (inr z) e = absurd (false≢true (rw z at e))

pub read_data-requires : goal.read_data-requires
read_data-requires g c =
    let h = c.requires.0 in
    (h.ready.canonical.long, h.readable, ap length c.requires.2, h.inside, registers-here h)

pub passage_to-requires : goal.passage_to-requires
passage_to-requires g c =
    let h = c.requires.0 in
    (h.ready.checked, h.ready.canonical, rw c.label_a.ensures (entering-below h (not (eqb g.row.CALL 0)) c.requires.1))

pub returns-in_err-read_data : goal.returns-in_err-read_data
returns-in_err-read_data g c =
    let unread = (rw c.in_err-read_data.was at c.read_data.ensures).gives in
    let err = err_from_is_err_and c.from_residual.result c.from_residual.ensures.1 in
    rw (err.1, err.2) (unread-enters c.requires.0 (not (eqb g.row.CALL 0)) _ c.requires.1 unread)

pub returns-then-w-ge-RETURNS : goal.returns-then-w-ge-RETURNS
returns-then-w-ge-RETURNS g c =
    let read = rw (c.requires.2, c.in_ok-read_data.was) at c.read_data.ensures in
    let call : not (eqb g.row.CALL 0) ≡ true = rw (ne_eqb g.row.CALL 0 c.if-this-ne0.true) in
    deep-enters c.requires.0 read _ call c.requires.1 c.if-w-ge-RETURNS.true

pub returns : goal.returns
returns g c =
    let read = rw (c.requires.2, c.in_ok-read_data.was) at c.read_data.ensures in
    enters-as c.requires.0 read (not (eqb g.row.CALL 0)) _ c.requires.1 (room c.else-this-ne0.either)
    (rw c.label_a.ensures at c.passage_to.ensures)
