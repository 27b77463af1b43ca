use borrow.Author.Rules.{rules}
use mathlib.Core.Path.{◌≡◌}
use mathlib.Core.List.{List}
use Prim.Native.Nat.{ℕ}
use lib.ListN.{length}
use Rattle.rules.specs.Sizes.{return_count, register_count}
use Rattle.lemmas_encoding.specs.Numbers.{AreBytes}
use Rattle.state_thread_record.specs.Stores.{stored_one}
use Rattle.state_thread_record.proofs.write_assigned.Goals as goal

pub returns : goal.returns
returns c =
    let a = c.args in
    let sized : (length a.w.returns ≡ return_count) × (length a.w.registers ≡ register_count) = search rules in
    let p = c.requires in
    let b : List ℕ = a.state.now in
    let bytes : AreBytes b = λ i. search rules in
    let at = c.record_at-at.ensures in
    stored_one b a.t.0 bytes p.0 p.1 a.w sized.0 sized.1 p.4.2 a.register a.value p.3 p.4.0 p.4.1
    (rw at at c.write_head.ensures)
    (rw at at c.put32.ensures) (rw at at c.put16.ensures)
