use borrow.Author.Rules.{rules}
use mathlib.Core.Path.{◌≡◌}
use mathlib.Core.List.{List}
use Prim.Native.Nat.{ℕ}
use lib.ListN.{length}
use Rattle.rules.specs.Sizes.{return_count, register_count}
use Rattle.lemmas_encoding.specs.Numbers.{AreBytes}
use Rattle.state_thread_record.specs.Stores.{stored-front}
use Rattle.state_thread_record.proofs.write_without_held.Goals as goal

pub returns : goal.returns
returns c =
    let a = c.args in
    let sized : (length a.w.returns ≡ return_count) × (length a.w.registers ≡ register_count) = search rules in
    let b : List ℕ = a.state.now in
    let bytes : AreBytes b = λ i. search rules in
    let at = c.record_at-at.ensures in
    stored-front b a.t.0 bytes c.requires.0 c.requires.1 a.w sized.0 sized.1 c.requires.3
    (rw at at c.write_labels.ensures) (rw at at
    c.write_registers.ensures)
