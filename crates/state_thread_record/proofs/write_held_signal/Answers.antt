use borrow.Author.Rules.{rules}
use mathlib.Core.Path.{◌≡◌}
use mathlib.Core.List.{List}
use Prim.Native.Nat.{ℕ}
use lib.ListN.{length}
use Rattle.rules.specs.Sizes.{return_count, register_count}
use Rattle.rules.specs.Encoding.{signal_bytes}
use Rattle.lemmas_encoding.specs.Numbers.{AreBytes}
use Rattle.lemmas_encoding.specs.Lengths.{length-signal}
use Rattle.state_signal.specs.Signals.{signal_of}
use Rattle.state_thread_record.specs.Stores.{stored-held}
use Rattle.state_thread_record.proofs.write_held_signal.Goals as goal

pub returns : goal.returns
returns c =
    let a = c.args in
    let sized : (length a.w.returns ≡ return_count) × (length a.w.registers ≡ register_count) = search rules in
    let p = c.requires in
    let b : List ℕ = a.state.now in
    let bytes : AreBytes b = λ i. search rules in
    let at = c.record_at-at.ensures in
    stored-held b a.t.0 bytes p.0 p.1 a.w sized.0 sized.1 (signal_bytes (signal_of a.g)) p.4 p.5 p.6 p.7
    p.8 (length-signal _) p.9 (rw at at c.write_head.ensures) (rw at at c.put8.ensures) (rw at at
    c.write_signal.ensures)
