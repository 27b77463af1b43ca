use borrow.Author.Rules.{rules}
use mathlib.Core.Path.{◌≡◌, sym, ap, ◌∙◌}
use mathlib.Core.List.{List}
use Prim.Native.Nat.{ℕ}
use native.Mathlib.Omega.{arith}
use lib.ListN.{length}
use Rattle.rules.specs.Sizes.{return_count, register_count, returns_place}
use Rattle.bytes_fields.specs.Put.{put}
use Rattle.bytes_fields.specs.Inside.{put_self}
use Rattle.lemmas_encoding.specs.Numbers.{AreBytes}
use Rattle.state_thread.specs.Records.{thread_place}
use Rattle.state_thread_record.specs.Stores.{head_bytes, head-there, stored_one}
use Rattle.state_thread_record.proofs.write_register.Goals as goal

pub returns : goal.returns
returns c =
    let a = c.args in
    let sized : (length a.w.returns ≡ return_count) × (length a.w.registers ≡ register_count) = search rules in
    let p = c.requires in
    let b : List ℕ = a.state.now in
    let bytes : AreBytes b = λ i. search rules in
    let at = c.record_at-at.ensures in
    let place : ℕ = thread_place a.t.0 in
    let there = head-there b a.t.0 bytes p.0 p.1 a.w sized.0 sized.1 p.3 in
    let head : b ≡ put b place (head_bytes a.w) = sym (ap (put b place) there ∙ put_self b place returns_place (omega arith)) in
    stored_one b a.t.0 bytes p.0 p.1 a.w sized.0 sized.1 p.4.2 a.register a.value p.2 p.4.0 p.4.1 head
    (rw at at c.put32.ensures) (rw at at c.put16.ensures)
