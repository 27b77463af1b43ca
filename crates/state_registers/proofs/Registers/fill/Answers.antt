use borrow.Author.Rules.{rules}
use Prim.Native.Nat.{◌<◌, ◌^◌}
use mathlib.Core.Path.{◌≡◌, refl, ◌∙◌}
use native.Mathlib.Nat.{mod-eq_of_lt}
use native.Mathlib.Numerals.{add-one}
use native.Mathlib.Omega.{arith}
use lib.Bits.{bit_and, and_mask}
use lib.ListN.{length, take}
use lib.Pow.{pow_mono, pow_pos}
use Rattle.rules.specs.Sizes.{register_count}
use Rattle.state_registers.specs.Filling.{present_after, values_after, length-after, Turned, after-turns, turned-values, turned-present}
use Rattle.state_registers.specs.Filling.{filled_by, filled-present, filled-values}
use Rattle.state_registers.proofs.Registers.fill.Goals as goal

pub loop-i-init : goal.loop-i-init
unfolding present_after values_after
loop-i-init c = (refl, refl)

pub loop-i-preserved : goal.loop-i-preserved
unfolding present_after values_after
loop-i-preserved c =
    let a = c.args in
    let p = c.requires in
    let l = c.loop-i in
    let long : length a.values ≡ register_count = search rules in (
      rw (add-one, c.with_bit-present.ensures, c.low-given.ensures, l.invariant.0, filled-present a.count a.values p.0 long),
      rw (add-one, ← l.invariant.1, filled-values a.count a.values p.0 long p.1),
    )

pub returns : goal.returns
unfolding filled_by
returns c =
    let a = c.args in
    let p = c.requires in
    let w = a.self in
    let f = filled_by (take a.count a.values) in
    let l = c.loop-i in
    let long : length a.values ≡ register_count = search rules in
    let came-long : length w.values ≡ register_count = search rules in
    let e : l.i ≡ register_count = omega arith in
    let turned : Turned register_count w f l.present l.registers =
    rw (l.invariant.0, l.invariant.1, e) (after-turns w f came-long register_count (omega arith)) in
    let small : f.present < 2 ^ register_count = rw (filled-present a.count a.values p.0 long)
    (omega (arith, pow_mono p.0, pow_pos a.count)) in
    let present : bit_and l.present c.low.result ≡ f.present =
    rw c.low.ensures (and_mask l.present register_count ∙ turned-present turned ∙ mod-eq_of_lt small) in
    let values : l.registers ≡ f.values = turned-values turned (rw l.invariant.1 (length-after _ _ _ ∙ came-long))
    (rw (filled-values a.count a.values p.0 long p.1) long) in
    λ i. record { present = present i; values = values i }
