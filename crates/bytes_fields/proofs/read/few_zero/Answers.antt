use Rattle.std.specs.Prelude.{◌≡◌, ◌<◌, ◌+◌, ◌-◌, drop}
use Rattle.std.proofs.Common.{get_or-drop}
use Rattle.std.proofs.lemmas.List.{get_or-take}
use native.Mathlib.Omega.{arith}
use Rattle.rules.specs.Bytes.{part}
use Rattle.bytes_fields.specs.Put.{length_part}
use Rattle.bytes_fields.specs.Tests.{gathered_none, gathered-byte, gathered-all}
use Rattle.bytes_fields.proofs.read.few_zero.Goals as goal

pub loop-b-init : goal.loop-b-init
loop-b-init c = gathered_none c.args.s.now c.args.at c.args.n

pub loop-b-preserved : goal.loop-b-preserved
unfolding part
loop-b-preserved c =
    let a = c.args in
    let l = c.loop-b in
    let m : a.at + a.n - a.at ≡ a.n = omega arith in
    let h : l.b-index < a.n = omega (arith, length_part a.s.now a.at (a.at + a.n - a.at) (omega arith)) in
    rw (m, get_or-take a.n (drop a.at a.s.now) l.b-index 0 h, get_or-drop a.at a.s.now l.b-index 0)
    (gathered-byte a.s.now a.at a.n l.set l.b-index l.invariant h)

pub returns : goal.returns
unfolding part
returns c =
    let a = c.args in
    let l = c.loop-b in
    gathered-all a.s.now a.at a.n l.set l.b-index l.invariant (omega (arith, length_part a.s.now a.at (a.at + a.n - a.at) (omega arith)))
