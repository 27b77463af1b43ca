use Rattle.std.specs.Prelude.{◌≡◌, refl, ◌+◌, ◌*◌, ◌/◌}
use native.Mathlib.Omega.{arith}
use lib.Bits.{bit_or}
use Rattle.bytes_fields.specs.Tests.{last_sixteen, last_none, halved_none, halved-eight, halved-all}
use Rattle.bytes_fields.proofs.read.all_zero.Goals as goal

pub loop-k-init : goal.loop-k-init
loop-k-init c =
    let a = c.args in
    let s = a.s.now in
    halved_none s a.at (a.n / 16 * 8) (last_sixteen s a.at a.n) (bit_or c.get64.result c.get64-2.result)
    (last_none s a.at a.n (omega arith) c.get64.ensures c.get64-2.ensures)

pub loop-k-preserved : goal.loop-k-preserved
loop-k-preserved c =
    let a = c.args in
    let l = c.loop-k in
    let e : 8 * (l.k + 1) ≡ 8 * l.k + 8 = omega arith in
    rw e
    (halved-eight a.s.now a.at (a.n / 16 * 8) (last_sixteen a.s.now a.at a.n) l.set (8 * l.k) c.get64-set.result
    c.get64-set-in-loop-k.result
    l.invariant (omega arith) c.get64-set.ensures c.get64-set-in-loop-k.ensures)

pub returns : goal.returns
returns c =
    let a = c.args in
    let l = c.loop-k in
    halved-all a.s.now a.at a.n (a.n / 16 * 8) l.set (8 * l.k) (omega arith) refl (omega arith) l.invariant
