use Rattle.std.specs.Prelude.{◌≡◌, ◌+◌, ◌-◌}
use Rattle.std.proofs.Common.{◌∙◌}
use native.Mathlib.Omega.{arith}
use Rattle.rules.specs.Bytes.{part}
use Rattle.bytes_fields.specs.Put.{put, put_then, put_pasted, length_part}
use Rattle.bytes_fields.proofs.write.remove.Goals as goal

pub returns : goal.returns
unfolding part
returns c =
    let a = c.args in
    let n : a.at + a.n + a.more - (a.at + a.n) ≡ a.more = omega arith in
    let l = length_part a.s.now (a.at + a.n) a.more (omega arith) in
    let moved : c.copy_within.new.self ≡ put a.s.now a.at (part a.s.now (a.at + a.n) a.more) =
    c.copy_within.ensures.after ∙ rw n (put_pasted a.s.now a.at a.more _ l (omega arith)) in
    put_then _ _ _ _ _ moved c.clear.ensures (omega (arith, l))
