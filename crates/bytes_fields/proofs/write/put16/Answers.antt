use Rattle.std.specs.Prelude.{◌≡◌, refl, ◌+◌, ◌-◌, ◌/◌, ◌%◌}
use native.Mathlib.Omega.{arith}
use Rattle.bytes_fields.specs.Put.{put_over}
use Rattle.bytes_fields.proofs.write.put16.Goals as goal

pub returns : goal.returns
returns c =
    let a = c.args in
    let n : a.at + 2 - a.at ≡ 2 = omega arith in
    let high : a.v / 256 % 256 ≡ a.v / 256 = omega arith in
    rw (n, c.copy_from_slice.ensures.after, c.to_le_bytes.ensures, high) (put_over a.s.now a.at 2 _ refl (omega arith))
