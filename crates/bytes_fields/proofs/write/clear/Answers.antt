use Rattle.std.specs.Prelude.{◌≡◌, ℕ, ◌+◌, ◌-◌}
use native.Mathlib.Omega.{arith}
use lib.ListN.{length-replicate}
use Rattle.rules.specs.Bytes.{part}
use Rattle.bytes_fields.specs.Put.{put_over, length_part}
use Rattle.bytes_fields.proofs.write.clear.Goals as goal

pub returns : goal.returns
unfolding part
returns c =
    let a = c.args in
    let n : a.at + a.n - a.at ≡ a.n = omega arith in
    rw (n, c.fill.ensures.after (λ y e. e), n, length_part a.s.now a.at a.n (omega arith))
    (put_over a.s.now a.at a.n _ (length-replicate {A = ℕ} a.n 0) (omega arith))
