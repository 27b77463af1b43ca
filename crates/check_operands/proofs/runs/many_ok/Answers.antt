use Rattle.std.proofs.Common.{Fits, w8, ℕ, ◌<◌, get_or, refl, arith, rules}
use Rattle.bytes_fields.specs.Tests.{or-none}
use Rattle.check_operands.proofs.Places.{whole_run, other-runs}
use Rattle.check_operands.proofs.runs.many_ok.Goals as goal

pub returns : goal.returns
returns c =
    let bytes : (i : ℕ) → get_or c.args.r.now i 0 < 256 =
    λ i. let f : Fits w8 (get_or c.args.r.now i 0) = search rules in omega (arith, f) in
    rw (
      or-none,
      c.wrong_run-first.ensures,
      c.wrong_rest.ensures,
      c.end_of-end.ensures,
      whole_run c.args.r.now bytes _ refl c.requires.0,
    )
    (other-runs c.args.r.now bytes _ refl)
