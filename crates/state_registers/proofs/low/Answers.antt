use Prim.Native.Nat.{◌^◌, ◌<◌}
use native.Mathlib.Nat.{one-mul, mod-eq_of_lt}
use native.Mathlib.Omega.{arith}
use lib.Pow.{pow_mono, pow_pos}
use Rattle.state_registers.proofs.low.Goals as goal

small : (c : goal.Start) → 2 ^ c.args.count < 4294967296
small c = omega (arith, pow_mono c.requires)

pub overflow_sub-result : goal.overflow_sub-result
overflow_sub-result c = let h = small c in rw (one-mul, mod-eq_of_lt h) (omega (arith, pow_pos c.args.count))

pub returns : goal.returns
returns c = let h = small c in rw (one-mul, mod-eq_of_lt h)
