use Rattle.std.specs.Prelude.{◌≡◌, ℕ, ◌<◌, Bool, true, false, not, eqb, is_some, Option, Some, None}
use mathlib.Core.Path.{sym}
use native.Mathlib.Omega.{arith}
use borrow.Author.Tests.{eq-eqb, ne_eqb}
use lib.Bits.{bit_and, and_le_l}
use Rattle.rules.specs.Machine.{lowest_held}
use Rattle.rules.specs.declared.sorts.Lock.{Lock}
use Rattle.bytes_lock_set.specs.Lowest.{lowest_by, lowest-none, lowest-some}
use Rattle.check_locks.proofs.locks.none_in_both.Goals as goal

none-is : (set : ℕ) → set < 65536 → (r : Option Lock) → r ≡ lowest_by (lowest_held set) → (t : Bool) → is_some r ≡ not t → t ≡ eqb set 0
none-is set h None e true k = sym (eq-eqb set 0 (lowest-none set h (sym e)))
none-is set h (Some l) e false k = sym (ne_eqb set 0 (lowest-some set l (sym e)))
none-is set h None e false k = cc
none-is set h (Some l) e true k = cc

pub returns : goal.returns
returns c =
    let a = c.args in
    none-is (bit_and a.a a.b) (omega (arith, and_le_l a.a a.b)) c.lowest_held.result c.lowest_held.ensures c.is_none.result
    c.is_none.ensures
