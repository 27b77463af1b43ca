-- The lowest lock of a set, as the code has it.
use Rattle.std.specs.Prelude.{◌≡◌, refl, ℕ, ◌<◌, Option, Some, None}
use Rattle.std.proofs.Common.{ap, ◌∙◌, arith}
use Rattle.std.proofs.Math.Option as maybe
use Rattle.std.proofs.Math.Option.{none, some}
use Rattle.rules.specs.Machine.{lowest_held}
use Rattle.rules.specs.Sorts.{lock}
use Rattle.rules.specs.declared.sorts.Lock.{Lock}
use Rattle.bytes_lock_set.specs.Sets.{none-lowest, empty-lowest}

abbrev pub lowest_by : maybe.Option ℕ → Option Lock
lowest_by none = None
lowest_by (some l) = Some (lock l)

by-none : (x : maybe.Option ℕ) → lowest_by x ≡ None → x ≡ none
by-none none e = refl
by-none (some l) e = absurd (let z : ◌≡◌ {A = ℕ} 0 1 = cc in omega arith)

-- a set has no lowest lock exactly if it is empty
module _ (set : ℕ) where
  pub lowest-none : set < 65536 → lowest_by (lowest_held set) ≡ None → set ≡ 0
  lowest-none h e = none-lowest set h (by-none (lowest_held set) e)

  pub lowest-some : (l : Lock) → lowest_by (lowest_held set) ≡ Some l → set ≡ 0 → ⊥
  lowest-some l e q =
      let f : lowest_by (lowest_held set) ≡ None = ap (λ n. lowest_by (lowest_held n)) q ∙ ap lowest_by empty-lowest in
      let z : ◌≡◌ {A = ℕ} 0 1 = cc in
      omega arith
