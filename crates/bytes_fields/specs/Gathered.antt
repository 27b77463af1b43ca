-- A loop that gathers the bits of numbers, and a test of all the bits together: it says what the tests of the numbers say one by one.
use Rattle.std.specs.Prelude.{◌≡◌, Bool, true, ◌&&◌, ℕ, ◌+◌, ◌-◌, ◌≤◌, ◌<◌}
use Rattle.std.proofs.Common.{sym, ◌∙◌, arith}
use Rattle.std.proofs.Math.Bool.{and_assoc, and-true}
use Rattle.std.proofs.Math.Nat.{sub-zero}
use Rattle.std.specs.Int.Bits.{bit_or}
use Rattle.rules.specs.Bytes.{all_from}
use Rattle.bytes_fields.specs.Tests.{all-step, all_done}

-- the bits seen before k pass the test t, and the test f holds from k on, exactly where f holds of all n
abbrev pub Gathered : (ℕ → Bool) → (ℕ → Bool) → ℕ → ℕ → ℕ → Type 0
Gathered t f n seen k = (k ≤ n) × (all_from f 0 n ≡ (t seen && all_from f k (n - k)))

module _ (t f : ℕ → Bool) (n : ℕ) where
  pub begin : t 0 ≡ true → Gathered t f n 0 0
  begin e = (omega arith, rw (sub-zero, e))

  module _ (seen k : ℕ) (inv : Gathered t f n seen k) where
    pub next : (x : ℕ) → k < n → t (bit_or seen x) ≡ (t seen && t x) → t x ≡ f k → Gathered t f n (bit_or seen x) (k + 1)
    next x h both e = (omega arith, inv.1 ∙ rw (all-step f n k h, both, e) (sym (and_assoc (t seen) (f k) _)))

    pub end : n ≤ k → t seen ≡ all_from f 0 n
    end h = sym (inv.1 ∙ rw (all_done f n k (omega arith)) (and-true (t seen)))
