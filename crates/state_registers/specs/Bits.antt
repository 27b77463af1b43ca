-- The set of the low bits, a set joined with it, a set with one bit as in another, and sets with the same low bits.
use Rattle.std.specs.Prelude.{◌≡◌, refl, ◌≢◌, true, false, cond, ℕ, zero, suc, ◌+◌, ◌*◌, ◌-◌, ◌/◌, ◌%◌, ◌^◌, ◌≤◌, ◌<◌, eqb}
use Rattle.std.proofs.Common.{sym, ap, ◌∙◌, pow-suc, arith, pow_mono, pow_pos}
use Rattle.std.proofs.Math.Nat.{div-eq_of_lt, mod-one}
use Rattle.std.specs.Int.Bits.{bit_and, bit_or, bit_xor, differ}
use Rattle.std.proofs.Math.Pow.{high, ones_lt, ones_split}
use Rattle.std.proofs.lemmas.Nat.{mod-pow-add}
use Rattle.rules.specs.Bytes.{has}
use Rattle.lemmas_rules.specs.Sets.{bit-and, bit-or, bit-xor, bit-same, bit-other, or_same, or-other}

pub ones_bit : (i k : ℕ) → i < k → (2 ^ k - 1) / 2 ^ i % 2 ≡ 1
ones_bit i k h =
    let e : k ≡ suc (k - i - 1) + i = omega arith in
    let s : 2 ^ (suc (k - i - 1) + i) - 1 ≡ (2 ^ suc (k - i - 1) - 1) * 2 ^ i + (2 ^ i - 1) = ones_split (suc (k - i - 1)) i in
    let d : (2 ^ k - 1) / 2 ^ i ≡ 2 ^ suc (k - i - 1) - 1 = ap (λ n. (2 ^ n - 1) / 2 ^ i) e
    ∙ rw s (high (2 ^ suc (k - i - 1) - 1) i (ones_lt i)) in
    rw d (omega (arith, pow-suc 2 (k - i - 1), pow_pos (k - i - 1)))

pub ones_none : (i k : ℕ) → k ≤ i → (2 ^ k - 1) / 2 ^ i % 2 ≡ 0
ones_none i k h =
    let l : 2 ^ k - 1 < 2 ^ i = omega (arith, pow_pos k, pow_mono h) in
    rw (div-eq_of_lt l) refl

-- the low k bits
pub has-low : (k i : ℕ) → i < k → has i (2 ^ k - 1) ≡ true
has-low k i h = rw (ones_bit i k h)

pub has-high : (k i : ℕ) → k ≤ i → has i (2 ^ k - 1) ≡ false
has-high k i h = rw (ones_none i k h)

-- the low k bits are set, and the others stay
pub has-or-low : (p k i : ℕ) → i < k → has i (bit_or p (2 ^ k - 1)) ≡ true
has-or-low p k i h = let e : bit_or p (2 ^ k - 1) / 2 ^ i % 2 ≡ 1 = omega (arith, bit-or p (2 ^ k - 1) i, ones_bit i k h) in rw e

pub has-or-high : (p k i : ℕ) → k ≤ i → has i (bit_or p (2 ^ k - 1)) ≡ has i p
has-or-high p k i h = let e : bit_or p (2 ^ k - 1) / 2 ^ i % 2 ≡ p / 2 ^ i % 2 = omega (arith, bit-or p (2 ^ k - 1) i, ones_none i k h)
    in rw e

-- ---- one bit as in another set

-- p with bit r as in q
abbrev pub with_bit : ℕ → ℕ → ℕ → ℕ
with_bit r q p = bit_or (bit_xor (bit_or p (2 ^ r)) (2 ^ r)) (bit_and q (2 ^ r))

pub with-bit-same : (r q p : ℕ) → has r (with_bit r q p) ≡ has r q
with-bit-same r q p =
    let x : bit_xor (bit_or p (2 ^ r)) (2 ^ r) / 2 ^ r % 2 ≡ 0 = bit-xor (bit_or p (2 ^ r)) (2 ^ r) r ∙ rw (or_same p r, bit-same r) in
    let e : with_bit r q p / 2 ^ r % 2 ≡ q / 2 ^ r % 2 =
    omega (arith, bit-or (bit_xor (bit_or p (2 ^ r)) (2 ^ r)) (bit_and q (2 ^ r)) r, bit-and q (2 ^ r) r, bit-same r) in
    rw e

pub with-bit-other : (l r q p : ℕ) → l ≢ r → has l (with_bit r q p) ≡ has l p
with-bit-other l r q p h =
    let z : 2 ^ r / 2 ^ l % 2 ≡ 0 = bit-other l r h in
    let x : bit_xor (bit_or p (2 ^ r)) (2 ^ r) / 2 ^ l % 2 ≡ p / 2 ^ l % 2 = bit-xor (bit_or p (2 ^ r)) (2 ^ r) l
    ∙ rw (z, or-other p l r h) (differ-zero _) in
    let e : with_bit r q p / 2 ^ l % 2 ≡ p / 2 ^ l % 2 =
    omega (arith, bit-or (bit_xor (bit_or p (2 ^ r)) (2 ^ r)) (bit_and q (2 ^ r)) l, bit-and q (2 ^ r) l) in
    rw e
  where
    differ-zero : (x : ℕ) → differ x 0 ≡ x
    differ-zero zero = refl
    differ-zero (suc x) = refl

-- ---- sets with the same low bits

bit-as-test : (x : ℕ) → x < 2 → x ≡ cond (eqb x 1) 1 0
bit-as-test zero h = refl
bit-as-test (suc zero) h = refl
bit-as-test (suc (suc x)) h = absurd (omega arith)

pub same_bits : (n a b : ℕ) → ((r : ℕ) → r < n → has r a ≡ has r b) → a % 2 ^ n ≡ b % 2 ^ n
same_bits zero a b h = mod-one a ∙ sym (mod-one b)
same_bits (suc n) a b h =
    let e : a / 2 ^ n % 2 ≡ b / 2 ^ n % 2 =
    bit-as-test (a / 2 ^ n % 2) (omega arith) ∙ ap (λ t. cond t 1 0) (h n (omega arith))
    ∙ sym (bit-as-test (b / 2 ^ n % 2) (omega arith)) in
    let s : suc n ≡ 1 + n = omega arith in
    rw s (mod-pow-add a 1 n ∙ rw (e, same_bits n a b (λ r k. h r (omega arith))) (sym (mod-pow-add b 1 n)))
