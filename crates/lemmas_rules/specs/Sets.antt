-- Sets of numbers, bit l for number l: the empty set has none; a number that is added is in it, and adding it changes nothing for the
-- others.
use Rattle.std.specs.Prelude.{◌≡◌, refl, ◌≢◌, true, false, ◌||◌, ℕ, zero, suc, ◌+◌, ◌-◌, ◌/◌, ◌%◌, ◌^◌, min, max, ◌<◌, eqb}
use Rattle.std.proofs.Common.{sym, ap, ◌∙◌, one-mul, arith, pow_pos, pow-add, eq-eqb, ne_eqb, eqb-true}
use Rattle.std.proofs.Math.Bool.{or-true, or-false}
use Rattle.std.proofs.Math.Nat.{div-eq_of_lt}
use Rattle.std.proofs.Math.Decide.{dec_lt, ℕ_discrete}
use Rattle.std.proofs.Math.Pow.{pow-lt}
use Rattle.std.proofs.lemmas.Nat.{shl-shr, and_shr, or_shr, xor_shr}
use Rattle.std.specs.Int.Bits.{bit_and, bit_or, bit_xor, differ, and_step, or_step, xor_step, shifted_even, or_add_and}
use Rattle.std.proofs.lemmas.Nat.Bits.{and_high}
use Rattle.rules.specs.Bytes.{has}

-- bit l of a number
abbrev bit : ℕ → ℕ → ℕ
bit n l = n / 2 ^ l % 2

pub bit-and : (a b l : ℕ) → bit (bit_and a b) l ≡ min (bit a l) (bit b l)
bit-and a b l = rw (and_shr a b l) (omega (arith, and_step (a / 2 ^ l) (b / 2 ^ l)))

pub bit-or : (a b l : ℕ) → bit (bit_or a b) l ≡ max (bit a l) (bit b l)
bit-or a b l = rw (or_shr a b l) (omega (arith, or_step (a / 2 ^ l) (b / 2 ^ l)))

differ-lt : (x y : ℕ) → x < 2 → y < 2 → differ x y < 2
differ-lt zero y h k = k
differ-lt (suc x) zero h k = h
differ-lt (suc x) (suc y) h k = differ-lt x y (omega arith) (omega arith)

pub bit-xor : (a b l : ℕ) → bit (bit_xor a b) l ≡ differ (bit a l) (bit b l)
bit-xor a b l =
    rw (xor_shr a b l)
    (omega (arith, xor_step (a / 2 ^ l) (b / 2 ^ l), differ-lt (bit a l) (bit b l) (omega arith) (omega arith)))

bit-lt : (n l : ℕ) → bit n l < 2
bit-lt n l = omega arith

bit-zero : (l : ℕ) → bit 0 l ≡ 0
bit-zero l = rw (div-eq_of_lt (pow_pos l))

pub bit-same : (l : ℕ) → bit (2 ^ l) l ≡ 1
bit-same l = let e : 2 ^ l / 2 ^ l ≡ 1 = rw one-mul at (shl-shr 1 l) in rw e

high_bit : (k l : ℕ) → 2 ^ (suc k + l) / 2 ^ l % 2 ≡ 0
high_bit k l = rw (pow-add 2 (suc k) l, shl-shr (2 ^ suc k) l, ← one-mul (2 ^ suc k)) (shifted_even 1 k)

pub bit-other : (l m : ℕ) → l ≢ m → bit (2 ^ m) l ≡ 0
bit-other l m h = go (dec_lt m l)
  where
    go : Dec (m < l) → 2 ^ m / 2 ^ l % 2 ≡ 0
    go (yes k) = rw (div-eq_of_lt (pow-lt k))
    go (no k) =
        let e : m ≡ suc (m - l - 1) + l = omega arith in
        ap (λ n. 2 ^ n / 2 ^ l % 2) e ∙ high_bit (m - l - 1) l

pub or_same : (a l : ℕ) → bit (bit_or a (2 ^ l)) l ≡ 1
or_same a l = omega (arith, bit-or a (2 ^ l) l, bit-same l, bit-lt a l)

pub or-other : (a l m : ℕ) → l ≢ m → bit (bit_or a (2 ^ m)) l ≡ bit a l
or-other a l m h = omega (arith, bit-or a (2 ^ m) l, bit-other l m h)

pub has-none : (l : ℕ) → has l 0 ≡ false
has-none l = ap (λ (n : ℕ). eqb n 1) (bit-zero l)

pub has_same : (l set : ℕ) → has l (bit_or set (2 ^ l)) ≡ true
has_same l set = ap (λ (n : ℕ). eqb n 1) (or_same set l)

pub has_other : (l m set : ℕ) → l ≢ m → has l (bit_or set (2 ^ m)) ≡ has l set
has_other l m set h = ap (λ (n : ℕ). eqb n 1) (or-other set l m h)

-- a number that is in a set is in it once: adding it again changes nothing
pub has-again : (l set : ℕ) → has l set ≡ true → bit_or set (2 ^ l) ≡ set
has-again l set h =
    let one : 2 ^ (1 + l) - 2 ^ l ≡ 2 ^ l = omega (arith, pow-add 2 1 l) in
    let here : bit set l ≡ 1 = eqb-true (bit set l) 1 h in
    let both : bit_and set (2 ^ l) ≡ 2 ^ l = rw (← one) (and_high set 1 l ∙ rw (here, one, one-mul)) in
    omega (arith, or_add_and set (2 ^ l))

-- what a set has with one number more
pub has-with : (l m set : ℕ) → has l (bit_or set (2 ^ m)) ≡ (has l set || eqb m l)
has-with l m set = case (ℕ_discrete l m)
  where
    case : Dec (l ≡ m) → has l (bit_or set (2 ^ m)) ≡ (has l set || eqb m l)
    case (yes e) = rw (e, has_same m set, eq-eqb m m refl) (sym (or-true (has m set)))
    case (no e) = rw (has_other l m set e, ne_eqb m l (λ k. e (sym k))) (sym (or-false (has l set)))
