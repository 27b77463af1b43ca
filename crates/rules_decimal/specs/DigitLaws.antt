-- What holds of digits, over any base and any count of them.
use Rattle.std.specs.Prelude.{◌≡◌, refl, Bool, true, false, ◌&&◌, List, [], ◌∷◌, ℕ, zero, suc, ◌+◌, ◌*◌, ◌/◌, ◌%◌, ◌^◌, ◌<◌}
use Rattle.std.specs.Prelude.{◌≤◌, ltb, length}
use Rattle.std.proofs.Common.{sym, ap, pow-suc, mod-lt, add-mul, arith, lt-ltb, ltb-true}
use Rattle.std.proofs.lemmas.Bool.{false≢true}
use Rattle.std.proofs.Math.Nat.{pow-zero, mod-one, mul-add-div_right, mul-add-mod_self_right, one-le-pow}
use Rattle.std.proofs.Math.Arith.{digits_lt, digits_div, digits_mod, mod-mul}
use Rattle.rules_decimal.specs.Digits.{digits, number, below, sums}

pub and_both : (s t : Bool) → s && t ≡ true → (s ≡ true) × (t ≡ true)
and_both true t h = (refl, h)
and_both false t h = absurd (false≢true h)

-- of digits below b, the lowest and the others
pub parts : (b d : ℕ) (ds : List ℕ) → below b (d ∷ ds) ≡ true → (d < b) × (below b ds ≡ true)
parts b d ds h =
    let p = and_both (ltb d b) (below b ds) h in
    (ltb-true d b p.0, p.1)

-- digits below one base are below a larger one
pub below-larger : {a b : ℕ} → a ≤ b → (ds : List ℕ) → below a ds ≡ true → below b ds ≡ true
below-larger h [] e = refl
below-larger {a} {b} h (d ∷ ds) e =
    let p = parts a d ds e in
    let k = p.0 in
    rw (lt-ltb d b (omega arith)) (below-larger h ds p.1)

module _ (b : ℕ) where
  -- digits below b are those of the number that they stand for, which is below the power of b by their count
  pub digits-of-number : (ds : List ℕ) → below b ds ≡ true → digits b (length ds) (number b ds) ≡ ds
  digits-of-number [] h = refl
  digits-of-number (d ∷ ds) h =
      let p = parts b d ds h in
      rw (digits_mod (number b ds) p.0, digits_div (number b ds) p.0, digits-of-number ds p.1)

  pub length_digits : (n x : ℕ) → length (digits b n x) ≡ n
  length_digits zero x = refl
  length_digits (suc n) x = ap suc (length_digits n (x / b))

  pub number-below : (ds : List ℕ) → below b ds ≡ true → number b ds < b ^ length ds
  number-below [] h = rw pow-zero (omega arith)
  number-below (d ∷ ds) h =
      let p = parts b d ds h in
      rw pow-suc (digits_lt (number-below ds p.1) p.0)

  pub length-sums : (c : ℕ) (ds es : List ℕ) → length ds ≡ length es → length (sums b c ds es) ≡ length ds
  length-sums c [] es h = refl
  length-sums c (d ∷ ds) [] h = absurd (omega arith)
  length-sums c (d ∷ ds) (e ∷ es) h = ap suc (length-sums ((d + e + c) / b) ds es (omega arith))

  module _ (positive : 0 < b) where
    pub digits-below : (n x : ℕ) → below b (digits b n x) ≡ true
    digits-below zero x = refl
    digits-below (suc n) x = rw (lt-ltb (x % b) b (mod-lt x positive)) (digits-below n (x / b))

    -- the n lowest digits of x stand for its remainder by b ^ n
    pub number-of-digits : (n x : ℕ) → number b (digits b n x) ≡ x % b ^ n
    number-of-digits zero x = rw (pow-zero, mod-one)
    number-of-digits (suc n) x =
        rw (number-of-digits n (x / b), pow-suc) (sym (mod-mul x (one-le-pow n b positive) positive))

    pub sums-below : (c : ℕ) (ds es : List ℕ) → below b (sums b c ds es) ≡ true
    sums-below c [] es = refl
    sums-below c (d ∷ ds) [] = refl
    sums-below c (d ∷ ds) (e ∷ es) =
        rw (lt-ltb ((d + e + c) % b) b (mod-lt (d + e + c) positive)) (sums-below ((d + e + c) / b) ds es)

    -- digits added with a carry stand for the sum of the numbers and the carry, modulo b ^ n
    pub number-of-sums : (c : ℕ) (ds es : List ℕ) → length ds ≡ length es
        → number b (sums b c ds es) ≡ (number b ds + number b es + c) % b ^ length ds
    number-of-sums c [] es h = rw (pow-zero, mod-one)
    number-of-sums c (d ∷ ds) [] h = absurd (omega arith)
    number-of-sums c (d ∷ ds) (e ∷ es) h =
        let t = d + e + c in
        let x = number b ds in
        let y = number b es in
        let whole : x * b + d + (y * b + e) + c ≡ (x + y) * b + t = omega (arith, add-mul x y b) in
        rw (
          number-of-sums (t / b) ds es (omega arith),
          pow-suc,
          whole,
          mod-mul ((x + y) * b + t) (one-le-pow (length ds) b positive) positive,
          mul-add-div_right positive (x + y) t,
          mul-add-mod_self_right (x + y) b t,
        )
        refl
