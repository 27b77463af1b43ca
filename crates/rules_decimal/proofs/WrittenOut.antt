-- What packing, unpacking and adding come to for four digits a, b, c and d, the highest first, with the worth of each place written out.
use Rattle.std.specs.Prelude.{◌≡◌, refl, ◌⊎◌, true, false, List, [], ◌∷◌, ℕ, ◌+◌, ◌*◌, ◌%◌, ◌<◌}
use Rattle.std.proofs.Common.{sym, ap, ap₂, ◌∙◌, inl, inr, arith, lt-ltb, le-ltb}
use Rattle.std.proofs.Math.Bool.{and-false}
use Rattle.rules_decimal.specs.Digits.{number, below}
use Rattle.rules_decimal.specs.Packed.{pack, packed, unpack, sum}
use Rattle.rules_decimal.specs.DigitLaws.{below-larger}
use Rattle.rules_decimal.proofs.PackedLaws.{packs-digits, unpacks-digits, packed-digits, sum-packs}
use Rattle.rules_decimal.specs.WrittenOut.{Below, decimal, in_bits}

module _ (a b c d : ℕ) where
  abbrev ds : List ℕ
  ds = d ∷ c ∷ b ∷ a ∷ []

  in-decimal : number 10 ds ≡ decimal a b c d
  in-decimal = omega arith

  in-bits : number 16 ds ≡ in_bits a b c d
  in-bits = omega arith

  all-below : (n : ℕ) → Below n a b c d → below n ds ≡ true
  all-below n h = rw (lt-ltb d n h.ones, lt-ltb c n h.tens, lt-ltb b n h.hundreds, lt-ltb a n h.thousands) refl

  pub packs : Below 10 a b c d → pack 4 (decimal a b c d) ≡ in_bits a b c d
  packs h = ap (pack 4) (sym in-decimal) ∙ packs-digits ds (all-below 10 h) ∙ in-bits

  pub unpacks : Below 10 a b c d → unpack 4 (in_bits a b c d) ≡ decimal a b c d
  unpacks h = ap (unpack 4) (sym in-bits) ∙ unpacks-digits ds (below-larger (omega arith) ds (all-below 10 h)) ∙ in-decimal

  pub all-decimal : Below 10 a b c d → packed 4 (in_bits a b c d) ≡ true
  all-decimal h =
      ap (packed 4) (sym in-bits) ∙ packed-digits ds (below-larger (omega arith) ds (all-below 10 h)) ∙ all-below 10 h

  pub one-above : Below 16 a b c d → (9 < a) ⊎ (9 < b) ⊎ (9 < c) ⊎ (9 < d) → packed 4 (in_bits a b c d) ≡ false
  one-above h above = ap (packed 4) (sym in-bits) ∙ packed-digits ds (all-below 16 h) ∙ place above
    where
      place : (9 < a) ⊎ (9 < b) ⊎ (9 < c) ⊎ (9 < d) → below 10 ds ≡ false
      place (inl k) = rw (le-ltb a 10 k, and-false, and-false, and-false) refl
      place (inr (inl k)) = rw (le-ltb b 10 k, and-false, and-false) refl
      place (inr (inr (inl k))) = rw (le-ltb c 10 k, and-false) refl
      place (inr (inr (inr k))) = rw (le-ltb d 10 k) refl

-- the digits of the sum are those of the sum of the numbers, of which 10,000 is left out as often as it goes
pub adds : (a b c d e f g h i j k l m : ℕ) → Below 10 a b c d → Below 10 e f g h → Below 10 i j k l
    → decimal a b c d + decimal e f g h ≡ decimal i j k l + 10000 * m → sum 4 (in_bits a b c d) (in_bits e f g h) ≡ in_bits i j k l
adds a b c d e f g h i j k l m x y z total =
    let rest : (decimal a b c d + decimal e f g h) % 10000 ≡ decimal i j k l =
    let p = z.thousands in
    let q = z.hundreds in
    let r = z.tens in
    let s = z.ones in
    omega arith in
    sum-packs 4 (in_bits a b c d) (in_bits e f g h)
    ∙ ap (λ (n : ℕ). pack 4 (n % 10000)) (ap₂ ◌+◌ (unpacks a b c d x) (unpacks e f g h y))
    ∙ ap (pack 4) rest
    ∙ packs i j k l z
