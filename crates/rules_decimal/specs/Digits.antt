-- Numbers as digits in a base, the lowest digit first.
use Rattle.std.specs.Prelude.{Bool, true, ◌&&◌, List, [], ◌∷◌, ℕ, zero, suc, ◌+◌, ◌*◌, ◌/◌, ◌%◌, ltb}

-- the n lowest digits of x in base b
abbrev pub digits : ℕ → ℕ → ℕ → List ℕ
digits b zero x = []
digits b (suc n) x = x % b ∷ digits b n (x / b)

-- the number that digits stand for
abbrev pub number : ℕ → List ℕ → ℕ
number b [] = 0
number b (d ∷ ds) = number b ds * b + d

-- every digit is below b
abbrev pub below : ℕ → List ℕ → Bool
below b [] = true
below b (d ∷ ds) = ltb d b && below b ds

-- as many digits are added, with the carry c into the lowest; the carry out of the highest is lost
abbrev pub sums : ℕ → ℕ → List ℕ → List ℕ → List ℕ
sums b c [] es = []
sums b c (d ∷ ds) [] = []
sums b c (d ∷ ds) (e ∷ es) = (d + e + c) % b ∷ sums b ((d + e + c) / b) ds es
