-- The first refusal of a list.
use Rattle.std.specs.Prelude.{◌≡◌, refl, Bool, true, false, cond, List, [], ◌∷◌, ◌++◌, ℕ, zero, suc, eqb}
use Rattle.std.proofs.Common.{sym, ◌∙◌, arith, eq-eqb, ne_eqb}
use Rattle.std.proofs.Math.Decide.{ℕ_discrete}
use Rattle.rules.specs.Check.{first_refusal}

-- it applies, or the rest decides
pub found : (x : ℕ) (xs : List ℕ) → (x ≡ 0 → ⊥) → first_refusal (x ∷ xs) ≡ x
unfolding first_refusal
found x xs h = rw (ne_eqb x 0 h)

pub passed : (x : ℕ) (xs : List ℕ) → x ≡ 0 → first_refusal (x ∷ xs) ≡ first_refusal xs
unfolding first_refusal
passed x xs h = rw (eq-eqb x 0 h)

pub last : (x : ℕ) → first_refusal (x ∷ []) ≡ x
unfolding first_refusal
last zero = refl
last (suc x) = rw (ne_eqb (suc x) 0 (λ e. omega arith))

-- the refusals of one list, and after them those of another
then : (xs ys : List ℕ) → first_refusal (xs ++ ys) ≡ cond (eqb (first_refusal xs) 0) (first_refusal ys) (first_refusal xs)
unfolding first_refusal
then [] ys = refl
then (x ∷ xs) ys = go (eqb x 0) refl (then xs ys)
  where
    go : (t : Bool) → eqb x 0 ≡ t → first_refusal (xs ++ ys) ≡ cond (eqb (first_refusal xs) 0) (first_refusal ys) (first_refusal xs)
        → cond t (first_refusal (xs ++ ys)) x ≡ cond (eqb (cond t (first_refusal xs) x) 0) (first_refusal ys) (cond t (first_refusal xs) x)
    go true e r = r
    go false e r = rw e

-- one of the refusals xs applies, or ys decide
module _ (xs ys : List ℕ) where
  pub before : (first_refusal xs ≡ 0 → ⊥) → first_refusal (xs ++ ys) ≡ first_refusal xs
  before h = then xs ys ∙ rw (ne_eqb (first_refusal xs) 0 h)

  pub after : first_refusal xs ≡ 0 → first_refusal (xs ++ ys) ≡ first_refusal ys
  after h = then xs ys ∙ rw (eq-eqb (first_refusal xs) 0 h)

-- the first of some refusals, and then others
pub joined : (xs ys : List ℕ) → first_refusal (xs ++ ys) ≡ first_refusal (first_refusal xs ∷ ys)
joined xs ys = case (ℕ_discrete (first_refusal xs) 0)
  where
    case : Dec (first_refusal xs ≡ 0) → first_refusal (xs ++ ys) ≡ first_refusal (first_refusal xs ∷ ys)
    case (yes e) = after xs ys e ∙ sym (passed _ ys e)
    case (no n) = before xs ys n ∙ sym (found _ ys n)
