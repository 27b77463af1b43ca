-- Small facts of truth values and lists that every layer uses.
use Rattle.std.specs.Prelude.{◌≡◌, refl, ◌⊎◌, Bool, true, false, ◌&&◌, ◌||◌, ℕ, zero, suc, get_or, replicate}
use Rattle.std.proofs.Common.{inl, inr, arith}
use Rattle.std.proofs.lemmas.Bool.{false≢true}
pub use Rattle.rules_decimal.specs.DigitLaws.{and_both}

pub never : {A : Type 0} → ◌≡◌ {A = ℕ} 0 1 → A
never e = absurd (omega arith)

pub not-true : (b : Bool) → ¬ (b ≡ true) → b ≡ false
not-true true h = absurd (h refl)
not-true false h = refl

pub get_d-same : {A : Type 0} (a : A) (n t : ℕ) → get_or (replicate n a) t a ≡ a
get_d-same a zero t = refl
get_d-same a (suc n) zero = refl
get_d-same a (suc n) (suc t) = get_d-same a n t

pub or_cases : (a b : Bool) → a || b ≡ true → (a ≡ true) ⊎ (b ≡ true)
or_cases true b h = inl refl
or_cases false b h = inr h

pub both_hold : (a b : Bool) → a ≡ true → b ≡ true → a && b ≡ true
both_hold true b e f = f
both_hold false b e f = absurd (false≢true e)
