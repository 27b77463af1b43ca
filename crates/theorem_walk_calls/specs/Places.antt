-- Lists of threads, place by place: a trail of waits, a list with none twice, and where a member stands.
use Rattle.std.specs.Prelude.{◌≡◌, refl, ◌≢◌, ◌⊎◌, ℕ, zero, suc, ◌<◌, length, get_or}
use Rattle.std.proofs.Common.{sym, ap, inl, inr, arith}
use Rattle.std.proofs.Math.Option.{Option, some}
use mathlib.Core.List.Memᴰ
use mathlib.Core.List.{List, [], ◌∷◌, Memᴰ}
use Rattle.lemmas_walk.specs.Distinct.{Distinct}
use Rattle.lemmas_walk.specs.Walked.{Trail}

-- a member stands at a place, and what stands at a place is a member
pub place_of : (u : ℕ) (l : List ℕ) → Memᴰ u l → (i : ℕ) × (i < length l) × (u ≡ get_or l i 0)
place_of u [] m = absurd (Memᴰ.not-nil m)
place_of u (x ∷ l) m = case (Memᴰ.cases_cons m) (place_of u l)
  where
    case : (u ≡ x) ⊎ Memᴰ u l → (Memᴰ u l → (i : ℕ) × (i < length l) × (u ≡ get_or l i 0))
        → (i : ℕ) × (i < length (x ∷ l)) × (u ≡ get_or (x ∷ l) i 0)
    case (inl e) ih = (zero, omega arith, e)
    case (inr k) ih = let r = ih k in (suc r.0, omega (arith, r.1), r.2)

pub member-at : (l : List ℕ) (i : ℕ) → i < length l → Memᴰ (get_or l i 0) l
member-at [] i h = absurd (omega arith)
member-at (x ∷ l) zero h = Memᴰ.head refl
member-at (x ∷ l) (suc i) h = Memᴰ.tail (member-at l i (omega arith))

pub distinct-at : (l : List ℕ) → Distinct l → (i k : ℕ) → i < length l → k < length l → i ≢ k → get_or l i 0 ≢ get_or l k 0
distinct-at [] d i k hi hk n e = absurd (omega arith)
distinct-at (x ∷ l) d zero zero hi hk n e = n refl
distinct-at (x ∷ l) d zero (suc k) hi hk n e = d.0 (rw e (member-at l k (omega arith)))
distinct-at (x ∷ l) d (suc i) zero hi hk n e = d.0 (rw (sym e) (member-at l i (omega arith)))
distinct-at (x ∷ l) d (suc i) (suc k) hi hk n e = distinct-at l d.1 i k (omega arith) (omega arith) (λ q. n (ap suc q)) e

module _ (next : ℕ → Option ℕ) where
  pub trail-first : (o e : Option ℕ) (l : List ℕ) → Trail next o l e → 0 < length l → o ≡ some (get_or l 0 0)
  trail-first o e [] k h = absurd (omega arith)
  trail-first o e (x ∷ l) k h = k.0

  pub trail-next : (o e : Option ℕ) (l : List ℕ) → Trail next o l e → (i : ℕ) → suc i < length l
      → next (get_or l i 0) ≡ some (get_or l (suc i) 0)
  trail-next o e [] k i h = absurd (omega arith)
  trail-next o e (x ∷ l) k zero h = trail-first (next x) e l k.1 (omega arith)
  trail-next o e (x ∷ l) k (suc i) h = trail-next (next x) e l k.1 i (omega arith)

  pub trail-last : (o e : Option ℕ) (l : List ℕ) → Trail next o l e → (i : ℕ) → suc i ≡ length l → next (get_or l i 0) ≡ e
  trail-last o e [] k i h = absurd (omega arith)
  trail-last o e (x ∷ []) k zero h = k.1
  trail-last o e (x ∷ []) k (suc i) h = absurd (omega arith)
  trail-last o e (x ∷ y ∷ l) k zero h = absurd (omega arith)
  trail-last o e (x ∷ y ∷ l) k (suc i) h = trail-last (next x) e (y ∷ l) k.1 i (omega arith)
