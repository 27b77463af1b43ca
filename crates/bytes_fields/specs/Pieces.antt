-- Tests of the pieces of a run of bytes, each where it stands.
use Rattle.std.specs.Prelude.{◌≡◌, Bool, ◌&&◌, List, [], ◌∷◌, map, drop}
use Rattle.std.proofs.Math.Path.{refl, ap}
use Rattle.std.proofs.Common.{sym, ◌∙◌, mul-add, mul-one, add_assoc, drop-drop}
use Rattle.std.proofs.Math.Bool.{and_assoc, and-true}
use Prim.Native.Nat.{ℕ, zero, suc, ◌+◌, ◌*◌, ◌-◌, ◌≤◌, ◌<◌}
use Rattle.std.proofs.Math.Nat.{sub-zero}
use native.Mathlib.Omega.{arith}
use Rattle.rules.specs.Bytes.{all_from, every, chunks}
use Rattle.bytes_fields.specs.Tests.{all-step, all_done}

-- A loop that goes through the places of a run: the outcome at its start, and the outcome so far.
abbrev pub Tested : Bool → (ℕ → Bool) → ℕ → ℕ → Bool → Type 0
Tested first f n i ok = (i ≤ n) × ((first && all_from f 0 n) ≡ (ok && all_from f i (n - i)))

module _ (first : Bool) (f : ℕ → Bool) (n : ℕ) where
  pub tested-none : Tested first f n 0 first
  tested-none = (omega arith, rw sub-zero)

  module _ (i : ℕ) (ok : Bool) (inv : Tested first f n i ok) where
    pub tested-next : (b : Bool) → i < n → b ≡ f i → Tested first f n (i + 1) (ok && b)
    tested-next b h e = (omega arith, inv.1 ∙ rw (all-step f n i h, e) (sym (and_assoc ok (f i) (all_from f (i + 1) (n - (i + 1))))))

    pub tested-all : n ≤ i → ok ≡ (first && all_from f 0 n)
    tested-all h = sym (inv.1 ∙ rw (all_done f n i (omega arith)) (and-true ok))

module _ {A : Type 0} (g : List ℕ → A) (k : ℕ) where
  pub next_place : (s : List ℕ) (b j : ℕ) → drop k (drop (b + k * j) s) ≡ drop (b + k * (j + 1)) s
  next_place s b j = drop-drop k (b + k * j) s ∙ rw (mul-add, mul-one, add_assoc)

  -- a piece, and the pieces after it
  pub chunk-step : (s : List ℕ) (b n j : ℕ) → j < n → chunks g k (n - j) (drop (b + k * j) s) ≡ g (drop (b + k * j) s) ∷ chunks g k
      (n - (j + 1)) (drop (b + k * (j + 1)) s)
  unfolding chunks
  chunk-step s b n j h = let e : n - j ≡ suc (n - (j + 1)) = omega arith in rw (e, next_place s b j)

  pub chunk-done : (s : List ℕ) (n j : ℕ) → n - j ≡ 0 → chunks g k (n - j) s ≡ []
  unfolding chunks
  chunk-done s n j e = rw e

  -- a test of every piece is a test of the places
  pub every-chunk : (ok : A → Bool) (s : List ℕ) (b j n : ℕ) → every ok (chunks g k n (drop (b + k * j) s))
      ≡ all_from (λ i. ok (g (drop (b + k * i) s))) j n
  unfolding every chunks all_from
  every-chunk ok s b j zero = refl
  every-chunk ok s b j (suc n) = rw (next_place s b j, every-chunk ok s b (j + 1) n)

  -- what h makes of every piece
  pub map-chunks : {B : Type 0} (h : A → B) (n : ℕ) (s : List ℕ) → map h (chunks g k n s) ≡ chunks (λ b. h (g b)) k n s
  unfolding chunks
  map-chunks h zero s = refl
  map-chunks h (suc n) s = ap (λ l. h (g s) ∷ l) (map-chunks h n (drop k s))
