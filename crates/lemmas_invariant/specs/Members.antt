-- What holds of each element of a list, as a test and as a fact, and of a list's places.
use Rattle.std.specs.Prelude.{◌≡◌, Bool, true, ℕ, zero, suc, get_or, set}
use Rattle.std.proofs.Math.Path.{refl}
use Rattle.std.proofs.Common.{sym, ap, subst}
use mathlib.Core.List.Memᴰ
use mathlib.Core.List.{List, [], ◌∷◌, map, Memᴰ}
use Rattle.rules.specs.Bytes.{every}
use Rattle.bytes_fields.specs.Each.{Each}
use Rattle.lemmas_rules.specs.Logic.{and_both, both_hold}

module _ {A : Type 0} where
  pub each_member : (P : A → Type 0) (l : List A) → Each P l → (x : A) → Memᴰ x l → P x
  each_member P [] h x m = absurd (Memᴰ.not-nil m)
  each_member P (y ∷ l) h x (Memᴰ.head e) = subst P (sym e) h.0
  each_member P (y ∷ l) h x (Memᴰ.tail m) = each_member P l h.1 x m

  pub member-each : (P : A → Type 0) (l : List A) → ((x : A) → Memᴰ x l → P x) → Each P l
  member-each P [] h = tt
  member-each P (y ∷ l) h = (h y (Memᴰ.head refl), member-each P l (λ x m. h x (Memᴰ.tail m)))

  pub each_map : (P Q : A → Type 0) (l : List A) → ((x : A) → P x → Q x) → Each P l → Each Q l
  each_map P Q [] f h = tt
  each_map P Q (x ∷ l) f h = (f x h.0, each_map P Q l f h.1)

  -- a test of every element
  pub every-each : (ok : A → Bool) (l : List A) → every ok l ≡ true → Each (λ x. ok x ≡ true) l
  unfolding every
  every-each ok [] h = tt
  every-each ok (x ∷ l) h = let k = and_both (ok x) (every ok l) h in (k.0, every-each ok l k.1)

  pub each-every : (ok : A → Bool) (l : List A) → Each (λ x. ok x ≡ true) l → every ok l ≡ true
  unfolding every
  each-every ok [] h = refl
  each-every ok (x ∷ l) h = both_hold (ok x) (every ok l) h.0 (each-every ok l h.1)

  -- what holds at every place of a list holds after a change of one place that keeps it
  pub get_d_set : (d : A) (Q : ℕ → A → Type 0) (l : List A) (i : ℕ) (a : A) → ((k : ℕ) → Q k (get_or l k d)) → Q i a → (k : ℕ)
      → Q k (get_or (set l i a) k d)
  get_d_set d Q [] i a h q k = h k
  get_d_set d Q (x ∷ l) zero a h q zero = q
  get_d_set d Q (x ∷ l) zero a h q (suc k) = h (suc k)
  get_d_set d Q (x ∷ l) (suc i) a h q zero = h zero
  get_d_set d Q (x ∷ l) (suc i) a h q (suc k) = get_d_set d (λ j. Q (suc j)) l i a (λ j. h (suc j)) q k

module _ {A B : Type 0} (f : A → B) where
  pub member-map : (x : A) (l : List A) → Memᴰ x l → Memᴰ (f x) (map f l)
  member-map x [] x'' = elim x'' [ ]
  member-map x (y ∷ l) (Memᴰ.head e) = Memᴰ.head (ap f e)
  member-map x (y ∷ l) (Memᴰ.tail m) = Memᴰ.tail (member-map x l m)

  pub map-member : (y : B) (l : List A) → Memᴰ y (map f l) → (x : A) × Memᴰ x l × (y ≡ f x)
  map-member y [] m = absurd (Memᴰ.not-nil m)
  map-member y (x ∷ l) (Memᴰ.head e) = (x, Memᴰ.head refl, e)
  map-member y (x ∷ l) (Memᴰ.tail m) = let k = map-member y l m in (k.0, Memᴰ.tail k.1, k.2)
