-- The threads that are in the walk's buffer.
use Rattle.std.specs.Prelude.{◌≡◌, refl, Bool, false, ◌||◌, List, [], ◌∷◌, ℕ, eqb}
use Rattle.std.specs.List.{list_any}

-- a byte that no thread is written to
abbrev pub unused_byte : ℕ
unused_byte = 255

-- t is in the list
unfoldable pub among : ℕ → List ℕ → Bool
among t [] = false
among t (x ∷ l) = eqb x t || among t l

-- as the library's search says it
pub among-any : (t : ℕ) (l : List ℕ) → list_any (λ y. eqb y t) l ≡ among t l
unfolding among
among-any t [] = refl
among-any t (x ∷ l) = rw (among-any t l)
