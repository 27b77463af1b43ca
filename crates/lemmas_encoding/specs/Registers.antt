-- The registers of a thread, and their presence set with their values.
use Rattle.std.specs.Prelude.{◌≡◌, refl, Bool, true, cond, ◌||◌, List, [], ◌∷◌, map, ℕ, zero, suc, ◌+◌, ◌*◌, ◌/◌, ◌%◌, ◌^◌, ◌≤◌, ◌<◌, eqb}
use Rattle.std.specs.Prelude.{length, get_or, take, drop}
use Rattle.std.proofs.Common.{sym, ap, ◌∙◌, pow-suc, add-zero, add-suc, suc-add, add-one, one-add, arith, shr-shr}
use Rattle.std.proofs.Common.{drop-drop, get_or-drop, drop-cons}
use Rattle.std.proofs.Math.Bool.{false}
use Rattle.std.proofs.Math.Option.{Option, none, some}
use borrow.Author.Tests.{eqb-true, eqb-false}
use Rattle.rules.specs.Bytes.{has}
use Rattle.rules.specs.Encoding.{presence, value_or0, register_of, registers_from}

half : (p r : ℕ) → p / 2 ^ suc r ≡ p / 2 ^ r / 2
half p r = rw (← add-one r) (sym (shr-shr p r 1))

shift : (p r : ℕ) → p / 2 ^ suc r ≡ p / 2 / 2 ^ r
shift p r = rw (← one-add r) (sym (shr-shr p 1 r))

-- a register by its number
pub register-at : (present : ℕ) (values : List ℕ) (r n i : ℕ) → i < n → get_or (registers_from present values r n) i none
    ≡ register_of present values (r + i)
unfolding registers_from
register-at present values r zero i h = absurd (omega arith)
register-at present values r (suc n) zero h = rw add-zero
register-at present values r (suc n) (suc i) h = rw (add-suc, ← suc-add) (register-at present values (suc r) n i (omega arith))

pub length-values : (rs : List (Option ℕ)) → length (map value_or0 rs) ≡ length rs
length-values [] = refl
length-values (r ∷ rs) = ap suc (length-values rs)

pub presence-lt : (rs : List (Option ℕ)) → presence rs < 2 ^ length rs
unfolding presence
presence-lt [] = omega arith
presence-lt (none ∷ rs) = rw pow-suc (omega (arith, presence-lt rs))
presence-lt (some v ∷ rs) = rw pow-suc (omega (arith, presence-lt rs))

-- registers written are read back: from register r on, what is left of the set and of the values is that of rs
pub registers-back : (rs : List (Option ℕ)) (p : ℕ) (vs : List ℕ) (r : ℕ) → p / 2 ^ r ≡ presence rs → drop r vs ≡ map value_or0 rs
    → registers_from p vs r (length rs) ≡ rs
unfolding registers_from presence
registers-back [] p vs r e f = refl
registers-back (none ∷ rs) p vs r e f =
    let b : p / 2 ^ r % 2 ≡ 0 = omega arith in
    let d : drop (suc r) vs ≡ map value_or0 rs = rw (← add-one r) (sym (drop-drop 1 r vs) ∙ ap (drop 1) f) in
    rw b (ap (λ l. none ∷ l) (registers-back rs p vs (suc r) (half p r ∙ omega arith) d))
registers-back (some v ∷ rs) p vs r e f =
    let b : p / 2 ^ r % 2 ≡ 1 = omega arith in
    let d : drop (suc r) vs ≡ map value_or0 rs = rw (← add-one r) (sym (drop-drop 1 r vs) ∙ ap (drop 1) f) in
    let g : get_or vs r 0 ≡ v = ap (λ k. get_or vs k 0) (omega arith) ∙ sym (get_or-drop r vs 0 0) ∙ ap (λ l. get_or l 0 0) f in
    rw (b, g) (ap (λ l. some v ∷ l) (registers-back rs p vs (suc r) (half p r ∙ omega arith) d))

pub length-registers : (p : ℕ) (vs : List ℕ) (r n : ℕ) → length (registers_from p vs r n) ≡ n
unfolding registers_from
length-registers p vs r zero = refl
length-registers p vs r (suc n) = ap suc (length-registers p vs (suc r) n)

-- registers read give the set and the values again
pub presence-forth : (p : ℕ) (vs : List ℕ) (r n : ℕ) → p / 2 ^ r < 2 ^ n → presence (registers_from p vs r n) ≡ p / 2 ^ r
unfolding registers_from presence
presence-forth p vs r zero h = omega arith
presence-forth p vs r (suc n) h = go (has r p) refl (presence-forth p vs (suc r) n (omega (arith, half p r, pow-suc 2 n)))
  where
    go : (b : Bool) → has r p ≡ b → presence (registers_from p vs (suc r) n) ≡ p / 2 ^ suc r
        → presence (cond b (some (get_or vs r 0)) none ∷ registers_from p vs (suc r) n) ≡ p / 2 ^ r
    go true e ih = unfold presence in omega (arith, ih, half p r, eqb-true (p / 2 ^ r % 2) 1 e)
    go false e ih = unfold presence in omega (arith, ih, half p r, eqb-false (p / 2 ^ r % 2) 1 e)

-- where the values of absent registers are zero
pub values-forth : (p : ℕ) (vs : List ℕ) (r n : ℕ) → r + n ≤ length vs
    → ((i : ℕ) → r ≤ i → i < r + n → (has i p || eqb (get_or vs i 0) 0) ≡ true)
    → map value_or0 (registers_from p vs r n) ≡ take n (drop r vs)
unfolding registers_from
values-forth p vs r zero l h = refl
values-forth p vs r (suc n) l h =
    rw (drop-cons vs r 0 (omega arith))
    (go (has r p) (h r (omega arith) (omega arith)) (values-forth p vs (suc r) n (omega arith) (λ i a b. h i (omega arith) (omega arith))))
  where
    go : (b : Bool) → (b || eqb (get_or vs r 0) 0) ≡ true → map value_or0 (registers_from p vs (suc r) n) ≡ take n (drop (suc r) vs)
        → value_or0 (cond b (some (get_or vs r 0)) none) ∷ map value_or0 (registers_from p vs (suc r) n) ≡ get_or vs r 0 ∷ take n
        (drop (suc r) vs)
    go true e ih = ap (λ l. get_or vs r 0 ∷ l) ih
    go false e ih = rw (eqb-true (get_or vs r 0) 0 e) (ap (λ l. 0 ∷ l) ih)

-- the values written for absent registers are zero
pub absent-zero : (rs : List (Option ℕ)) (r : ℕ) → r < length rs → (has r (presence rs) || eqb (get_or (map value_or0 rs) r 0) 0) ≡ true
unfolding presence
absent-zero [] r h = absurd (omega arith)
absent-zero (none ∷ rs) zero h = bool (eqb (2 * presence rs / 1 % 2) 1)
  where
    bool : (b : Bool) → (b || true) ≡ true
    bool true = refl
    bool false = refl
absent-zero (some v ∷ rs) zero h =
    let e : (1 + 2 * presence rs) / 1 % 2 ≡ 1 = omega arith in
    rw e
absent-zero (none ∷ rs) (suc r) h =
    let e : 2 * presence rs / 2 ^ suc r ≡ presence rs / 2 ^ r = shift (2 * presence rs) r ∙ ap (λ n. n / 2 ^ r) (omega arith) in
    rw e (absent-zero rs r (omega arith))
absent-zero (some v ∷ rs) (suc r) h =
    let e : (1 + 2 * presence rs) / 2 ^ suc r ≡ presence rs / 2 ^ r = shift (1 + 2 * presence rs) r ∙ ap (λ n. n / 2 ^ r) (omega arith) in
    rw e (absent-zero rs r (omega arith))
