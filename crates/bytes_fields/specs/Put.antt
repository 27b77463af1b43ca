-- Runs of bytes stored into a list and read from it, and the laws of both.
use Rattle.std.specs.Prelude.{◌≡◌, List, [], ◌∷◌, ◌++◌, ℕ, suc, ◌+◌, ◌≤◌, ◌<◌, length, get_or, take, drop}
use Rattle.std.proofs.Math.Path.{refl}
use Rattle.std.proofs.Common.{sym, ap, ◌∙◌, append_assoc, append-nil, add-zero, add-suc, suc-add, zero-add, add-one, arith, length-append}
use Rattle.std.proofs.Common.{length-drop, take-append-drop, take_at, drop_at, get_or-drop, take-suc, length-take-le, take-add}
use Rattle.std.proofs.Common.{get_or-set_other, drop-drop, get_or-append-add}
use Rattle.std.proofs.Math.ListN.{set}
use Rattle.std.proofs.lemmas.List.Edits.{sets, sets-eq}
use Rattle.std.proofs.Math.Seq.{length-sets, drop-append-add}
use Rattle.rules.specs.Bytes.{part}

-- s with the bytes a from place i on, in the place of as many of its own
unfoldable pub put : List ℕ → ℕ → List ℕ → List ℕ
put s i a = sets s i a

-- ---- stores

pub length-put : (s : List ℕ) (i : ℕ) (a : List ℕ) → length (put s i a) ≡ length s
unfolding put
length-put s i a = length-sets s i a

-- stores that follow on one another are one
pub put-more : (s : List ℕ) (i : ℕ) (a : List ℕ) (j : ℕ) (b : List ℕ) → j ≡ i + length a → put (put s i a) j b ≡ put s i (a ++ b)
unfolding put
put-more s i [] j b e = rw (e, add-zero)
put-more s i (x ∷ a) j b e = put-more (set s i x) (suc i) a j b (e ∙ simp (add-suc, suc-add))

-- the same, along two equations: what a run of calls leaves
pub put_then : (s : List ℕ) (i : ℕ) (a : List ℕ) (j : ℕ) (b : List ℕ) {s₁ s₂ : List ℕ} → s₁ ≡ put s i a → s₂ ≡ put s₁ j b
    → j ≡ i + length a → s₂ ≡ put s i (a ++ b)
put_then s i a j b e₁ e₂ h = e₂ ∙ rw e₁ (put-more s i a j b h)

-- a single store after a run
pub set_then : (s : List ℕ) (i : ℕ) (a : List ℕ) (j v : ℕ) {s₁ : List ℕ} → s₁ ≡ put s i a → j ≡ i + length a
    → set s₁ j v ≡ put s i (a ++ (v ∷ []))
set_then s i a j v {s₁} e h = put_then s i a j (v ∷ []) e (unfold put in refl {a = set s₁ j v}) h

-- where s is cut at i and after the bytes that are replaced
pub put-at : (p m q a : List ℕ) (i : ℕ) → i ≡ length p → length m ≡ length a → put (p ++ m ++ q) i a ≡ p ++ a ++ q
unfolding put
put-at p m q a i e h =
    let before : take i (p ++ m ++ q) ≡ p = rw append_assoc (take_at p (m ++ q) i (sym e)) in
    let after : drop (i + length a) (p ++ m ++ q) ≡ q = drop_at (p ++ m) q (i + length a) (simp length-append (omega arith)) in
    sets-eq a (p ++ m ++ q) i (simp length-append (omega arith)) ∙ rw (before, after)

-- a store over the whole
pub put_whole : (m a : List ℕ) → length m ≡ length a → put m 0 a ≡ a
put_whole m a e = simp append-nil at (put-at [] m [] a 0 refl e)

-- the n bytes from place i on, replaced whole
pub put_pasted : (s : List ℕ) (i n : ℕ) (a : List ℕ) → length a ≡ n → i + n ≤ length s → take i s ++ a ++ drop (i + n) s ≡ put s i a
unfolding put
put_pasted s i n a e h = sym (sets-eq a s i (omega arith) ∙ rw e)

pub put_over : (s : List ℕ) (i n : ℕ) (a : List ℕ) → length a ≡ n → i + n ≤ length s → take i s ++ (a ++ drop n (drop i s)) ≡ put s i a
put_over s i n a e h = rw (drop-drop, ← append_assoc) (put_pasted s i n a e h)

-- a store within the middle part
pub put-inside : (p m q : List ℕ) (at j : ℕ) (a : List ℕ) → at ≡ length p + j → j + length a ≤ length m
    → put (p ++ m ++ q) at a ≡ p ++ put m j a ++ q
unfolding put
put-inside p m q at j a e h =
    let x : List ℕ = take j m in
    let y : List ℕ = take (length a) (drop j m) in
    let z : List ℕ = drop (j + length a) m in
    let lx : length x ≡ j = length-take-le j m (omega arith) in
    let ly : length y ≡ length a = length-take-le (length a) (drop j m) (simp length-drop (omega arith)) in
    let whole : m ≡ x ++ y ++ z = sym (ap (λ l. l ++ z) (sym (take-add j (length a) m)) ∙ take-append-drop (j + length a) m) in
    let cut : p ++ (x ++ y ++ z) ++ q ≡ (p ++ x) ++ y ++ (z ++ q) = simp append_assoc in
    let cut' : p ++ (x ++ a ++ z) ++ q ≡ (p ++ x) ++ a ++ (z ++ q) = simp append_assoc in
    ap (λ l. put (p ++ l ++ q) at a) whole
    ∙ ap (λ l. put l at a) cut
    ∙ put-at (p ++ x) y (z ++ q) a at (simp length-append (omega arith)) ly
    ∙ sym (ap (λ l. p ++ l ++ q) (sets-eq a m j h) ∙ cut')

sets-cons : (x : ℕ) (l : List ℕ) (i : ℕ) (a : List ℕ) → sets (x ∷ l) (suc i) a ≡ x ∷ sets l i a
sets-cons x l i [] = refl
sets-cons x l i (v ∷ a) = sets-cons x (set l i v) (suc i) a

pub put-after : (p m : List ℕ) (at j : ℕ) (a : List ℕ) → at ≡ length p + j → put (p ++ m) at a ≡ p ++ put m j a
unfolding put
put-after [] m at j a e = rw (e, zero-add)
put-after (x ∷ p) m at j a e =
    let f : at ≡ suc (length p + j) = omega arith in
    rw f (sets-cons x (p ++ m) (length p + j) a ∙ ap (λ l. x ∷ l) (put-after p m (length p + j) j a refl))

pub get_d-put-after : (s : List ℕ) (i : ℕ) (a : List ℕ) (j d : ℕ) → i + length a ≤ j → get_or (put s i a) j d ≡ get_or s j d
unfolding put
get_d-put-after s i [] j d h = refl
get_d-put-after s i (x ∷ a) j d h = get_d-put-after (set s i x) (suc i) a j d (rw suc-add (rw add-suc at h))
    ∙ get_or-set_other s i j x d (λ e. omega arith)

-- ---- parts

pub part_at : (p m q : List ℕ) (i n : ℕ) → i ≡ length p → n ≡ length m → part (p ++ m ++ q) i n ≡ m
unfolding part
part_at p m q i n e h = rw append_assoc (rw (drop_at p (m ++ q) i (sym e)) (take_at m q n (sym h)))

pub part-after : (p m : List ℕ) (at j n : ℕ) → at ≡ length p + j → part (p ++ m) at n ≡ part m j n
unfolding part
part-after p m at j n e = rw (e, drop-append-add)

pub get_d_after : (p m : List ℕ) (at j d : ℕ) → at ≡ length p + j → get_or (p ++ m) at d ≡ get_or m j d
get_d_after p m at j d e = rw (e, get_or-append-add)

pub part_none : (s : List ℕ) (i : ℕ) → part s i 0 ≡ []
unfolding part
part_none s i = refl

pub length_part : (s : List ℕ) (i k : ℕ) → i + k ≤ length s → length (part s i k) ≡ k
unfolding part
length_part s i k h = length-take-le k (drop i s) (simp length-drop (omega arith))

pub part-suc : (s : List ℕ) (i k d : ℕ) → i + k < length s → part s i (k + 1) ≡ part s i k ++ (get_or s (i + k) d ∷ [])
unfolding part
part-suc s i k d h = rw (add-one, take-suc (drop i s) k d (simp length-drop (omega arith)), get_or-drop)

pub part-drop : (s : List ℕ) (at i n : ℕ) → part (drop at s) i n ≡ part s (at + i) n
unfolding part
part-drop s at i n = rw drop-drop

-- the bytes after a gap of n move down: one more
pub gap_step : (s₀ : List ℕ) (at n k : ℕ) {s : List ℕ} → at + n + k < length s₀ → s ≡ put s₀ at (part s₀ (at + n) k)
    → set s (at + k) (get_or s (at + n + k) 0) ≡ put s₀ at (part s₀ (at + n) (k + 1))
gap_step s₀ at n k {s} h e =
    let l : length (part s₀ (at + n) k) ≡ k = length_part s₀ (at + n) k (omega arith) in
    let g : get_or s (at + n + k) 0 ≡ get_or s₀ (at + n + k) 0 =
    rw e (get_d-put-after s₀ at (part s₀ (at + n) k) (at + n + k) 0 (omega arith)) in
    set_then s₀ at (part s₀ (at + n) k) (at + k) _ e (omega arith) ∙ rw (g, part-suc s₀ (at + n) k 0 h)
