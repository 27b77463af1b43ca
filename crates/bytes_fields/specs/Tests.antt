-- The laws of tests over runs of bytes and of numbers, one turn of a loop at a time.
use Rattle.std.specs.Prelude.{◌≡◌, Bool, true, false, cond, ◌&&◌, not, List, [], ◌∷◌, ◌++◌, ℕ, zero, suc, ◌+◌, ◌*◌, ◌-◌, ◌/◌, ◌%◌, ◌≤◌, ◌<◌}
use Rattle.std.specs.Prelude.{length, get_or, take, drop, replicate}
use Rattle.std.proofs.Math.Path.{refl, sym}
use Rattle.std.proofs.Common.{ap, ◌∙◌, add-zero, mul-zero, mul-le-mul_right, get_or-drop, drop-drop, take-add, eqb-true, eq-eqb, ne_eqb}
use Rattle.std.proofs.Math.Bool.{and_assoc, and_comm, and-true, and-false}
use native.Mathlib.Omega.{arith}
use Rattle.std.specs.Int.Bits.{bit_or, or_add_and}
use Rattle.std.proofs.lemmas.Nat.{and_le_l, and_le_r}
use Rattle.std.proofs.Math.Dec.{eqb}
use Rattle.std.proofs.lemmas.Bool.{eqb-false, not-true, not-false}
use Rattle.rules.specs.Bytes.{num16, num32, part, is_zeros, all_from, first_bad}
use Rattle.bytes_fields.specs.Numbers.{num64}
use Rattle.bytes_fields.specs.Put.{length_part}

-- ---- every byte is zero

zeros-append : (xs ys : List ℕ) → is_zeros (xs ++ ys) ≡ (is_zeros xs && is_zeros ys)
unfolding is_zeros
zeros-append [] ys = refl
zeros-append (x ∷ xs) ys = rw (zeros-append xs ys) (sym (and_assoc (eqb x 0) (is_zeros xs) (is_zeros ys)))

zeros-cut : (s : List ℕ) (at m n : ℕ) → is_zeros (part s at (m + n)) ≡ (is_zeros (part s at m) && is_zeros (part s (at + m) n))
unfolding part
zeros-cut s at m n = rw (take-add m n (drop at s), zeros-append, drop-drop m at s)

-- no bit is set in either of two numbers
pub or-none : (a b : ℕ) → eqb (bit_or a b) 0 ≡ (eqb a 0 && eqb b 0)
or-none a b = go (eqb a 0) (eqb b 0) refl refl
  where
    go : (x y : Bool) → eqb a 0 ≡ x → eqb b 0 ≡ y → eqb (bit_or a b) 0 ≡ (x && y)
    go true true p q = eq-eqb (bit_or a b) 0 (omega (arith, eqb-true a 0 p, eqb-true b 0 q, or_add_and a b))
    go true false p q = ne_eqb (bit_or a b) 0 (λ e. eqb-false b 0 q (omega (arith, or_add_and a b, and_le_l a b)))
    go false y p q = ne_eqb (bit_or a b) 0 (λ e. eqb-false a 0 p (omega (arith, or_add_and a b, and_le_r a b)))

-- nor in a number that is joined of two
pub join-none : (a c b : ℕ) → 0 < c → eqb (a + c * b) 0 ≡ (eqb a 0 && eqb b 0)
join-none a c b h = go (eqb a 0) (eqb b 0) refl refl
  where
    go : (x y : Bool) → eqb a 0 ≡ x → eqb b 0 ≡ y → eqb (a + c * b) 0 ≡ (x && y)
    go true true p q = rw (eqb-true a 0 p, eqb-true b 0 q, mul-zero)
    go true false p q = ne_eqb (a + c * b) 0 (λ e. eqb-false b 0 q (omega (arith, mul-le-mul_right {m = 1} {n = c} b h)))
    go false y p q = ne_eqb (a + c * b) 0 (λ e. eqb-false a 0 p (omega arith))

-- x is 0 exactly if the first n bytes are zero, y exactly if the n after them are: the number that they make, exactly if all are
halves-none : (b : List ℕ) (n c x y : ℕ) → 0 < c → eqb x 0 ≡ is_zeros (take n b) → eqb y 0 ≡ is_zeros (take n (drop n b))
    → eqb (x + c * y) 0 ≡ is_zeros (take (n + n) b)
halves-none b n c x y h e f = join-none x c y h ∙ rw (e, f, take-add n n b, zeros-append)

byte-none : (b : List ℕ) → eqb (get_or b 0 0) 0 ≡ is_zeros (take 1 b)
unfolding is_zeros
byte-none [] = refl
byte-none (x ∷ b) = sym (and-true (eqb x 0))

num16-none : (b : List ℕ) → eqb (num16 b) 0 ≡ is_zeros (take 2 b)
unfolding num16
num16-none b = halves-none b 1 256 (get_or b 0 0) (get_or b 1 0) (omega arith) (byte-none b)
    (rw (get_or-drop 1 b 0 0) at (byte-none (drop 1 b)))

num32-none : (b : List ℕ) → eqb (num32 b) 0 ≡ is_zeros (take 4 b)
unfolding num32
num32-none b = halves-none b 2 65536 (num16 b) (num16 (drop 2 b)) (omega arith) (num16-none b) (num16-none (drop 2 b))

num64-none : (b : List ℕ) → eqb (num64 b) 0 ≡ is_zeros (take 8 b)
unfolding num64
num64-none b = halves-none b 4 4294967296 (num32 b) (num32 (drop 4 b)) (omega arith) (num32-none b) (num32-none (drop 4 b))

pub eight-none : (s : List ℕ) (at : ℕ) {v : ℕ} → v ≡ num64 (drop at s) → eqb v 0 ≡ is_zeros (part s at 8)
unfolding part
eight-none s at e = rw e (num64-none (drop at s))

-- A loop that gathers what n bytes from a place on have set: nothing exactly if the first k are zero.
abbrev pub Gathered : List ℕ → ℕ → ℕ → ℕ → ℕ → Type 0
Gathered s at n set k = (k ≤ n) × (eqb set 0 ≡ is_zeros (part s at k))

module _ (s : List ℕ) (at n : ℕ) where
  pub gathered_none : Gathered s at n 0 0
  unfolding is_zeros part
  gathered_none = (omega arith, refl)

  module _ (set k : ℕ) (inv : Gathered s at n set k) where
    pub gathered-byte : k < n → Gathered s at n (bit_or set (get_or s (at + k) 0)) (k + 1)
    unfolding part
    gathered-byte h =
        let e : eqb (get_or s (at + k) 0) 0 ≡ is_zeros (part s (at + k) 1) =
        rw (get_or-drop (at + k) s 0 0, add-zero) at (byte-none (drop (at + k) s)) in
        (omega arith, or-none set (get_or s (at + k) 0) ∙ rw (inv.1, e, zeros-cut s at k 1) refl)

    pub gathered-all : n ≤ k → eqb set 0 ≡ is_zeros (part s at n)
    gathered-all h =
        let e : k ≡ n = omega arith in
        rw e at inv.1

sixteen-none : (s : List ℕ) (at : ℕ) {v w : ℕ} → v ≡ num64 (drop at s) → w ≡ num64 (drop (at + 8) s)
    → eqb (bit_or v w) 0 ≡ is_zeros (part s at 16)
sixteen-none s at {v} {w} e f = or-none v w ∙ rw (eight-none s at e, eight-none s (at + 8) f, zeros-cut s at 8 8) refl

-- two runs that meet or share bytes cover one run
zeros-cover : (s : List ℕ) (at a j r : ℕ) → (is_zeros (part s (at + a) (j + r)) && is_zeros (part s at (a + j)))
    ≡ is_zeros (part s at (a + (j + r)))
zeros-cover s at a j r = rw (zeros-cut s at a (j + r), zeros-cut s at a j, zeros-cut s (at + a) j r)
    (go (is_zeros (part s at a)) (is_zeros (part s (at + a) j)) (is_zeros (part s (at + a + j) r)))
  where
    go : (x y z : Bool) → ((y && z) && (x && y)) ≡ (x && (y && z))
    go true true z = and-true z
    go false true z = and-false z
    go x false z = sym (and-false x)

abbrev pub last_sixteen : List ℕ → ℕ → ℕ → Bool
last_sixteen s at n = is_zeros (part s (at + n - 16) 16)

pub last_none : (s : List ℕ) (at n : ℕ) {v w : ℕ} → 16 ≤ n → v ≡ num64 (drop (at + n - 16) s) → w ≡ num64 (drop (at + n - 8) s)
    → eqb (bit_or v w) 0 ≡ last_sixteen s at n
last_none s at n {v} {w} h e f =
    let there : at + n - 16 + 8 ≡ at + n - 8 = omega arith in
    sixteen-none s (at + n - 16) e (rw there f)

-- A loop that gathers eight bytes of each of two halves at a time: nothing exactly if the first k bytes of both are zero, and the test z
-- holds.
abbrev pub Halved : List ℕ → ℕ → ℕ → Bool → ℕ → ℕ → Type 0
Halved s at half z set k = (k ≤ half) × (k % 8 ≡ 0) × (eqb set 0 ≡ (z && (is_zeros (part s at k) && is_zeros (part s (at + half) k))))

module _ (s : List ℕ) (at half : ℕ) (z : Bool) where
  pub halved_none : (set : ℕ) → eqb set 0 ≡ z → Halved s at half z set 0
  unfolding is_zeros part
  halved_none set e = (omega arith, refl, e ∙ sym (and-true z))

  pub halved-eight : (set k v w : ℕ) → Halved s at half z set k → k + 8 ≤ half → v ≡ num64 (drop (at + k) s)
      → w ≡ num64 (drop (at + half + k) s) → Halved s at half z (bit_or (bit_or set v) w) (k + 8)
  halved-eight set k v w inv h e f = (
    h,
    omega (arith, inv.1),
    or-none (bit_or set v) w
        ∙ rw (
          or-none set v,
          inv.2,
          eight-none s (at + k) e,
          eight-none s (at + half + k) f,
          zeros-cut s at k 8,
          zeros-cut s
              (at + half) k 8,
        )
        (go z (is_zeros (part s at k)) (is_zeros (part s (at + half) k)) (is_zeros (part s (at + k) 8))
        (is_zeros (part s (at + half + k) 8))),
  )
    where
      go : (z a b x y : Bool) → (((z && (a && b)) && x) && y) ≡ (z && ((a && x) && (b && y)))
      go false a b x y = refl
      go true false b x y = refl
      go true true true x y = refl
      go true true false x y = sym (and-false x)

-- both halves are gathered, and fewer than sixteen bytes are left, which the last sixteen have
pub halved-all : (s : List ℕ) (at n half set k : ℕ) → 16 ≤ n → half ≡ n / 16 * 8 → half ≤ k → Halved s at half (last_sixteen s at n) set k
    → eqb set 0 ≡ is_zeros (part s at n)
halved-all s at n half set k l e h inv =
    let j : ℕ = half + half + 16 - n in
    let done : k ≡ half = omega (arith, inv.0) in
    let both : (is_zeros (part s at half) && is_zeros (part s (at + half) half)) ≡ is_zeros (part s at (half + half)) =
    sym (zeros-cut s at half half) in
    let whole : n - 16 + (j + (16 - j)) ≡ n = omega arith in
    let last : j + (16 - j) ≡ 16 = omega arith in
    let begun : n - 16 + j ≡ half + half = omega arith in
    let there : at + (n - 16) ≡ at + n - 16 = omega arith in
    inv.2 ∙ rw (done, both) refl ∙ rw (whole, last, begun, there) at (zeros-cover s at (n - 16) j (16 - j))

zeros-of-none : (s : List ℕ) (at : ℕ) → is_zeros (part s at 0) ≡ true
unfolding is_zeros part
zeros-of-none s at = refl

-- two runs of which the second begins within the first or where it ends, and ends no earlier: one run
zeros-joined : (s : List ℕ) (at m there n all : ℕ) → at ≤ there → there ≤ at + m → at + m ≤ there + n → at + all ≡ there + n
    → (is_zeros (part s at m) && is_zeros (part s there n)) ≡ is_zeros (part s at all)
zeros-joined s at m there n all h l k e =
    let a : ℕ = there - at in
    let j : ℕ = m - a in
    let place : at + a ≡ there = omega arith in
    let first : a + j ≡ m = omega arith in
    let second : j + (n - j) ≡ n = omega arith in
    let whole : a + n ≡ all = omega arith in
    and_comm (is_zeros (part s at m)) (is_zeros (part s there n)) ∙ rw (second, place, first, whole) at (zeros-cover s at a j (n - j))

-- the first few bytes, a middle that begins among them or where they end, and the last 32, which begin in the middle or where it ends; an
-- empty middle leaves the first and the last to meet
pub many-all : (s : List ℕ) (at n few start middle : ℕ) → 32 ≤ n → few ≤ 32 → at ≤ start → start ≤ at + few → middle % 32 ≡ 0
    → start + middle ≤ at + n → at + n ≤ start + middle + 32
    → (is_zeros (part s at few) && is_zeros (part s start middle) && is_zeros (part s (at + n - 32) 32)) ≡ is_zeros (part s at n)
many-all s at n few start zero l m h k e f g =
    rw (zeros-of-none s start, and-true)
    (zeros-joined s at few (at + n - 32) 32 n (omega arith) (omega arith) (omega arith) (omega arith))
many-all s at n few start (suc j) l m h k e f g =
    let to : ℕ = start + suc j - at in
    rw (zeros-joined s at few start (suc j) to h k (omega arith) (omega arith))
    (zeros-joined s at to (at + n - 32) 32 n (omega arith) (omega arith) (omega arith) (omega arith))

pub zeros-are : (l : List ℕ) → is_zeros l ≡ true → l ≡ replicate (length l) 0
unfolding is_zeros
zeros-are [] e = refl
zeros-are (x ∷ l) e = go (eqb x 0) refl e (zeros-are l)
  where
    go : (b : Bool) → eqb x 0 ≡ b → (b && is_zeros l) ≡ true → (is_zeros l ≡ true → l ≡ replicate (length l) 0)
        → x ∷ l ≡ 0 ∷ replicate (length l) 0
    go true p q r = rw (eqb-true x 0 p) (ap (λ t. 0 ∷ t) (r q))
    go false p q r = absurd (let z : ◌≡◌ {A = ℕ} 0 1 = cc in omega arith)

-- of a part, which lies within the list
pub zeros-part : (s : List ℕ) (i n : ℕ) → i + n ≤ length s → is_zeros (part s i n) ≡ true → part s i n ≡ replicate n 0
zeros-part s i n l e = rw (length_part s i n l) at (zeros-are (part s i n) e)

pub are-zeros : (n : ℕ) → is_zeros (replicate n 0) ≡ true
unfolding is_zeros
are-zeros zero = refl
are-zeros (suc n) = are-zeros n

-- ---- a test holds of a run of numbers

pub all-step : (f : ℕ → Bool) (n j : ℕ) → j < n → all_from f j (n - j) ≡ (f j && all_from f (j + 1) (n - (j + 1)))
unfolding all_from
all-step f n j h = let e : n - j ≡ suc (n - (j + 1)) = omega arith in rw e

pub all_done : (f : ℕ → Bool) (n j : ℕ) → n - j ≡ 0 → all_from f j (n - j) ≡ true
unfolding all_from
all_done f n j e = rw e

pub all-fail : (f : ℕ → Bool) (n j : ℕ) → j < n → f j ≡ false → all_from f j (n - j) ≡ false
all-fail f n j h e = all-step f n j h ∙ rw e

pub all_pass : (f : ℕ → Bool) (n j : ℕ) → j < n → f j ≡ true → all_from f j (n - j) ≡ all_from f (j + 1) (n - (j + 1))
all_pass f n j h e = all-step f n j h ∙ rw e

-- ---- the first place at which a test fails

-- the test holds at i: the search goes on at i + 1
pub goes_on : (ok : ℕ → Bool) (i n : ℕ) → i < n → ok i ≡ true → first_bad ok i (n - i) ≡ first_bad ok (i + 1) (n - (i + 1))
unfolding first_bad
goes_on ok i n h e =
    let g : n - i ≡ suc (n - (i + 1)) = omega arith in
    rw (g, e)

-- the test fails at i: that is the place
pub stops : (ok : ℕ → Bool) (i n : ℕ) → i < n → ok i ≡ false → first_bad ok i (n - i) ≡ i
unfolding first_bad
stops ok i n h e =
    let g : n - i ≡ suc (n - (i + 1)) = omega arith in
    rw (g, e)

-- nothing is left: the test failed nowhere
pub ends : (ok : ℕ → Bool) (i n : ℕ) → n ≤ i → first_bad ok i (n - i) ≡ i
unfolding first_bad
ends ok i n h =
    let g : n - i ≡ 0 = omega arith in
    rw g

-- what is searched from 0 is the whole
pub starts : (ok : ℕ → Bool) (n : ℕ) → first_bad ok 0 n ≡ first_bad ok 0 (n - 0)
starts ok n =
    let g : n - 0 ≡ n = omega arith in
    rw g

-- the search stays within what it searches
pub within : (ok : ℕ → Bool) (i k : ℕ) → first_bad ok i k ≤ i + k
unfolding first_bad
within ok i zero = omega arith
within ok i (suc k) = go (ok i) (within ok (i + 1) k)
  where
    go : (t : Bool) → first_bad ok (i + 1) k ≤ i + 1 + k → cond t (first_bad ok (i + 1) k) i ≤ i + suc k
    go true h = omega arith
    go false h = omega arith

-- A loop that searches: what is searched from 0 is what is searched from i on. The loop's test is `t`, the call's answer.
abbrev pub Searching : (ℕ → Bool) → ℕ → ℕ → Type 0
Searching ok n i = (i ≤ n) × (first_bad ok 0 n ≡ first_bad ok i (n - i))

pub begin : (ok : ℕ → Bool) (n : ℕ) → Searching ok n 0
begin ok n = (omega arith, starts ok n)

module _ (ok : ℕ → Bool) (n i : ℕ) (inv : Searching ok n i) where
  pub none : n ≤ i → i ≡ first_bad ok 0 n
  none h = sym (inv.1 ∙ ends ok i n h)

  module _ (t : Bool) (h : i < n) (e : t ≡ ok i) where
    pub next : not t ≡ false → Searching ok n (i + 1)
    next f = (omega arith, inv.1 ∙ goes_on ok i n h (sym e ∙ not-false t f))

    pub here : not t ≡ true → i ≡ first_bad ok 0 n
    here f = sym (inv.1 ∙ stops ok i n h (sym e ∙ not-true t f))
