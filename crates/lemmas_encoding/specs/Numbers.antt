-- Numbers of 16 and 32 bits: what is written is read back, and what is read writes the same bytes.
use Rattle.std.specs.Prelude.{◌≡◌, refl, List, [], ◌∷◌, ◌++◌, ℕ, ◌+◌, ◌*◌, ◌/◌, ◌%◌, ◌≤◌, ◌<◌, length, get_or, take, drop}
use Rattle.std.proofs.Common.{ap, ◌∙◌, arith, length-drop, drop-drop, get_or-drop}
use Rattle.rules.specs.Bytes.{num16, num32, le16, le32, part, blocks, chunks}
use Rattle.bytes_fields.specs.Each.{Each}
use Rattle.bytes_fields.specs.Blocks.{chunks-blocks}
use Rattle.lemmas_encoding.specs.Runs.{glue, blocks-chunks}

-- ---- written, and read back

pub num16-le16 : (v : ℕ) (q : List ℕ) → num16 (le16 v ++ q) ≡ v
unfolding num16
num16-le16 v q = omega arith

pub num32-le32 : (v : ℕ) (q : List ℕ) → num32 (le32 v ++ q) ≡ v
unfolding num32 num16
num32-le32 v q = omega arith

each-unit : (xs : List ℕ) → Each (λ x. Unit {0}) xs
each-unit [] = tt
each-unit (x ∷ xs) = (tt, each-unit xs)

pub nums-back : (n : ℕ) (vs q : List ℕ) → length vs ≡ n → chunks num16 2 n (blocks le16 vs ++ q) ≡ vs
nums-back n vs q e = rw (← e) (chunks-blocks le16 num16 2 (λ x. refl) (λ x. Unit {0}) (λ x u r. num16-le16 x r) vs q (each-unit vs))

-- ---- read, and written again

-- every byte is below 256, past the end too
abbrev pub AreBytes : List ℕ → Type 0
AreBytes s = (i : ℕ) → get_or s i 0 < 256

pub bytes_drop : (s : List ℕ) (k : ℕ) → AreBytes s → AreBytes (drop k s)
bytes_drop s k h i = rw get_or-drop (h (k + i))

le16-num16 : (b : List ℕ) → AreBytes b → 1 < length b → le16 (num16 b) ≡ take 2 b
unfolding num16
le16-num16 [] h l = absurd (omega arith)
le16-num16 (x ∷ []) h l = absurd (omega arith)
le16-num16 (x ∷ y ∷ b) h l =
    let hx : x < 256 = h 0 in
    let hy : y < 256 = h 1 in
    let e₁ : (x + 256 * y) % 256 ≡ x = omega arith in
    let e₂ : (x + 256 * y) / 256 ≡ y = omega arith in
    rw (e₁, e₂)

pub num16-forth : (b : List ℕ) (i : ℕ) → AreBytes b → i + 2 ≤ length b → le16 (num16 (drop i b)) ≡ take 2 (drop i b)
num16-forth b i h l = le16-num16 (drop i b) (bytes_drop b i h) (simp length-drop (omega arith))

pub num-forth : (b : List ℕ) (i : ℕ) → AreBytes b → i + 2 ≤ length b → le16 (num16 (drop i b)) ≡ part b i 2
unfolding part
num-forth = num16-forth

num16-small : (b : List ℕ) → AreBytes b → num16 b < 65536
unfolding num16
num16-small b h = omega (arith, h 0, h 1)

pub num32-forth : (b : List ℕ) (i : ℕ) → AreBytes b → i + 4 ≤ length b → le32 (num32 (drop i b)) ≡ part b i 4
unfolding num32
num32-forth b i h l =
    let x = num16 (drop i b) in
    let y = num16 (drop 2 (drop i b)) in
    let e : y ≡ num16 (drop (i + 2) b) = ap num16 (drop-drop 2 i b) in
    let hx : x < 65536 = num16-small (drop i b) (bytes_drop b i h) in
    let e₁ : (x + 65536 * y) % 65536 ≡ x = omega arith in
    let e₂ : (x + 65536 * y) / 65536 ≡ y = omega arith in
    let f : le16 x ++ le16 y ≡ part b i 4 =
    glue b i 2 2 (le16 x) (le16 y) (num-forth b i h (omega arith)) (ap le16 e ∙ num-forth b (i + 2) h (omega arith)) in
    rw (e₁, e₂) f

-- k numbers from place i on
pub nums-forth : (b : List ℕ) (i k n : ℕ) → AreBytes b → i + 2 * k ≤ length b → n ≡ 2 * k → blocks le16 (chunks num16 2 k (drop i b))
    ≡ part b i n
unfolding part
nums-forth b i k n h l e =
    rw e (blocks-chunks le16 num16 2 k (drop i b)
    (λ j lj. num16-forth (drop i b) (2 * j) (bytes_drop b i h) (simp length-drop (omega arith))))
