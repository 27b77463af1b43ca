-- Runs of blocks of one length, read and written again; and the zeros after them.
use Rattle.std.specs.Prelude.{◌≡◌, refl, true, List, [], ◌∷◌, ◌++◌, ℕ, zero, suc, ◌+◌, ◌*◌, ◌-◌, ◌≤◌, ◌<◌, length, get_or}
use Rattle.std.specs.Prelude.{take, drop, replicate}
use Rattle.std.proofs.Common.{sym, ap, ◌∙◌, append_assoc, mul-zero, mul-suc, mul-add, add_comm, arith, length-append}
use Rattle.std.proofs.Common.{drop-drop, take-add, drop-cons}
use Rattle.std.proofs.lemmas.List.{replicate-append-replicate, length-replicate}
use Rattle.rules.specs.Bytes.{part, is_zeros, blocks, pad, chunks}
use Rattle.bytes_fields.specs.Each.{Each}
use Rattle.bytes_fields.specs.Put.{part_at}
use Rattle.bytes_fields.specs.Blocks.{pad-split, blocks-append, length-blocks}
use Rattle.bytes_fields.specs.Tests.{are-zeros}

pub byte-forth : (b : List ℕ) (i : ℕ) → i < length b → get_or b i 0 ∷ [] ≡ part b i 1
unfolding part
byte-forth b i l = rw (drop-cons b i 0 l)

-- two parts that follow on one another
pub glue : (b : List ℕ) (i n k : ℕ) (x y : List ℕ) → x ≡ part b i n → y ≡ part b (i + n) k → x ++ y ≡ part b i (n + k)
unfolding part
glue b i n k x y e f = rw (e, f, ← drop-drop n i b) (sym (take-add n k (drop i b)))

pub length-chunks : {A : Type 0} (g : List ℕ → A) (n k : ℕ) (s : List ℕ) → length (chunks g n k s) ≡ k
unfolding chunks
length-chunks g n zero s = refl
length-chunks g n (suc k) s = ap suc (length-chunks g n k (drop n s))

next-chunk : (n j : ℕ) (s : List ℕ) → drop (n * j) (drop n s) ≡ drop (n * suc j) s
next-chunk n j s = drop-drop (n * j) n s ∙ rw (mul-suc, add_comm (n * j) n)

pub chunks-at : {A : Type 0} (g : List ℕ → A) (n k : ℕ) (s : List ℕ) (d : A) (i : ℕ) → i < k
    → get_or (chunks g n k s) i d ≡ g (drop (n * i) s)
unfolding chunks
chunks-at g n zero s d i h = absurd (omega arith)
chunks-at g n (suc k) s d zero h = rw mul-zero
chunks-at g n (suc k) s d (suc i) h = chunks-at g n k (drop n s) d i (omega arith) ∙ rw next-chunk

-- what holds of the reading at each of k places holds of each element read
pub each-chunks : {A : Type 0} (P : A → Type 0) (g : List ℕ → A) (n k : ℕ) (s : List ℕ) → ((j : ℕ) → j < k → P (g (drop (n * j) s)))
    → Each P (chunks g n k s)
unfolding chunks
each-chunks P g n zero s h = tt
each-chunks P g n (suc k) s h =
    (rw mul-zero at (h 0 (omega arith)), each-chunks P g n k (drop n s) (λ j l. rw next-chunk (h (suc j) (omega arith))))

-- blocks that are what they decode to, at each of k places: the whole is
pub blocks-chunks : {A : Type 0} (f : A → List ℕ) (g : List ℕ → A) (n k : ℕ) (s : List ℕ)
    → ((j : ℕ) → j < k → f (g (drop (n * j) s)) ≡ take n (drop (n * j) s))
    → blocks f (chunks g n k s) ≡ take (n * k) s
unfolding blocks chunks
blocks-chunks f g n zero s h = rw mul-zero
blocks-chunks f g n (suc k) s h =
    let e : f (g s) ≡ take n s = rw mul-zero at (h 0 (omega arith)) in
    let r = blocks-chunks f g n k (drop n s) (λ j l. rw next-chunk (h (suc j) (omega arith))) in
    rw (e, r, mul-suc, add_comm (n * k) n) (sym (take-add n (n * k) s))

zero-blocks : {A : Type 0} (f : A → List ℕ) (d : A) (n k : ℕ) → f d ≡ replicate n 0 → blocks f (replicate k d) ≡ replicate (n * k) 0
unfolding blocks
zero-blocks f d n zero e = rw mul-zero
zero-blocks f d n (suc k) e = rw (mul-suc, add_comm (n * k) n, e, zero-blocks f d n k e) (replicate-append-replicate {A = ℕ} n (n * k) 0)

-- blocks that are there, and then zeros
pub padded-zeros : {A : Type 0} (f : A → List ℕ) (d : A) (n N : ℕ) (xs : List A) → f d ≡ replicate n 0 → length xs ≤ N
    → blocks f (pad d N xs) ≡ blocks f xs ++ replicate (n * (N - length xs)) 0
padded-zeros f d n N xs z l = ap (blocks f) (pad-split d N xs l) ∙ blocks-append f xs (replicate (N - length xs) d)
    ∙ rw (zero-blocks f d n (N - length xs) z)

-- k blocks that are what they decode to, and then zeros
pub padded-forth : {A : Type 0} (f : A → List ℕ) (g : List ℕ → A) (d : A) (n N k : ℕ) (b : List ℕ) → f d ≡ replicate n 0 → k ≤ N
    → ((j : ℕ) → j < k → f (g (drop (n * j) b)) ≡ take n (drop (n * j) b)) → part b (n * k) (n * (N - k)) ≡ replicate (n * (N - k)) 0
    → blocks f (pad d N (chunks g n k b)) ≡ take (n * N) b
unfolding part
padded-forth f g d n N k b z l h t =
    let lc : length (chunks g n k b) ≡ k = length-chunks g n k b in
    let e : n * N ≡ n * k + n * (N - k) = rw (← mul-add n k (N - k)) (ap (λ q. n * q) (omega arith)) in
    padded-zeros f d n N (chunks g n k b) z (omega arith) ∙ rw (lc, blocks-chunks f g n k b h, e, take-add (n * k) (n * (N - k)) b, t)

-- the places that a run leaves unused, after the bytes h
pub padded-tail : {A : Type 0} (f : A → List ℕ) (n : ℕ) (same : (x : A) → length (f x) ≡ n) (d : A) (N : ℕ) (xs : List A) (h q : List ℕ)
    (at k : ℕ)
    → f d ≡ replicate n 0 → length xs ≤ N → at ≡ length h + n * length xs → k ≡ n * (N - length xs)
    → is_zeros (part (h ++ (blocks f (pad d N xs) ++ q)) at k) ≡ true
padded-tail f n same d N xs h q at k z l ea ek =
    let o : List ℕ = replicate (n * (N - length xs)) 0 in
    let e : h ++ (blocks f (pad d N xs) ++ q) ≡ (h ++ blocks f xs) ++ o ++ q = rw (padded-zeros f d n N xs z l) (simp append_assoc) in
    let p : part (h ++ (blocks f (pad d N xs) ++ q)) at k ≡ o =
    rw e (part_at (h ++ blocks f xs) o q at k (simp (length-append, length-blocks f n same xs) ea)
    (ek ∙ sym (length-replicate {A = ℕ} (n * (N - length xs)) 0))) in
    rw p (are-zeros (n * (N - length xs)))
