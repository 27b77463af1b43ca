-- A store into what was stored, a store of what is there, and what a store leaves alone.
use Rattle.std.specs.Prelude.{◌≡◌, List, ◌++◌, ℕ, ◌+◌, ◌≤◌, length, take, drop}
use Rattle.std.proofs.Common.{sym, ap, ◌∙◌, arith, length-append, take-append-drop, take-add, length-take-le}
use Rattle.rules.specs.Bytes.{part}
use Rattle.bytes_fields.specs.Put.{put, length-put, put-at, put-inside, part-after, length_part}

-- s cut at place i and n places after it
cut : (s : List ℕ) (i n : ℕ) → s ≡ take i s ++ part s i n ++ drop (i + n) s
unfolding part
cut s i n = sym (ap (λ l. l ++ drop (i + n) s) (sym (take-add i n s)) ∙ take-append-drop (i + n) s)

module _ (s : List ℕ) (i : ℕ) (a : List ℕ) (h : i + length a ≤ length s) where
  before : length (take i s) ≡ i
  before = length-take-le i s (omega arith)

  stored : put s i a ≡ take i s ++ a ++ drop (i + length a) s
  stored = ap (λ l. put l i a) (cut s i (length a)) ∙ put-at (take i s) (part s i (length a)) (drop (i + length a) s) a i (sym before)
      (length_part s i (length a) h)

pub put_in : (s : List ℕ) (i : ℕ) (a : List ℕ) (j : ℕ) (b : List ℕ) → i + length a ≤ length s → j + length b ≤ length a
    → put (put s i a) (i + j) b ≡ put s i (put a j b)
put_in s i a j b h k =
    let n : length (put a j b) ≡ length a = length-put a j b in
    ap (λ l. put l (i + j) b) (stored s i a h)
    ∙ put-inside (take i s) a (drop (i + length a) s) (i + j) j b (omega (arith, before s i a h)) k
    ∙ sym (stored s i (put a j b) (omega arith) ∙ rw n)

pub put_self : (s : List ℕ) (i n : ℕ) → i + n ≤ length s → put s i (part s i n) ≡ s
put_self s i n h =
    let l : length (part s i n) ≡ n = length_part s i n h in
    stored s i (part s i n) (omega arith) ∙ rw l (sym (cut s i n))

pub part-beyond : (s : List ℕ) (i : ℕ) (a : List ℕ) (n : ℕ) → i + length a ≤ length s → part (put s i a) (i + length a) n
    ≡ part s (i + length a) n
part-beyond s i a n h =
    let q = drop (i + length a) s in
    let m = part s i (length a) in
    ap (λ l. part l (i + length a) n) (stored s i a h)
    ∙ part-after (take i s ++ a) q (i + length a) 0 n (simp length-append (omega (arith, before s i a h)))
    ∙ sym (ap (λ l. part l (i + length a) n) (cut s i (length a)) ∙ part-after (take i s ++ m) q (i + length a) 0 n
    (simp length-append (omega (arith, before s i a h, length_part s i (length a) h))))
