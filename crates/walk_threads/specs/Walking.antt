-- The walk's code, step by step.
use Rattle.std.specs.Prelude.{◌≡◌, refl, ◌⊎◌, Bool, true, ◌||◌, eqb, set, replicate, Option, Some, None}
use Rattle.std.proofs.Common.{sym, ◌∙◌, inl, inr, true≢false, take-append-drop, take-suc-set, eq-eqb, eqb-true}
use Rattle.std.proofs.Math.Path.{ap}
use Rattle.std.proofs.Math.Logic.{if_pos, if_neg}
use Rattle.std.proofs.Math.Bool.{false}
use Rattle.std.proofs.Math.Option as maybe
use Rattle.std.proofs.Math.Option.{none, some, Option-elim}
use mathlib.Core.List.{List, [], ◌∷◌, ◌++◌, append_assoc}
use mathlib.Core.List.Memᴰ
use mathlib.Core.List.{Memᴰ}
use Prim.Native.Nat.{ℕ, zero, suc, ◌+◌, ◌-◌, ◌≤◌, ◌<◌}
use Rattle.std.proofs.Math.Numerals.{add-one}
use native.Mathlib.Omega.{arith}
use Rattle.std.proofs.Math.ListN.{length, take, drop}
use Rattle.std.proofs.lemmas.List.{set_split}
use Rattle.std.proofs.Math.Seq.{drop-set-lt}
use Rattle.rules.specs.Sizes.{thread_count}
use Rattle.rules.specs.Walk.{Walk, walk, walk_on, mem?, onto, met_count, met_bytes}
use Rattle.rules.specs.declared.sorts.Thread.{Thread}
use Rattle.walk_waits.specs.Waiting.{waits_of}
use Rattle.walk_met.specs.Met.{unused_byte, among}
use Rattle.walk_threads.specs.Laid.{ring_count, laid_behind, counted, walk_rest}

-- ---- among the threads met

among-mem : (t : ℕ) (l : List ℕ) → Memᴰ t l → among t l ≡ true
unfolding among
among-mem t [] m = absurd (Memᴰ.not-nil m)
among-mem t (x ∷ l) m = go (Memᴰ.cases_cons m) (among-mem t l)
  where
    or_right : (a : Bool) → a || true ≡ true
    or_right true = refl
    or_right false = refl

    go : (t ≡ x) ⊎ Memᴰ t l → (Memᴰ t l → among t l ≡ true) → eqb x t || among t l ≡ true
    go (inl e) ih = rw (eq-eqb x t (sym e)) refl
    go (inr k) ih = rw (ih k) (or_right (eqb x t))

mem-among : (t : ℕ) (l : List ℕ) → among t l ≡ true → Memᴰ t l
unfolding among
mem-among t [] h = absurd (true≢false (sym h))
mem-among t (x ∷ l) h = go (eqb x t) refl (mem-among t l) h
  where
    go : (b : Bool) → eqb x t ≡ b → (among t l ≡ true → Memᴰ t l) → b || among t l ≡ true → Memᴰ t (x ∷ l)
    go true e ih k = Memᴰ.head (sym (eqb-true x t e))
    go false e ih k = Memᴰ.tail (ih k)

-- ---- whom a thread waits for, as the code says it

abbrev met_by : Option Thread → maybe.Option ℕ
met_by (Some u) = some u.0
met_by None = none

met_of : (o : maybe.Option ℕ) → met_by (waits_of o) ≡ o
met_of none = refl
met_of (some u) = refl

pub next-some : (o : maybe.Option ℕ) (w : Option Thread) (u : Thread) → w ≡ waits_of o → w ≡ Some u → o ≡ some u.0
next-some o w u e h = sym (met_of o) ∙ ap met_by (sym e ∙ h)

pub next-none : (o : maybe.Option ℕ) (w : Option Thread) → w ≡ waits_of o → w ≡ None → o ≡ none
next-none o w e h = sym (met_of o) ∙ ap met_by (sym e ∙ h)

-- ---- the walk, one thread at a time

module _ (next : ℕ → maybe.Option ℕ) (out : List ℕ) (n t : ℕ) (size : length out ≡ thread_count) where
  abbrev pub Came : ℕ → List ℕ → Walk → Type 0
  Came r new w = (r ≡ counted n w) × (new ≡ laid_behind n out w)

  stays : (m : ℕ) → m ≡ n + 0 → out ≡ take n out ++ drop m out
  stays m e = let z : m ≡ n = omega arith in rw z (sym (take-append-drop n out))

  unchanged : Came (n + ring_count) out (record { threads = []; ring = true })
  unchanged = (omega arith, stays (n + 0) refl)

  pub full : thread_count ≤ n → Came (n + ring_count) out (walk_rest next n out t)
  unfolding walk_on
  full h = let z : thread_count - n ≡ 0 = omega arith in rw z unchanged

  module _ (short : n < thread_count) where
    left : thread_count - n ≡ suc (thread_count - (n + 1))
    left = omega arith

    ring-is : among t (take n out) ≡ true → walk_rest next n out t ≡ record { threads = []; ring = true }
    unfolding walk_on
    ring-is h = rw left (if_pos (mem? t (take n out)) (mem-among t (take n out) h) _ _)

    pub ring : among t (take n out) ≡ true → Came (n + ring_count) out (walk_rest next n out t)
    ring h = rw (ring-is h) unchanged

    module _ (new : among t (take n out) ≡ false) where
      fresh : Memᴰ t (take n out) → ⊥
      fresh m = true≢false (sym (among-mem t (take n out) m) ∙ new)

      abbrev on : maybe.Option ℕ → Walk
      unfolding Option-elim
      on o = onto t (Option-elim o (record { threads = []; ring = false })
          (λ u. walk_on next (thread_count - (n + 1)) (take n out ++ t ∷ []) u))

      on-is : (o : maybe.Option ℕ) → next t ≡ o → walk_rest next n out t ≡ on o
      unfolding walk_on Option-elim
      on-is o e = rw (left, ← e) (if_neg (mem? t (take n out)) fresh _ _)

      here : n < length out
      here = omega arith

      pub halts : next t ≡ none → Came (n + 1) (set out n t) (walk_rest next n out t)
      unfolding Option-elim
      halts e = let k : walk_rest next n out t ≡ record { threads = t ∷ []; ring = false } =
          on-is none e in rw k (omega arith, rw (set_split out n t here, add-one) refl)

      pub goes : (u r : ℕ) (l : List ℕ) → next t ≡ some u → r ≡ counted (n + 1) (walk_rest next (n + 1) (set out n t) u)
          → l ≡ laid_behind (n + 1) (set out n t) (walk_rest next (n + 1) (set out n t) u)
          → Came r l (walk_rest next n out t)
      unfolding Option-elim
      goes u r l e p q =
          let f : take (n + 1) (set out n t) ≡ take n out ++ t ∷ [] = rw add-one (take-suc-set out n t here) in
          let w : Walk = walk_on next (thread_count - (n + 1)) (take n out ++ t ∷ []) u in
          let k : walk_rest next n out t ≡ onto t (walk_on next (thread_count - (n + 1)) (take n out ++ t ∷ []) u) = on-is (some u) e in
          let p' : r ≡ counted (n + 1) (walk_on next (thread_count - (n + 1)) (take n out ++ t ∷ []) u) = rw f at p in
          let q' : l ≡ (take n out ++ t ∷ []) ++ (w.threads ++ drop (n + 1 + length w.threads) (set out n t)) = rw f at q in
          let z : n + 1 + length w.threads ≡ n + suc (length w.threads) = omega arith in
          let d : drop (n + 1 + length w.threads) (set out n t) ≡ drop (n + suc (length w.threads)) out =
          drop-set-lt (n + 1 + length w.threads) out n t (omega arith) ∙ ap (λ (i : ℕ). drop i out) z in
          rw k (p' ∙ omega arith, q' ∙ rw d (append_assoc (take n out) (t ∷ []) _))

drop-replicate : (m k v : ℕ) → drop k (replicate m v) ≡ replicate (m - k) v
drop-replicate m zero v = let e : m - 0 ≡ m = omega arith in rw e refl
drop-replicate zero (suc k) v = let e : 0 - suc k ≡ 0 = omega arith in rw e refl
drop-replicate (suc m) (suc k) v = let e : suc m - suc k ≡ m - k = omega arith in rw e (drop-replicate m k v)

-- from no thread met, over unused bytes
pub from-none : (next : ℕ → maybe.Option ℕ) (out : List ℕ) (t r : ℕ) (l : List ℕ) → out ≡ replicate thread_count unused_byte
    → r ≡ counted 0 (walk_rest next 0 out t) → l ≡ laid_behind 0 out (walk_rest next 0 out t)
    → (r ≡ met_count (walk next thread_count t)) × (l ≡ met_bytes (walk next thread_count t))
unfolding walk met_count met_bytes
from-none next out t r l e p q =
    let w : Walk = walk_on next thread_count [] t in
    let z : 0 + length w.threads ≡ length w.threads = omega arith in
    (p ∙ omega arith, q ∙ rw (e, z, drop-replicate thread_count (length w.threads) unused_byte) refl)
