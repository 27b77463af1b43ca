-- The walk along any relation "waits for" that stays among n threads: no thread is written twice; each thread written after the first is
-- the one that the
-- one before it waits for; a ring closed exactly if the last one waits for a thread already written, and otherwise the last one does not
-- wait.
use Rattle.std.specs.Prelude.{◌≡◌, ◌⊎◌, Bool, length}
use Rattle.std.proofs.Math.Path.{refl}
use Rattle.std.proofs.Common.{inl, inr, arith}
use Rattle.std.proofs.Math.Logic.{ite}
use Rattle.std.proofs.Math.Bool.{true, false}
use Rattle.std.proofs.Math.Option.{Option, none, some, Option-elim}
use mathlib.Core.List.Memᴰ
use mathlib.Core.List.{List, [], ◌∷◌, ◌++◌, Memᴰ}
use Prim.Native.Nat.{ℕ, zero, suc, ◌+◌, ◌<◌}
use Rattle.std.proofs.Math.ListN.{length-append}
use Rattle.rules.specs.Walk.{mem?, Walk, onto, walk_on, walk}
use Rattle.lemmas_walk.specs.Distinct.{Distinct, distinct-short, distinct_snoc, cons-cases, snoc-cases}

-- o is the list's first, each thread of the list is the one that the thread before it waits for, and the last waits for e
abbrev pub Trail : (ℕ → Option ℕ) → Option ℕ → List ℕ → Option ℕ → Type 0
Trail next o [] e = o ≡ e
Trail next o (x ∷ l) e = (o ≡ some x) × Trail next (next x) l e

-- a ring closed: the last waits for one of the list; no ring: the last does not wait
abbrev pub Closes : Bool → Option ℕ → List ℕ → Type 0
Closes true none l = ⊥
Closes true (some u) l = Memᴰ u l
Closes false none l = Unit {0}
Closes false (some u) l = ⊥

pub record Walked (next : ℕ → Option ℕ) (n t : ℕ) (w : Walk) : Type 0 where
  pub last : Option ℕ
  pub trail : Trail next (some t) w.threads last
  pub closes : Closes w.ring last w.threads
  pub distinct : Distinct w.threads
  pub inside : (x : ℕ) → Memᴰ x w.threads → x < n

abbrev ClosesIn : Bool → Option ℕ → List ℕ → List ℕ → Type 0
ClosesIn true none m l = ⊥
ClosesIn true (some u) m l = Memᴰ u m ⊎ Memᴰ u l
ClosesIn false none m l = Unit {0}
ClosesIn false (some u) m l = ⊥

record Going (next : ℕ → Option ℕ) (n : ℕ) (met : List ℕ) (t : ℕ) (w : Walk) : Type 0 where
  last : Option ℕ
  trail : Trail next (some t) w.threads last
  closes : ClosesIn w.ring last met w.threads
  distinct : Distinct w.threads
  new : (x : ℕ) → Memᴰ x w.threads → Memᴰ x met → ⊥
  inside : (x : ℕ) → Memᴰ x w.threads → x < n

closes-move : (r : Bool) (o : Option ℕ) (t : ℕ) (m l : List ℕ) → ClosesIn r o (m ++ t ∷ []) l → ClosesIn r o m (t ∷ l)
closes-move true none t m l h = h
closes-move true (some u) t m l (inr h) = inr (Memᴰ.tail h)
closes-move true (some u) t m l (inl h) = go (Memᴰ.append_cases m h)
  where
    go : Memᴰ u m ⊎ Memᴰ u (t ∷ []) → Memᴰ u m ⊎ Memᴰ u (t ∷ l)
    go (inl k) = inl k
    go (inr k) = inr (Memᴰ.head (Memᴰ.eq_of_singleton k))
closes-move false none t m l h = h
closes-move false (some u) t m l h = h

closes-all : (r : Bool) (o : Option ℕ) (l : List ℕ) → ClosesIn r o [] l → Closes r o l
closes-all true none l h = h
closes-all true (some u) l (inl h) = absurd (Memᴰ.not-nil h)
closes-all true (some u) l (inr h) = h
closes-all false none l h = h
closes-all false (some u) l h = h

module _ (next : ℕ → Option ℕ) (n : ℕ) (bound : (t u : ℕ) → next t ≡ some u → u < n) where
  here : (met : List ℕ) (t : ℕ) → Memᴰ t met → Going next n met t (record { threads = []; ring = true })
  here met t m = record {
    last = some t;
    trail = refl;
    closes = inl m;
    distinct = tt;
    new = λ x k. absurd (Memᴰ.not-nil k);
    inside = λ x k. absurd (Memᴰ.not-nil k);
  }

  ended : (met : List ℕ) (t : ℕ) → t < n → (Memᴰ t met → ⊥) → next t ≡ none
      → Going next n met t (record { threads = t ∷ []; ring = false })
  ended met t h m e = record {
    last = none;
    trail = (refl, e);
    closes = tt;
    distinct = (λ k. Memᴰ.not-nil k, tt);
    new = cons-cases {P = λ x. Memᴰ x met → ⊥} t [] m (λ x k. absurd (Memᴰ.not-nil k));
    inside = cons-cases {P = λ x. x < n} t [] h (λ x k. absurd (Memᴰ.not-nil k));
  }

  more : (met : List ℕ) (t u : ℕ) (w : Walk) → t < n → (Memᴰ t met → ⊥) → next t ≡ some u → Going next n (met ++ t ∷ []) u w
      → Going next n met t (onto t w)
  more met t u w h m e g = record {
    last = g.last;
    trail = (refl, rw e g.trail);
    closes = closes-move w.ring g.last t met w.threads g.closes;
    distinct = (λ k. g.new t k (Memᴰ.append_right met (Memᴰ.head refl)), g.distinct);
    new = cons-cases {P = λ x. Memᴰ x met → ⊥} t w.threads m (λ x k q. g.new x k (Memᴰ.append_left (t ∷ []) q));
    inside = cons-cases {P = λ x. x < n} t w.threads h g.inside;
  }

  going : (left : ℕ) (met : List ℕ) (t : ℕ) → t < n → Distinct met → ((x : ℕ) → Memᴰ x met → x < n) → length met + left ≡ n
      → Going next n met t (walk_on next left met t)
  unfolding walk_on Option-elim
  going zero met t h d i l = here met t (go (mem? t met))
    where
      go : Dec (Memᴰ t met) → Memᴰ t met
      go (yes m) = m
      go (no m) = absurd (omega (arith, distinct-short n (t ∷ met) (m, d) (cons-cases {P = λ x. x < n} t met h i)))
  going (suc left) met t h d i l =
      go (mem? t met)
      (λ u m e. going left (met ++ t ∷ []) u (bound t u e) (distinct_snoc met t d m) (snoc-cases {P = λ x. x < n} t met h i)
      (omega (arith, length-append met (t ∷ []))))
    where
      go : (k : Dec (Memᴰ t met))
          → ((u : ℕ) → (Memᴰ t met → ⊥) → next t ≡ some u → Going next n (met ++ t ∷ []) u (walk_on next left (met ++ t ∷ []) u))
          → Going next n met t
          (ite k (record { threads = []; ring = true })
          (onto t (Option-elim (next t) (record { threads = []; ring = false }) (λ u. walk_on next left (met ++ t ∷ []) u))))
      go (yes m) ih = here met t m
      go (no m) ih = on (next t) refl
        where
          on : (o : Option ℕ) → next t ≡ o
              → Going next n met t
              (onto t (Option-elim o (record { threads = []; ring = false }) (λ u. walk_on next left (met ++ t ∷ []) u)))
          on none e = ended met t h m e
          on (some u) e = more met t u _ h m e (ih u m e)

  pub walked : (t : ℕ) → t < n → Walked next n t (walk next n t)
  unfolding walk
  walked t h =
      let g : Going next n [] t (walk_on next n [] t) = going n [] t h tt (λ x k. absurd (Memᴰ.not-nil k)) (omega arith) in
      record {
        last = g.last;
        trail = g.trail;
        closes = closes-all (walk_on next n [] t).ring g.last (walk_on next n [] t).threads g.closes;
        distinct = g.distinct;
        inside = g.inside;
      }
