-- The bytes and the number of a walk: the count is the number of bytes below 255.
use Rattle.std.specs.Prelude.{◌≡◌, refl, ℕ, zero, suc, ◌+◌, ◌-◌, ◌<◌, ◌≤◌, replicate}
use Rattle.std.proofs.Common.{sym, ◌∙◌, arith}
use Rattle.std.proofs.Math.Path.{ap}
use Rattle.std.proofs.Math.Logic.{ite, if_pos, if_neg}
use Rattle.std.proofs.Math.Bool.{cond}
use Rattle.std.proofs.Math.Option.{Option}
use mathlib.Core.List.{List, [], ◌∷◌, ◌++◌, Memᴰ}
use Rattle.std.proofs.Math.Decide.{dec_lt}
use Rattle.std.proofs.Math.ListN.{length, length-append, length-replicate}
use Rattle.rules.specs.Sizes.{thread_count}
use Rattle.rules.specs.Walk.{Walk, met_bytes, met_count}
use Rattle.lemmas_walk.specs.Distinct.{distinct-short}
use Rattle.lemmas_walk.specs.Walked.{Walked}

-- how many bytes are below 255
unfoldable pub written : List ℕ → ℕ
written [] = 0
written (b ∷ l) = ite (dec_lt b 255) 1 0 + written l

written-pad : (k : ℕ) → written (replicate k 255) ≡ 0
unfolding written
written-pad zero = refl
written-pad (suc k) = rw (if_neg {C = ℕ} (dec_lt 255 255) (omega arith) 1 0, written-pad k) refl

written-bytes : (l r : List ℕ) → ((x : ℕ) → Memᴰ x l → x < thread_count) → written (l ++ r) ≡ length l + written r
unfolding written
written-bytes [] r h = omega arith
written-bytes (x ∷ l) r h =
    let b : x < 255 = omega (arith, h x (Memᴰ.head refl)) in
    rw (if_pos {C = ℕ} (dec_lt x 255) b 1 0, written-bytes l r (λ y m. h y (Memᴰ.tail m))) (omega arith)

module _ (next : ℕ → Option ℕ) (t : ℕ) (w : Walk) (g : Walked next thread_count t w) where
  pub count-is : written (met_bytes w) ≡ length w.threads
  unfolding met_bytes
  count-is = rw (written-bytes w.threads (replicate (thread_count - length w.threads) 255) g.inside, written-pad) (omega arith)

  pub at_most : length w.threads ≤ thread_count
  at_most = distinct-short thread_count w.threads g.distinct g.inside

  pub met-length : length (met_bytes w) ≡ thread_count
  unfolding met_bytes
  met-length =
      length-append w.threads (replicate (thread_count - length w.threads) 255)
      ∙ omega (arith, at_most, length-replicate {A = ℕ} (thread_count - length w.threads) 255)

  -- the number returned: the count, with 256 more exactly if a ring closed
  pub met-count : met_count w ≡ written (met_bytes w) + cond w.ring 256 0
  unfolding met_count
  met-count = ap (λ (n : ℕ). n + cond w.ring 256 0) (sym count-is)
