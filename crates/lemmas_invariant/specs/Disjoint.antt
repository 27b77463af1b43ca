-- No lock in two sets: what the test of lock sets says, lock by lock.
use Rattle.std.specs.Prelude.{◌≡◌, refl, Bool, true, false, ◌≢◌, List, [], ◌∷◌, ℕ, zero, suc, eqb, get_or}
use Rattle.std.proofs.Common.{ap, arith, eqb-true, eq-eqb}
use Rattle.std.specs.Int.Bits.{bit_and}
use Rattle.rules.specs.Bytes.{has, every}
use Rattle.rules.specs.Machine.{ThreadState, idle, locks_of}
use Rattle.rules.specs.WellFormed.{apart}
use Rattle.lemmas_rules.specs.Sets.{has-none}
use Rattle.lemmas_rules.specs.Disjoint.{Disjoint, zero_disjoint, disjoint-zero, turned}
use Rattle.lemmas_rules.specs.Logic.{and_both, both_hold}

-- ---- over all threads

abbrev clear : ThreadState → ThreadState → Bool
clear w v = eqb (bit_and (locks_of w) (locks_of v)) 0

clear_at : (w : ThreadState) (ws : List ThreadState) (k : ℕ) → every (clear w) ws ≡ true
    → Disjoint (locks_of w) (locks_of (get_or ws k idle))
unfolding every
clear_at w [] k h = λ l e. has-none l
clear_at w (v ∷ ws) zero h = zero_disjoint _ _ (eqb-true _ 0 (and_both (clear w v) (every (clear w) ws) h).0)
clear_at w (v ∷ ws) (suc k) h = clear_at w ws k (and_both (clear w v) (every (clear w) ws) h).1

-- any two threads' sets
abbrev pub AllDisjoint : List ThreadState → Type 0
AllDisjoint ws = (t u l : ℕ) → t ≢ u → has l (locks_of (get_or ws t idle)) ≡ true → has l (locks_of (get_or ws u idle)) ≡ false

pub apart-disjoint : (ws : List ThreadState) → apart ws ≡ true → AllDisjoint ws
unfolding apart
apart-disjoint [] h t u l n e = has-none l
apart-disjoint (w ∷ ws) h zero zero l n e = absurd (n refl)
apart-disjoint (w ∷ ws) h zero (suc u) l n e = clear_at w ws u (and_both (every (clear w) ws) (apart ws) h).0 l e
apart-disjoint (w ∷ ws) h (suc t) zero l n e = turned _ _ (clear_at w ws t (and_both (every (clear w) ws) (apart ws) h).0) l e
apart-disjoint (w ∷ ws) h (suc t) (suc u) l n e =
    apart-disjoint ws (and_both (every (clear w) ws) (apart ws) h).1 t u l (λ p. n (ap suc p)) e

all-clear : (w : ThreadState) (ws : List ThreadState) → ((k : ℕ) → Disjoint (locks_of w) (locks_of (get_or ws k idle)))
    → every (clear w) ws ≡ true
unfolding every
all-clear w [] d = refl
all-clear w (v ∷ ws) d =
    both_hold (clear w v) (every (clear w) ws) (eq-eqb _ 0 (disjoint-zero (locks_of w) _ _ (omega arith) (d 0)))
    (all-clear w ws (λ k. d (suc k)))

pub disjoint-apart : (ws : List ThreadState) → AllDisjoint ws → apart ws ≡ true
unfolding apart
disjoint-apart [] d = refl
disjoint-apart (w ∷ ws) d =
    both_hold _ (apart ws) (all-clear w ws (λ k l. d zero (suc k) l (λ p. absurd (omega arith))))
    (disjoint-apart ws (λ t u l n. d (suc t) (suc u) l (λ p. n (omega arith))))
