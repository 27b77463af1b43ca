-- Lock sets: what taking a lock changes, and when a lock that is wanted is free.
use Rattle.std.specs.Prelude.{◌≡◌, ◌≢◌, ◌⊎◌, Bool, true, cond, ◌||◌, List, [], ◌∷◌, ℕ, zero, suc, ◌^◌, get_or, set}
use Rattle.std.proofs.Math.Path.{refl}
use Rattle.std.proofs.Common.{sym, ◌∙◌, inl, inr, true≢false, get_or-set_other}
use Rattle.std.proofs.Math.Bool.{false, or-true}
use Rattle.std.proofs.Math.Option.{Option, none, some}
use Rattle.std.proofs.Math.Decide.{ℕ_discrete}
use Rattle.std.specs.Int.Bits.{bit_or}
use Rattle.rules.specs.Bytes.{has}
use Rattle.rules.specs.Machine.{ThreadState, idle, locks_of}
use Rattle.rules.specs.Steps.{Rules, held, blocked, grant}
use Rattle.lemmas_rules.specs.Sets.{has-none, has_same, has_other, has-again}

or-false : (a b : Bool) → a || b ≡ false → (a ≡ false) × (b ≡ false)
or-false true b h = absurd (true≢false h)
or-false false b h = (refl, h)

or-intro : (a b : Bool) → a ≡ false → b ≡ false → a || b ≡ false
or-intro a b h k = rw (h, k) refl

cond-none : (c : Bool) (b : ℕ) → cond c (some b) none ≡ none → c ≡ false
cond-none true b h = cc
cond-none false b h = refl

pub get_d-set-idle : (ts : List ThreadState) (t : ℕ) → get_or (set ts t idle) t idle ≡ idle
get_d-set-idle [] t = refl
get_d-set-idle (x ∷ ts) zero = refl
get_d-set-idle (x ∷ ts) (suc t) = get_d-set-idle ts t

-- who holds a lock
pub held-false : (l : ℕ) (ts : List ThreadState) → held l ts ≡ false → (k : ℕ) → has l (locks_of (get_or ts k idle)) ≡ false
unfolding held
held-false l [] h k = has-none l
held-false l (x ∷ ts) h zero = (or-false (has l (locks_of x)) (held l ts) h).0
held-false l (x ∷ ts) h (suc k) = held-false l ts (or-false (has l (locks_of x)) (held l ts) h).1 k

pub held-of : (l : ℕ) (ts : List ThreadState) → ((k : ℕ) → has l (locks_of (get_or ts k idle)) ≡ false) → held l ts ≡ false
unfolding held
held-of l [] h = refl
held-of l (x ∷ ts) h = or-intro _ _ (h zero) (held-of l ts (λ k. h (suc k)))

held-there : (l : ℕ) (ts : List ThreadState) (k : ℕ) → has l (locks_of (get_or ts k idle)) ≡ true → held l ts ≡ true
unfolding held
held-there l [] k h = absurd (true≢false (sym h ∙ has-none l))
held-there l (x ∷ ts) zero h = rw h
held-there l (x ∷ ts) (suc k) h = rw (held-there l ts k h) (or-true (has l (locks_of x)))

module _ (R : Rules) where
  pub grant-keeps : (w : Option ℕ) (l k : ℕ) → has l k ≡ true → has l (grant R w k) ≡ true
  grant-keeps none l k h = h
  grant-keeps (some b) l k h = go (ℕ_discrete l (R.lock b))
    where
      go : Dec (l ≡ R.lock b) → has l (bit_or k (2 ^ R.lock b)) ≡ true
      go (yes e) = rw e (has_same (R.lock b) k)
      go (no n) = has_other l (R.lock b) k n ∙ h

  pub grant-takes : (w : Option ℕ) (b k : ℕ) → w ≡ some b → has (R.lock b) (grant R w k) ≡ true
  grant-takes w b k e = rw e (has_same (R.lock b) k)

  pub grant-either : (w : Option ℕ) (l k : ℕ) → has l (grant R w k) ≡ true → (has l k ≡ true) ⊎ ((b : ℕ) × (w ≡ some b) × (l ≡ R.lock b))
  grant-either none l k h = inl h
  grant-either (some b) l k h = go (ℕ_discrete l (R.lock b))
    where
      go : Dec (l ≡ R.lock b) → (has l k ≡ true) ⊎ ((c : ℕ) × (some b ≡ some c) × (l ≡ R.lock c))
      go (yes e) = inr (b, refl, e)
      go (no n) = inl (sym (has_other l (R.lock b) k n) ∙ h)

  -- the lock that is wanted is held by no thread other than t
  abbrev pub Clear : List ThreadState → ℕ → Option ℕ → Type 0
  Clear ts t w = (b : ℕ) → w ≡ some b → (k : ℕ) → k ≢ t → has (R.lock b) (locks_of (get_or ts k idle)) ≡ false

  pub blocked-clear : (ts : List ThreadState) (t : ℕ) (w : Option ℕ) → blocked R t ts w ≡ none → Clear ts t w
  unfolding blocked
  blocked-clear ts t none h b e k n = cc
  blocked-clear ts t (some c) h b e k n =
      let f : has (R.lock c) (locks_of (get_or (set ts t idle) k idle)) ≡ false =
      held-false (R.lock c) (set ts t idle) (cond-none _ _ h) k
      in
      let g : c ≡ b = cc in
      rw (get_or-set_other ts t k idle idle n, g) at f

  pub clear-blocked : (ts : List ThreadState) (t : ℕ) (w : Option ℕ) → Clear ts t w → blocked R t ts w ≡ none
  unfolding blocked
  clear-blocked ts t none h = refl
  clear-blocked ts t (some b) h = rw (held-of (R.lock b) (set ts t idle) (λ k. go k (ℕ_discrete k t))) refl
    where
      go : (k : ℕ) → Dec (k ≡ t) → has (R.lock b) (locks_of (get_or (set ts t idle) k idle)) ≡ false
      go k (yes e) = rw (e, get_d-set-idle ts t) (has-none (R.lock b))
      go k (no n) = rw (get_or-set_other ts t k idle idle n) (h b refl k n)

  -- ---- one lock guards several blocks: what counts is the lock, not the block through which it was taken

  -- a lock that a thread holds already is not taken twice
  pub grant-again : (b k : ℕ) → has (R.lock b) k ≡ true → grant R (some b) k ≡ k
  grant-again b k h = has-again (R.lock b) k h

  -- a thread is hindered by another that holds the lock
  pub blocked-by : (ts : List ThreadState) (t k b : ℕ) → k ≢ t → has (R.lock b) (locks_of (get_or ts k idle)) ≡ true
      → blocked R t ts (some b) ≡ some (R.lock b)
  unfolding blocked
  blocked-by ts t k b n h =
      rw (held-there (R.lock b) (set ts t idle) k (rw (get_or-set_other ts t k idle idle n) h)) refl
