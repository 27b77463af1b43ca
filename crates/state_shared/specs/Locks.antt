-- The search for the thread that holds a lock: what is read of each thread is its lock set.
use Rattle.std.specs.Prelude.{◌≡◌, refl, ◌≢◌, Bool, true, false, cond, ◌||◌, List, [], ◌∷◌, ◌++◌, ℕ, suc, ◌+◌, ◌<◌, eqb, ltb}
use Rattle.std.specs.Prelude.{get_or, drop, set}
use Rattle.std.proofs.Common.{sym, ◌∙◌, true≢false, drop-drop, eq-eqb, ne_eqb, lt-ltb}
use Rattle.std.proofs.Math.Path.{ap}
use Rattle.std.proofs.Math.Bool.{not}
use Rattle.std.proofs.Math.Decide.{ℕ_discrete}
use native.Mathlib.Omega.{arith}
use Rattle.std.proofs.Math.Dec.{leb-suc-suc}
use Rattle.std.proofs.Math.ListN.{length, length-set}
use Rattle.std.proofs.Math.Seq.{get_or-set_same, get_or-set_other}
use Rattle.rules.specs.Sorts.{thread}
use Rattle.rules.specs.Sizes.{thread_count, locks_place}
use Rattle.rules.specs.Bytes.{num16, has, first_bad}
use Rattle.rules.specs.Machine.{ThreadState, idle, running, Machine, thread_at, locks_of}
use Rattle.rules.specs.Encoding.{thread_raw, thread_bytes}
use Rattle.rules.specs.Steps.{held}
use Rattle.rules.specs.Walk.{holder}
use Rattle.lemmas_encoding.specs.Numbers.{num16-le16}
use Rattle.lemmas_encoding.specs.Layout.{thread-on}
use Rattle.lemmas_rules.specs.Sets.{has-none}
use Rattle.lemmas_rules.specs.Locks.{get_d-set-idle, held-of}
use Rattle.state_thread.specs.Records.{thread_place}
use Rattle.lemmas_encoding.specs.Encoded.{Encodes}
use Rattle.rules.specs.declared.sorts.Thread as sorts

-- thread i is the one left out, or does not hold the lock
unfoldable pub passes : List ℕ → ℕ → ℕ → ℕ → Bool
passes b l out i = eqb i out || not (has l (num16 (drop (thread_place i + locks_place) b)))

-- a search whose test is that of the threads ws, from i on
search : (l : ℕ) (ok : ℕ → Bool) (ws : List ThreadState) (i : ℕ)
    → ((j : ℕ) → j < length ws → ok (i + j) ≡ not (has l (locks_of (get_or ws j idle)))) → first_bad ok i (length ws) ≡ i + holder l ws
unfolding first_bad holder
search l ok [] i h = omega arith
search l ok (w ∷ ws) i h =
    let e : ok i ≡ not (has l (locks_of w)) = ap ok (omega arith) ∙ h 0 (omega arith) in
    rw e (go (has l (locks_of w)) (search l ok ws (i + 1) (λ j lj. ap ok (omega arith) ∙ h (suc j) (omega arith))))
  where
    go : (b : Bool) → first_bad ok (i + 1) (length ws) ≡ i + 1 + holder l ws
        → cond (not b) (first_bad ok (i + 1) (length ws)) i ≡ i + cond b 0 (suc (holder l ws))
    go true ih = omega arith
    go false ih = omega arith

locks-back : (w : ThreadState) (q : List ℕ) → num16 (drop locks_place (thread_bytes w ++ q)) ≡ locks_of w
unfolding thread_bytes thread_raw
locks-back idle q = num16-le16 0 _
locks-back (running locks j) q = num16-le16 locks _

module _ (b : List ℕ) (s : Machine) (z : Encodes b s) where
  locks-are : (i : ℕ) → i < thread_count → num16 (drop (thread_place i + locks_place) b) ≡ locks_of (thread_at s i)
  locks-are i h =
      let d = thread-on s i (thread_place i) z.sized.threads h refl in
      ap num16 (sym (drop-drop locks_place (thread_place i) b)) ∙ rw (z.same, d.1) (locks-back (thread_at s i) d.0)

  -- the search of the bytes finds the first holder but the one left out
  pub holder-found : (l out : ℕ) → first_bad (passes b l out) 0 thread_count ≡ holder l (set s.threads out idle)
  unfolding passes
  holder-found l out =
      let n : length (set s.threads out idle) ≡ thread_count = length-set s.threads out idle ∙ z.sized.threads in
      let f : first_bad (passes b l out) 0 (length (set s.threads out idle)) ≡ 0 + holder l (set s.threads out idle) =
      search l (passes b l out) (set s.threads out idle) 0 (λ j h. ap (passes b l out) (omega arith) ∙ go j (omega arith)
      (ℕ_discrete j out)) in
      rw n at f ∙ omega arith
    where
      go : (j : ℕ) → j < thread_count → Dec (j ≡ out)
          → (eqb j out || not (has l (num16 (drop (thread_place j + locks_place) b)))) ≡ not
          (has l (locks_of (get_or (set s.threads out idle) j idle)))
      go j h (yes e) = rw (eq-eqb j out e, e, get_or-set_same s.threads out idle idle (omega (arith, z.sized.threads)), has-none l)
      go j h (no e) = rw (ne_eqb j out e, locks-are j h, get_or-set_other s.threads out j idle idle e)

-- a lock is held where there is a holder
held-is : (l : ℕ) (ws : List ThreadState) → held l ws ≡ ltb (holder l ws) (length ws)
unfolding held holder
held-is l [] = refl
held-is l (w ∷ ws) = go (has l (locks_of w)) (held-is l ws)
  where
    go : (b : Bool) → held l ws ≡ ltb (holder l ws) (length ws) → (b || held l ws) ≡ ltb (cond b 0 (suc (holder l ws))) (suc (length ws))
    go true ih = sym (lt-ltb 0 (suc (length ws)) (omega arith))
    go false ih = ih ∙ sym (leb-suc-suc (suc (holder l ws)) (length ws))

-- a lock that the threads ws hold, and the thread that does
abbrev pub HeldBy : ℕ → List ThreadState → sorts.Thread → Type 0
HeldBy l ws u = (held l ws ≡ true) × (u ≡ thread (holder l ws))

-- of the threads but t one holds a lock exactly if the search finds it
module _ (s : Machine) (sized : length s.threads ≡ thread_count) (l t : ℕ) where
  abbrev others : List ThreadState
  others = set s.threads t idle

  pub held-by-other : held l others ≡ ltb (holder l others) thread_count
  held-by-other = held-is l others ∙ ap (ltb (holder l others)) (length-set s.threads t idle ∙ sized)

-- no thread but t holds one of these locks
abbrev pub Alone : Machine → ℕ → ℕ → Type 0
Alone s t own = (u l : ℕ) → u ≢ t → has l own ≡ true → has l (locks_of (thread_at s u)) ≡ false

-- where nobody holds a lock the search goes through all threads
holder-none : (l : ℕ) (ws : List ThreadState) → held l ws ≡ false → holder l ws ≡ length ws
unfolding held holder
holder-none l [] h = refl
holder-none l (w ∷ ws) h = go (has l (locks_of w)) h (holder-none l ws)
  where
    go : (b : Bool) → b || held l ws ≡ false → (held l ws ≡ false → holder l ws ≡ length ws)
        → cond b 0 (suc (holder l ws)) ≡ suc (length ws)
    go true h f = absurd (true≢false h)
    go false h f = ap suc (f h)

-- of a lock that thread t has itself the search would find no other holder
pub nobody-else : (s : Machine) (t own l : ℕ) → length s.threads ≡ thread_count → Alone s t own → has l own ≡ true
    → thread_count ≡ holder l (set s.threads t idle)
nobody-else s t own l size alone h =
    sym (holder-none l (set s.threads t idle) (held-of l (set s.threads t idle) (λ u. other u (ℕ_discrete u t)))
    ∙ length-set s.threads t idle
    ∙ size)
  where
    other : (u : ℕ) → Dec (u ≡ t) → has l (locks_of (get_or (set s.threads t idle) u idle)) ≡ false
    other u (yes e) = rw (e, get_d-set-idle s.threads t) (has-none l)
    other u (no n) = rw (get_or-set_other s.threads t u idle idle n) (alone u l n h)
