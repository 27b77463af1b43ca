-- The labels of a running thread's record, and the record as a whole.
use Rattle.std.specs.Prelude.{◌≡◌, refl, Bool, ◌&&◌, ◌||◌, List, ◌∷◌, ℕ, ◌+◌, ◌*◌, ◌-◌, ◌≤◌, ◌<◌, eqb, leb, get_or, drop}
use Rattle.std.proofs.Math.Path.{sym}
use Rattle.std.proofs.Common.{◌∙◌, true≢false, add_assoc, eq-eqb, ne_eqb, le-ltb, lt-ltb, leb-true}
use Rattle.std.proofs.Math.Bool.{true, false, cond, and-true, and-false, or-false}
use Rattle.std.proofs.Math.Seq.{drop-drop, get_or-drop}
use Rattle.rules.specs.Sizes.{return_count, held_count, idle_label, locks_place, return_count_place}
use Rattle.rules.specs.Sizes.{returns_place, held_count_place, thread_size}
use Rattle.rules.specs.Sizes.{threads_place}
use Rattle.rules.specs.Codes.{cmx_code}
use Rattle.rules.specs.Bytes.{num16, part, is_zeros, has, all_from, every}
use Rattle.rules.specs.Image.{labels, row_at}
use Rattle.rules.specs.Machine.{idle, running}
use Rattle.rules.specs.Encoding.{signals_from, thread_from, job_from}
use Rattle.rules.specs.Steps.{block_at}
use Rattle.rules.specs.WellFormed.{signals_tidy, running_tidy, thread_tidy, place_ok, held_ok, thread_ok}
use Rattle.lemmas_rules.specs.Sets.{has-none}
use Rattle.bytes_fields.specs.Put.{part-drop}
use Rattle.bytes_fields.specs.Runs.{exchange}
use Rattle.bytes_fields.specs.Pieces.{every-chunk}
use Rattle.check_signals.specs.Signals.{signals_good, good-signals, signals-drop}

module _ (image table : List ℕ) where
  -- the return label at place k of a record, t holding the record's locks
  abbrev pub return_ok : ℕ → List ℕ → ℕ → Bool
  return_ok t b k = place_ok image table t (num16 (drop locks_place b)) (num16 (drop (returns_place + 2 * k) b))

  unfoldable pub places_ok : ℕ → List ℕ → Bool
  places_ok t b = place_ok image table t (num16 (drop locks_place b)) (num16 b)
      && all_from (return_ok t b) 0 (get_or b return_count_place 0)

  -- up to 4 held signals of entry 2
  abbrev pub held_good : List ℕ → Bool
  held_good b = signals_good image false held_count held_count_place b

  abbrev held_tidy : List ℕ → Bool
  held_tidy b = signals_tidy held_count held_count_place b

  held-is : (b : List ℕ) → (held_tidy b && every (held_ok image table) (signals_from held_count_place b)) ≡ held_good b
  unfolding held_ok
  held-is b = good-signals image false (held_ok image table) (λ g. sym (or-false _)) held_count held_count_place b

  -- the bytes are tidy, and the thread that they say is well formed
  unfoldable pub thread_good : ℕ → List ℕ → Bool
  thread_good t b =
      cond (eqb (num16 b) idle_label) (is_zeros (part b locks_place (thread_size - locks_place)))
      (running_tidy b && places_ok t b && held_good b)

  abbrev pub thread_at_good : List ℕ → ℕ → Bool
  thread_at_good s t = thread_good t (drop (threads_place + thread_size * t) s)

  pub good-thread : (t : ℕ) (b : List ℕ) → (thread_tidy b && thread_ok image table t (thread_from b)) ≡ thread_good t b
  unfolding thread_tidy thread_ok thread_from thread_good places_ok job_from every
  good-thread t b = go (eqb (num16 b) idle_label)
    where
      go : (i : Bool) → (cond i (is_zeros (part b locks_place (thread_size - locks_place))) (running_tidy b && held_tidy b)
          && thread_ok image table t (cond i idle (running (num16 (drop locks_place b)) (job_from b))))
          ≡ cond i (is_zeros (part b locks_place (thread_size - locks_place))) (running_tidy b && places_ok t b && held_good b)
      go true = and-true (is_zeros (part b locks_place (thread_size - locks_place)))
      go false =
          let ok = place_ok image table t (num16 (drop locks_place b)) in
          let returns : every ok (job_from b).returns ≡ all_from (return_ok t b) 0 (get_or b return_count_place 0) =
          rw (get_or-drop return_count_place b 0 0) (every-chunk num16 2 ok b returns_place 0 (get_or b return_count_place 0)) in
          exchange (running_tidy b) (held_tidy b) (every ok (num16 b
          ∷ (job_from b).returns)) (every (held_ok image table) (job_from b).held)
          ∙ rw (returns, held-is b)

  module _ (t locks l : ℕ) where
    pub place-past : labels image ≤ l → place_ok image table t locks l ≡ false
    unfolding place_ok
    place-past h = rw (le-ltb l (labels image) h)

    pub place-lockless : locks ≡ 0 → place_ok image table t locks l ≡ false
    unfolding place_ok
    place-lockless e = rw (e, has-none (row_at table (block_at image l)).lock, and-false)

    pub place_is : l < labels image
        → place_ok image table t locks l
        ≡ (has (row_at table (block_at image l)).lock locks
        && (eqb (row_at table (block_at image l)).kind cmx_code || eqb (row_at table (block_at image l)).thread t))
    unfolding place_ok
    place_is h = rw (lt-ltb l (labels image) h)

  -- a record where it stands
  module _ (t : ℕ) (s : List ℕ) (at : ℕ) where
    pub return-at : (k : ℕ) → return_ok t (drop at s) k ≡ place_ok image table t (num16 (drop (at + locks_place) s))
        (num16 (drop (at + returns_place + 2 * k) s))
    return-at k = rw (drop-drop locks_place at s, drop-drop (returns_place + 2 * k) at s, ← add_assoc at returns_place (2 * k))

    pub places-at : places_ok t (drop at s) ≡ (place_ok image table t (num16 (drop (at + locks_place) s)) (num16 (drop at s))
        && all_from (return_ok t (drop at s)) 0 (get_or s (at + return_count_place) 0))
    unfolding places_ok
    places-at = rw (drop-drop locks_place at s, get_or-drop at s return_count_place 0)

    pub thread-idle : num16 (drop at s) ≡ idle_label
        → thread_good t (drop at s) ≡ is_zeros (part s (at + locks_place) (thread_size - locks_place))
    unfolding thread_good
    thread-idle e = rw (eq-eqb _ _ e) (rw part-drop)

    module _ (e : num16 (drop at s) ≡ idle_label → ⊥) where
      pub thread-lockless : num16 (drop (at + locks_place) s) ≡ 0 → thread_good t (drop at s) ≡ false
      unfolding thread_good places_ok
      thread-lockless q =
          let none : num16 (drop locks_place (drop at s)) ≡ 0 = rw drop-drop q in
          rw (ne_eqb _ _ e, place-lockless t (num16 (drop locks_place (drop at s))) (num16 (drop at s)) none, and-false)

      pub thread-untidy : running_tidy (drop at s) ≡ false → thread_good t (drop at s) ≡ false
      unfolding thread_good
      thread-untidy q = rw (ne_eqb _ _ e, q)

      pub thread-runs : running_tidy (drop at s) ≡ true
          → thread_good t (drop at s) ≡ (places_ok t (drop at s) && signals_good image false held_count (at + held_count_place) s)
      unfolding thread_good
      thread-runs q = rw (ne_eqb _ _ e, q, signals-drop image false s at held_count held_count_place)

pub few-returns : (s : List ℕ) (at : ℕ) → running_tidy (drop at s) ≡ true → get_or s (at + return_count_place) 0 ≤ return_count
unfolding running_tidy
few-returns s at e = go (leb (get_or (drop at s) return_count_place 0) return_count) refl
  where
    go : (b : Bool) → leb (get_or (drop at s) return_count_place 0) return_count ≡ b → get_or s (at + return_count_place) 0 ≤ return_count
    go true p = rw (← get_or-drop at s return_count_place 0) (leb-true _ return_count p)
    go false p = absurd (true≢false (sym (simp p at e)))
