-- What an accepted walk returns and writes is as WalkCall says: `walk_call`.
use Rattle.std.specs.Prelude.{◌≡◌, refl, Bool, true, false, cond, ℕ, zero, suc, ◌+◌, ◌-◌, ◌%◌, ◌≤◌, ◌<◌, length, replicate, drop}
use Rattle.std.proofs.Common.{sym, ◌∙◌}
use Rattle.std.proofs.Math.Path.{ap}
use Rattle.std.proofs.Math.Option.{Option, none, some}
use mathlib.Core.List.Memᴰ
use mathlib.Core.List.{List, [], ◌∷◌, Memᴰ}
use native.Mathlib.Omega.{arith}
use Rattle.std.proofs.Math.ListN.{get_or, get_or-append}
use Rattle.std.proofs.Math.Seq.{get_or-append-add}
use borrow.Author.Tests.{ltb-true}
use Rattle.rules.specs.Sizes.{thread_count, thread_size, threads_place}
use Rattle.rules.specs.Encoding.{thread_from, machine_from}
use Rattle.rules.specs.Steps.{rules_by}
use Rattle.rules.specs.Walk.{Walk, awaits, walk_from, met_bytes, met_count}
use Rattle.rules.specs.Calls.{thread_fault, walk_fault, walk_return, walk_met}
use Rattle.lemmas_rules.specs.Logic.{never}
use Rattle.lemmas_rules.specs.Faults.{first-of-zero, refusal-zero, checked-of}
use Rattle.lemmas_encoding.specs.Runs.{length-chunks}
use Rattle.lemmas_walk.specs.Walked.{Trail, Closes, Walked}
use Rattle.lemmas_walk.specs.Met.{written, at_most, met-length, met-count, count-is}
use Rattle.lemmas_walk.specs.Waits.{walk-right}
use Rattle.theorem_walk_calls.specs.Places.{place_of, member-at, distinct-at, trail-first, trail-next, trail-last}
use Rattle.theorem_walk_calls.specs.WalkCall.{Ring, WalkCall}

replicated : (n i v d : ℕ) → i < n → get_or (replicate n v) i d ≡ v
replicated zero i v d h = absurd (omega arith)
replicated (suc n) zero v d h = refl
replicated (suc n) (suc i) v d h = replicated n i v d (omega arith)

-- ---- of a walk that is as it must be

module _ (next : ℕ → Option ℕ) (t : ℕ) (w : Walk) (g : Walked next thread_count t w) where
  abbrev n : ℕ
  n = length w.threads

  abbrev met : List ℕ
  met = met_bytes w

  few : n ≤ thread_count
  few = at_most next t w g

  count : written met ≡ n
  count = count-is next t w g

  number : met_count w ≡ n + cond w.ring 256 0
  number = met-count next t w g ∙ rw count

  at : (i : ℕ) → i < n → get_or met i 0 ≡ get_or w.threads i 0
  unfolding met_bytes
  at i h = get_or-append w.threads (replicate (thread_count - n) 255) 0 i h

  past : (i : ℕ) → n ≤ i → i < thread_count → get_or met i 0 ≡ 255
  unfolding met_bytes
  past i h l =
      let e : i ≡ n + (i - n) = omega arith in
      ap (λ k. get_or met k 0) e
      ∙ get_or-append-add w.threads (replicate (thread_count - n) 255) (i - n) 0
      ∙ replicated (thread_count - n) (i - n) 255 0 (omega (arith, few))

  -- the walk writes the thread that it starts from
  some_written : 0 < n
  some_written = case w.threads w.ring g.last g.trail g.closes
    where
      case : (l : List ℕ) (ring : Bool) (last : Option ℕ) → Trail next (some t) l last → Closes ring last l → 0 < length l
      case [] true none k c = absurd c
      case [] true (some u) k c = absurd (Memᴰ.not-nil c)
      case [] false none k c = never (cc)
      case [] false (some u) k c = absurd c
      case (x ∷ l) ring last k c = omega arith

  -- whom the last one waits for
  last-waits : next (get_or met (written met - 1) 0) ≡ g.last
  last-waits =
      rw (count, at (n - 1) (omega (arith, some_written)))
      (trail-last next (some t) g.last w.threads g.trail (n - 1) (omega (arith, some_written)))

  ring_of : (u : ℕ) → g.last ≡ some u → Memᴰ u w.threads → Ring next met
  ring_of u e m =
      let k = place_of u w.threads m in
      record {
        place = k.0;
        before = omega (arith, k.1, count);
        closes = last-waits ∙ e ∙ ap some (k.2 ∙ sym (at k.0 k.1));
      }

  unclosed : {A : Type 0} → g.last ≡ none → Ring next met → A
  unclosed e r = let q : some (get_or met r.place 0) ≡ none = sym r.closes ∙ last-waits ∙ e in never (cc)

  -- what is reported, and the number returned, by whether a ring closed
  abbrev Report : ℕ → Type 0
  Report returned =
      (256 ≤ returned → Ring next met)
      × (Ring next met → 256 ≤ returned)
      × (returned < 256 → next (get_or met (written met - 1) 0) ≡ none)

  report : Report (met_count w)
  report = rw number (case w.ring g.last refl g.closes)
    where
      case : (ring : Bool) (last : Option ℕ) → g.last ≡ last → Closes ring last w.threads → Report (n + cond ring 256 0)
      case true none e c = absurd c
      case true (some u) e c = ((λ h. ring_of u e c), (λ r. omega arith), (λ h. absurd (omega arith)))
      case false none e c = ((λ h. absurd (omega (arith, few))), (λ r. unclosed e r), (λ h. last-waits ∙ e))
      case false (some u) e c = absurd c

  count-returned : met_count w % 256 ≡ written met
  count-returned = rw (number, count) (case w.ring)
    where
      case : (ring : Bool) → (n + cond ring 256 0) % 256 ≡ n
      case true = omega (arith, few)
      case false = omega (arith, few)

  of-walk : WalkCall next t (met_count w) met
  of-walk = record {
    size = met-length next t w g;
    count = count-returned;
    threads = λ i h. let l : i < n = omega (arith, count) in rw (at i l) (g.inside _ (member-at w.threads i l));
    unused = λ i h l. past i (omega (arith, count)) l;
    some_written = rw count some_written;
    first =
        let e : some t ≡ some (get_or w.threads 0 0) = trail-first next (some t) g.last w.threads g.trail some_written in
        let f : get_or w.threads 0 0 ≡ t = cc in
        at 0 some_written ∙ f;
    follows = λ i h.
        let l : suc i < n = omega (arith, count) in
        rw (at i (omega arith), at (suc i) l) (trail-next next (some t) g.last w.threads g.trail i l);
    once = λ i k hi hk d.
        let li : i < n = omega (arith, count) in
        let lk : k < n = omega (arith, count) in
        rw (at i li, at k lk) (distinct-at w.threads g.distinct i k li lk d);
    reported = report.0;
    closed = report.1;
    ends = report.2;
  }

-- ---- of the call

module _ (image table state : List ℕ) (t : ℕ) (met : List ℕ) (accepted : walk_fault image table state t met ≡ 0) where
  eight : length (machine_from state).threads ≡ thread_count
  unfolding machine_from
  eight = length-chunks thread_from thread_size thread_count (drop threads_place state)

  -- number 11 does not apply
  below : t < thread_count
  unfolding walk_fault thread_fault
  below =
      let five = first-of-zero _ _ (checked-of image table _ accepted).1 in
      let six = first-of-zero _ _ five.1 in
      let eleven = first-of-zero _ _ six.1 in
      ltb-true t thread_count (refusal-zero _ 11 0 (omega arith) eleven.0)

  -- THE WALK, OF WHAT THE CALL RETURNS AND WRITES
  pub walk_call : WalkCall (awaits (rules_by image table) (machine_from state)) t (walk_return image table state t met)
      (walk_met image table state t met)
  unfolding walk_return walk_met
  walk_call =
      rw accepted (of-walk (awaits (rules_by image table) (machine_from state)) t (walk_from (rules_by image table) (machine_from state) t)
      (walk-right (rules_by image table) (machine_from state) t eight below))
