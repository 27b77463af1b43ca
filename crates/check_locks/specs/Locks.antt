-- "No lock in two sets", tested by one pass: each set has none of the locks of the sets before it.
use Rattle.std.specs.Prelude.{◌≡◌, refl, Bool, true, ◌&&◌, ℕ, ◌+◌, ◌*◌, ◌-◌, ◌/◌, ◌%◌, ◌≤◌, ◌<◌, min, max, eqb, drop}
use Rattle.std.proofs.Math.Path.{sym}
use Rattle.std.proofs.Common.{ap, ◌∙◌, drop-drop, eq-eqb, ne_eqb}
use Rattle.std.proofs.Math.Bool.{and_assoc, and-true}
use mathlib.Core.List.{List, [], ◌∷◌}
use native.Mathlib.Omega.{arith}
use Rattle.std.proofs.Math.Arith.{bin_ind}
use Rattle.std.specs.Int.Bits.{bit_and, bit_or, and_step, or_step}
use Rattle.rules.specs.Sizes.{thread_count, idle_label, locks_place, thread_size, threads_place}
use Rattle.rules.specs.Bytes.{num16, every, chunks}
use Rattle.rules.specs.Machine.{ThreadState, locks_of}
use Rattle.rules.specs.Encoding.{thread_from}
use Rattle.rules.specs.WellFormed.{apart}
use Rattle.bytes_fields.specs.Tests.{or-none}
use Rattle.bytes_fields.specs.Runs.{exchange}
use Rattle.bytes_fields.specs.Pieces.{chunk-step, chunk-done}

and-or : (a b c : ℕ) → bit_and (bit_or a b) c ≡ bit_or (bit_and a c) (bit_and b c)
and-or = bin_ind (λ a. (b c : ℕ) → bit_and (bit_or a b) c ≡ bit_or (bit_and a c) (bit_and b c))
    (λ b c. refl) step
  where
    step : (a : ℕ) → ((b c : ℕ) → bit_and (bit_or (a / 2) b) c ≡ bit_or (bit_and (a / 2) c) (bit_and b c)) → (b c : ℕ)
        → bit_and (bit_or a b) c ≡ bit_or (bit_and a c) (bit_and b c)
    step a ih b c =
        let p : bit_or a b / 2 ≡ bit_or (a / 2) (b / 2) = omega (arith, or_step a b) in
        let q : bit_and a c / 2 ≡ bit_and (a / 2) (c / 2) = omega (arith, and_step a c) in
        let r : bit_and b c / 2 ≡ bit_and (b / 2) (c / 2) = omega (arith, and_step b c) in
        let l : bit_and (bit_or a b) c ≡ bit_and (bit_or (a / 2) (b / 2)) (c / 2) * 2 + min (bit_or a b % 2) (c % 2) =
        and_step (bit_or a b) c ∙ rw p in
        let m : bit_or (bit_and a c) (bit_and b c) ≡ bit_or (bit_and (a / 2) (c / 2)) (bit_and (b / 2) (c / 2)) * 2 + max (bit_and a c % 2)
        (bit_and b c % 2) = or_step (bit_and a c) (bit_and b c) ∙ rw (q, r) in
        let o : bit_or a b % 2 ≡ max (a % 2) (b % 2) = omega (arith, or_step a b) in
        let x : bit_and a c % 2 ≡ min (a % 2) (c % 2) = omega (arith, and_step a c) in
        let y : bit_and b c % 2 ≡ min (b % 2) (c % 2) = omega (arith, and_step b c) in
        omega (arith, ih (b / 2) (c / 2))

-- a thread has none of these locks
abbrev pub without : ℕ → ThreadState → Bool
without seen w = eqb (bit_and seen (locks_of w)) 0

without-or : (a b : ℕ) (ws : List ThreadState) → every (without (bit_or a b)) ws ≡ (every (without a) ws && every (without b) ws)
unfolding every
without-or a b [] = refl
without-or a b (w ∷ ws) =
    let e : without (bit_or a b) w ≡ (without a w && without b w) = ap (λ n. eqb n 0) (and-or a b (locks_of w))
    ∙ or-none (bit_and a (locks_of w)) (bit_and b (locks_of w)) in
    rw (e, without-or a b ws) (exchange (without a w) (without b w) (every (without a) ws) (every (without b) ws))

-- each thread has none of the locks seen before it
unfoldable pub none_seen : ℕ → List ThreadState → Bool
none_seen seen [] = true
none_seen seen (w ∷ ws) = without seen w && none_seen (bit_or seen (locks_of w)) ws

none-seen-is : (seen : ℕ) (ws : List ThreadState) → none_seen seen ws ≡ (every (without seen) ws && apart ws)
unfolding none_seen every apart
none-seen-is seen [] = refl
none-seen-is seen (w ∷ ws) =
    rw (none-seen-is (bit_or seen (locks_of w)) ws, without-or seen (locks_of w) ws)
    (ap (λ x. without seen w && x) (and_assoc (every (without seen) ws) (every (without (locks_of w)) ws) (apart ws))
    ∙ sym (and_assoc (without seen w) (every (without seen) ws) (every (without (locks_of w)) ws && apart ws)))

none-held : (ws : List ThreadState) → every (without 0) ws ≡ true
unfolding every
none-held [] = refl
none-held (w ∷ ws) = none-held ws

pub none-seen-apart : (ws : List ThreadState) → none_seen 0 ws ≡ apart ws
none-seen-apart ws = none-seen-is 0 ws ∙ rw (none-held ws)

-- A loop that goes through the threads' records in s, with the outcome so far.
abbrev pub Scanned : List ℕ → ℕ → Bool → ℕ → Type 0
Scanned s seen ok t = (t ≤ thread_count) × (apart (chunks thread_from thread_size thread_count (drop threads_place s))
    ≡ (ok && none_seen seen (chunks thread_from thread_size (thread_count - t) (drop (threads_place + thread_size * t) s))))

module _ (s : List ℕ) where
  pub scanned-none : Scanned s 0 true 0
  scanned-none = (omega arith, sym (none-seen-apart (chunks thread_from thread_size thread_count (drop threads_place s))))

  module _ (seen : ℕ) (ok : Bool) (t : ℕ) (inv : Scanned s seen ok t) where
    pub scanned-next : (locks : ℕ) → t < thread_count → locks ≡ locks_of (thread_from (drop (threads_place + thread_size * t) s))
        → Scanned s (bit_or seen locks) (ok && eqb (bit_and seen locks) 0) (t + 1)
    unfolding none_seen
    scanned-next locks h e =
        let w : ThreadState = thread_from (drop (threads_place + thread_size * t) s) in
        let l : List ThreadState = chunks thread_from thread_size (thread_count - (t + 1)) (drop (threads_place + thread_size * (t + 1)) s)
        in (
          omega arith,
          inv.1 ∙ rw (chunk-step thread_from thread_size s threads_place thread_count t h, e)
              (sym (and_assoc ok (without seen w) (none_seen (bit_or seen (locks_of w)) l))),
        )

    pub scanned-all : thread_count ≤ t → ok ≡ apart (chunks thread_from thread_size thread_count (drop threads_place s))
    unfolding none_seen
    scanned-all h = sym (inv.1 ∙ rw (chunk-done thread_from thread_size (drop (threads_place + thread_size * t) s) thread_count t
        (omega arith)) (and-true ok))

-- the locks that a thread record says
module _ (s : List ℕ) (at : ℕ) where
  -- an idle thread holds no lock
  pub idle-locks : num16 (drop at s) ≡ idle_label → locks_of (thread_from (drop at s)) ≡ 0
  unfolding thread_from
  idle-locks e = rw (eq-eqb _ _ e)

  pub running-locks : (num16 (drop at s) ≡ idle_label → ⊥) → locks_of (thread_from (drop at s)) ≡ num16 (drop (at + locks_place) s)
  unfolding thread_from
  running-locks e = rw (ne_eqb _ _ e) (rw drop-drop)
