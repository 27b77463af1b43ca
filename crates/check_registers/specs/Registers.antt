-- The bytes of a running thread's record, where it stands in the state.
use Rattle.std.specs.Prelude.{◌≡◌, false, ◌&&◌, ◌||◌, List, ℕ, ◌+◌, ◌*◌, ◌-◌, ◌^◌, ◌≤◌, ◌<◌, eqb, ltb, get_or, drop}
use Rattle.std.proofs.Math.Nat.{add_assoc}
use Rattle.std.proofs.Math.Seq.{drop-drop, get_or-drop}
use borrow.Author.Tests.{le-leb, lt-leb}
use Rattle.rules.specs.Sizes.{register_count, return_count, return_count_place, returns_place, presence_place, registers_place}
use Rattle.rules.specs.Bytes.{num16, num32, part, is_zeros, has, all_from}
use Rattle.rules.specs.WellFormed.{absent_zero, running_tidy}
use Rattle.bytes_fields.specs.Put.{part-drop}

module _ (s : List ℕ) (at : ℕ) where
  pub absent-at : (r : ℕ) → absent_zero (drop at s) r
      ≡ (has r (num32 (drop (at + presence_place) s)) || eqb (num16 (drop (at + registers_place + 2 * r) s)) 0)
  unfolding absent_zero
  absent-at r = rw (drop-drop presence_place at s, drop-drop (registers_place + 2 * r) at s, ← add_assoc at registers_place (2 * r))

  module _ (n : ℕ) (e : n ≡ get_or s (at + return_count_place) 0) where
    pub running-many : return_count < n → running_tidy (drop at s) ≡ false
    unfolding running_tidy
    running-many h = rw (get_or-drop, ← e, lt-leb n return_count h)

    pub running-few : n ≤ return_count → running_tidy (drop at s) ≡ (is_zeros (part s (at + returns_place + 2 * n) (2 * (return_count - n)))
        && ltb (num32 (drop (at + presence_place) s)) (2 ^ register_count) && all_from (absent_zero (drop at s)) 0 register_count)
    unfolding running_tidy
    running-few h = rw (
      get_or-drop,
      ← e,
      le-leb n return_count h,
      part-drop,
      ← add_assoc at returns_place (2 * n),
      drop-drop presence_place at s,
    )
