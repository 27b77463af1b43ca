-- Up to n signals after their count, where they stand in the state.
use Rattle.std.specs.Prelude.{◌≡◌, ◌&&◌, ◌||◌, List, eqb, leb, drop}
use Rattle.std.proofs.Math.Path.{refl}
use Rattle.std.proofs.Common.{◌∙◌, add-one, drop-drop, get_or-drop}
use Rattle.std.proofs.Math.Bool.{Bool, true, false, and-false}
use Prim.Native.Nat.{ℕ, suc, ◌+◌, ◌*◌, ◌-◌, ◌≤◌, ◌<◌}
use Rattle.std.proofs.Math.Nat.{add-zero, add_assoc}
use native.Mathlib.Omega.{arith}
use Rattle.std.proofs.Math.ListN.{get_or}
use borrow.Author.Tests.{le-leb, lt-leb}
use Rattle.rules.specs.Sizes.{register_count, value_count_place, values_place, signal_size}
use Rattle.rules.specs.Codes.{buffered_code, external_code}
use Rattle.rules.specs.Bytes.{num16, part, is_zeros, all_from, every}
use Rattle.rules.specs.Image.{labels, record_at, entry}
use Rattle.rules.specs.Machine.{Signal}
use Rattle.rules.specs.Encoding.{signal_from, signals_from}
use Rattle.rules.specs.WellFormed.{signal_tidy, signal_at_tidy, signals_tidy}
use Rattle.bytes_fields.specs.Put.{part-drop}
use Rattle.bytes_fields.specs.Runs.{all_same, all_both}
use Rattle.bytes_fields.specs.Pieces.{every-chunk}
use Rattle.image_record.specs.Records.{no_record}

-- entry 2, or entry 3 too where a signal from outside may stand
abbrev pub entry_good : List ℕ → Bool → ℕ → Bool
entry_good image external l =
    eqb (entry (record_at image l)) buffered_code || (external && eqb (entry (record_at image l)) external_code)

unfoldable pub signal_good : List ℕ → Bool → List ℕ → Bool
signal_good image external b = signal_tidy b && entry_good image external (num16 b)

-- signal j of those whose count stands at a place
abbrev pub signal_at_good : List ℕ → Bool → ℕ → List ℕ → ℕ → Bool
signal_at_good image external place b j = signal_good image external (drop (suc place + signal_size * j) b)

-- at most n signals from the place of their count on, zeros in the place of others
unfoldable pub signals_good : List ℕ → Bool → ℕ → ℕ → List ℕ → Bool
signals_good image external n place b =
    leb (get_or b place 0) n
    && (is_zeros (part b (suc place + signal_size * get_or b place 0) (signal_size * (n - get_or b place 0)))
    && all_from (signal_at_good image external place b) 0 (get_or b place 0))

module _ (image : List ℕ) (external : Bool) where
  -- the bytes are tidy, and a test of the signals that they say asks for the entries
  pub good-signals : (ok : Signal → Bool) → ((g : Signal) → ok g ≡ entry_good image external g.label) → (n place : ℕ) (b : List ℕ)
      → (signals_tidy n place b && every ok (signals_from place b)) ≡ signals_good image external n place b
  unfolding signals_tidy signals_good signal_good signal_at_tidy signal_from
  good-signals ok h n place b =
      let k = get_or b place 0 in
      let z = is_zeros (part b (suc place + signal_size * k) (signal_size * (n - k))) in
      let entry_at : ℕ → Bool = λ j. entry_good image external (num16 (drop (suc place + signal_size * j) b)) in
      let entries : every ok (signals_from place b) ≡ all_from entry_at 0 k =
      rw add-zero at (every-chunk signal_from signal_size ok b (suc place) 0 k)
      ∙ all_same (λ j. ok (signal_from (drop (suc place + signal_size * j) b))) entry_at 0 k (λ j p q. h _) in
      let tidy = all_from (signal_at_tidy place b) 0 k in
      let both : all_from (signal_at_good image external place b) 0 k ≡ (tidy && every ok (signals_from place b)) =
      all_both (signal_at_tidy place b) entry_at 0 k ∙ rw (← entries) in
      rw both (go (leb k n) tidy z (every ok (signals_from place b)))
    where
      go : (l a z p : Bool) → (l && a && z && p) ≡ (l && (z && (a && p)))
      go false a z p = refl
      go true true z p = refl
      go true false true p = refl
      go true false false p = refl

module _ (image : List ℕ) (external : Bool) (s : List ℕ) (at : ℕ) where
  pub signal-at-label : signal_good image external (drop at s) ≡ (signal_tidy (drop at s) && entry_good image external (num16 (drop at s)))
  unfolding signal_good
  signal-at-label = refl

  pub signal-past : labels image ≤ num16 (drop at s) → signal_good image external (drop at s) ≡ false
  unfolding signal_good
  signal-past h = rw (no_record image (num16 (drop at s)) h, and-false external, and-false)

  module _ (n k : ℕ) (e : k ≡ get_or s at 0) where
    pub signals-many : n < k → signals_good image external n at s ≡ false
    unfolding signals_good
    signals-many h = rw (← e, lt-leb k n h)

    pub signals-few : k ≤ n
        → signals_good image external n at s
        ≡ (is_zeros (part s (at + 1 + signal_size * k) (signal_size * (n - k))) && all_from (signal_at_good image external at s) 0 k)
    unfolding signals_good
    signals-few h = rw (← e, le-leb k n h, add-one)

  pub signal-at : (j : ℕ) → signal_at_good image external at s j ≡ signal_good image external (drop (at + 1 + signal_size * j) s)
  signal-at j = rw add-one

  -- the same in the bytes from a place on
  pub signals-drop : (n place : ℕ) → signals_good image external n (at + place) s ≡ signals_good image external n place (drop at s)
  unfolding signals_good
  signals-drop n place =
      let k = get_or s (at + place) 0 in
      let behind : (x : ℕ) → at + (suc place + x) ≡ suc (at + place) + x = λ x. omega arith in
      let each : all_from (signal_at_good image external place (drop at s)) 0 k
      ≡ all_from (signal_at_good image external (at + place) s) 0 k =
      all_same (signal_at_good image external place (drop at s)) _ 0 k
      (λ j p q. rw (drop-drop (suc place + signal_size * j) at s, behind (signal_size * j))) in
      rw (get_or-drop at s place 0, part-drop, behind (signal_size * k), each)

module _ (s : List ℕ) (at n : ℕ) (e : n ≡ get_or s (at + value_count_place) 0) where
  pub signal-many : register_count < n → signal_tidy (drop at s) ≡ false
  unfolding signal_tidy
  signal-many h = rw (get_or-drop, ← e, lt-leb n register_count h)

  pub signal-few : n ≤ register_count → signal_tidy (drop at s) ≡ is_zeros (part s (at + values_place + 2 * n) (2 * (register_count - n)))
  unfolding signal_tidy
  signal-few h = rw (get_or-drop, ← e, le-leb n register_count h, part-drop, ← add_assoc at values_place (2 * n))
