-- Signals, and up to n of them after their count: what is written is read back and passes the tests, and what passes the tests is
-- written again as it was.
use Rattle.std.specs.Prelude.{◌≡◌, ◌&&◌, leb, take, drop, replicate}
use Rattle.std.proofs.Math.Path.{refl, ap}
use Rattle.std.proofs.Common.{sym, ◌∙◌, mul-suc, mul-add, length-append, length-drop, drop_at, get_or-drop}
use Rattle.std.proofs.Math.Bool.{true}
use mathlib.Core.List.{List, [], ◌∷◌, ◌++◌, append_assoc}
use Prim.Native.Nat.{ℕ, suc, ◌+◌, ◌*◌, ◌-◌, ◌≤◌, ◌<◌}
use native.Mathlib.Omega.{arith}
use Rattle.std.proofs.Math.ListN.{length, get_or}
use Rattle.std.proofs.Math.Seq.{drop-drop}
use borrow.Author.Tests.{leb-true, le-leb}
use Rattle.rules.specs.Sizes.{register_count, value_count_place, values_place, signal_size}
use Rattle.rules.specs.Bytes.{num16, le16, part, is_zeros, blocks, pad, chunks, all_from}
use Rattle.rules.specs.Machine.{Signal}
use Rattle.rules.specs.Encoding.{no_signal, signal_bytes, signal_from, signals_bytes, signals_from}
use Rattle.rules.specs.WellFormed.{signal_tidy, signal_at_tidy, signals_tidy}
use Rattle.bytes_fields.specs.Runs.{all-at, all-holds}
use Rattle.bytes_fields.specs.Put.{put, put_whole, part-drop, get_d_after}
use Rattle.bytes_fields.specs.Each.{each_at}
use Rattle.bytes_fields.specs.Blocks.{blocks-append, chunks-blocks, length-pad, pad-split, block-drop}
use Rattle.bytes_fields.specs.Filled.{pad-at, blocks-push}
use Rattle.lemmas_encoding.specs.Sized.{SizedSignal, SizedSignals}
use Rattle.lemmas_encoding.specs.Lengths.{length-signal}
use Rattle.lemmas_rules.specs.Logic.{and_both, both_hold}
use Rattle.bytes_fields.specs.Tests.{zeros-part}
use Rattle.lemmas_encoding.specs.Runs.{length-chunks, each-chunks, padded-forth, padded-tail, byte-forth, glue}
use Rattle.lemmas_encoding.specs.Numbers.{num16-le16, nums-back, AreBytes, bytes_drop, num16-forth, num-forth}

-- ---- one signal

-- an unused place is zeros
pub no-signal : signal_bytes no_signal ≡ replicate signal_size 0
unfolding signal_bytes blocks pad
no-signal = refl

pub signal-back : (g : Signal) → SizedSignal g → (q : List ℕ) → signal_from (signal_bytes g ++ q) ≡ g
unfolding signal_bytes signal_from
signal-back g z q =
    let rest : List ℕ = blocks le16 (pad 0 register_count g.values) ++ q in
    let a : num16 (le16 g.label ++ (length g.values ∷ rest)) ≡ g.label = num16-le16 _ _ in
    let b : chunks num16 2 (length g.values) rest ≡ g.values =
    rw (pad-split 0 register_count g.values z, blocks-append, append_assoc) (nums-back _ g.values _ refl) in
    λ i. record { label = a i; values = b i }

-- bytes that pass the test
record SignalRead (b : List ℕ) : Type 0 where
  pub few : get_or b 2 0 ≤ register_count
  pub zeros : part (drop 3 b) (2 * get_or b 2 0) (2 * (register_count - get_or b 2 0)) ≡ replicate (2 * (register_count - get_or b 2 0)) 0

signal-read : (b : List ℕ) → signal_size ≤ length b → signal_tidy b ≡ true → SignalRead b
unfolding signal_tidy
signal-read b l e =
    let n = get_or b 2 0 in
    let t = and_both (leb n register_count) (is_zeros (part b (values_place + 2 * n) (2 * (register_count - n)))) e in
    let h : n ≤ register_count = leb-true n register_count t.0 in
    record { few = h; zeros = rw part-drop (zeros-part b (values_place + 2 * n) (2 * (register_count - n)) (omega arith) t.1) }

pub signal-forth : (b : List ℕ) → AreBytes b → signal_size ≤ length b → signal_tidy b ≡ true
    → signal_bytes (signal_from b) ≡ take signal_size b
unfolding signal_bytes signal_from part
signal-forth b h l e =
    let o = signal-read b l e in
    let n = get_or b 2 0 in
    let v : blocks le16 (pad 0 register_count (chunks num16 2 n (drop 3 b))) ≡ part b values_place (2 * register_count) =
    padded-forth le16 num16 0 2 register_count n (drop 3 b) refl o.few
    (λ j lj. num16-forth (drop 3 b) (2 * j) (bytes_drop b 3 h) (simp length-drop (omega (arith, o.few)))) o.zeros in
    let c : length (chunks num16 2 n (drop 3 b)) ∷ [] ≡ part b 2 1 = ap (λ q. q ∷ []) (length-chunks num16 2 n (drop 3 b))
    ∙ byte-forth b 2 (omega arith) in
    rw (get_or-drop 2 b 0 0) (glue b 0 value_count_place (signal_size - value_count_place) _ _ (num-forth b 0 h (omega arith))
    (glue b value_count_place 1 (2 * register_count) _ _ c v))

pub signal-sized : (b : List ℕ) → signal_size ≤ length b → signal_tidy b ≡ true → SizedSignal (signal_from b)
unfolding signal_from
signal-sized b l e = rw (get_or-drop 2 b 0 0, length-chunks num16 2 (get_or b 2 0) (drop 3 b)) (signal-read b l e).few

-- bytes that are written pass the test
pub signal-tidy : (g : Signal) → SizedSignal g → (q : List ℕ) → signal_tidy (signal_bytes g ++ q) ≡ true
unfolding signal_tidy signal_bytes
signal-tidy g z q =
    let n = length g.values in
    both_hold (leb n register_count) _ (le-leb n register_count z)
    (padded-tail le16 2 (λ x. refl) 0 register_count g.values (le16 g.label ++ (n ∷ [])) q (values_place + 2 * n)
    (2 * (register_count - n)) refl z refl refl)

-- ---- places for n signals: one more comes behind k others

pub places-push : (n k : ℕ) (gs : List Signal) (g : Signal) → length gs < n → k ≡ length gs
    → put (blocks signal_bytes (pad no_signal n gs)) (signal_size * k) (signal_bytes g)
    ≡ blocks signal_bytes (pad no_signal n (gs ++ g ∷ []))
places-push n k gs g h e =
    blocks-push signal_bytes signal_size length-signal no_signal n gs g (signal_size * k) (signal_bytes g) h (rw e)
    (omega (arith, length-signal g)) (put_whole _ _ (length-signal _ ∙ sym (length-signal g)))

-- ---- up to n signals after their count, which stands behind the bytes h

module _ (n : ℕ) (gs : List Signal) (z : SizedSignals n gs) (h q : List ℕ) (place : ℕ) (e : place ≡ length h) where
  abbrev whole : List ℕ
  whole = h ++ (signals_bytes n gs ++ q)

  pub count_at : get_or whole place 0 ≡ length gs
  count_at = get_d_after h (signals_bytes n gs ++ q) place 0 0 (omega arith)

  -- with the count as the last byte before the signals
  split : whole ≡ (h ++ length gs ∷ []) ++ (blocks signal_bytes (pad no_signal n gs) ++ q)
  split = sym (append_assoc h (length gs ∷ []) (blocks signal_bytes (pad no_signal n gs) ++ q))

  before : suc place ≡ length (h ++ length gs ∷ [])
  before = simp length-append (omega arith)

  pub signals-back : signals_from place whole ≡ gs
  signals-back =
      rw (count_at, split, drop_at (h ++ length gs ∷ []) (blocks signal_bytes (pad no_signal n gs) ++ q) (suc place) (sym before))
      (rw (pad-split no_signal n gs z.count, blocks-append, append_assoc)
      (chunks-blocks signal_bytes signal_from signal_size length-signal SizedSignal signal-back gs _ z.each))

  -- what follows from signal j on
  pub signal-at : (at j : ℕ) → j < length gs → at ≡ suc place + signal_size * j
      → (r : List ℕ) × (drop at whole ≡ signal_bytes (get_or gs j no_signal) ++ r)
  signal-at at j l f =
      let xs : List Signal = pad no_signal n gs in
      let d : drop at ((h ++ length gs ∷ []) ++ (blocks signal_bytes xs ++ q)) ≡ signal_bytes (get_or xs j no_signal) ++
      (blocks signal_bytes (drop (suc j) xs) ++ q) =
      block-drop signal_bytes signal_size length-signal no_signal (h ++ length gs ∷ []) q xs at j (omega (arith, before))
      (omega (arith, length-pad no_signal n gs, z.count)) in
      (blocks signal_bytes (drop (suc j) xs) ++ q, ap (drop at) split ∙ rw (pad-at no_signal n gs j z.count) at d)

  signal-at-tidy : (j : ℕ) → j < length gs → signal_at_tidy place whole j ≡ true
  unfolding signal_at_tidy
  signal-at-tidy j l =
      let d = signal-at (suc place + signal_size * j) j l refl in
      rw d.1 (signal-tidy (get_or gs j no_signal) (each_at SizedSignal gs j no_signal z.each l) d.0)

  tail-zeros : is_zeros (part whole (suc place + signal_size * length gs) (signal_size * (n - length gs))) ≡ true
  tail-zeros =
      rw split (padded-tail signal_bytes signal_size length-signal no_signal n gs (h ++ length gs ∷ []) q
      (suc place + signal_size * length gs) (signal_size * (n - length gs)) no-signal z.count (omega (arith, before)) refl)

  pub signals-tidy : signals_tidy n place whole ≡ true
  unfolding signals_tidy
  signals-tidy =
      let k = length gs in
      let signals : all_from (signal_at_tidy place whole) 0 k ≡ true =
      all-holds (signal_at_tidy place whole) 0 k (λ j l r. signal-at-tidy j (omega arith)) in
      rw count_at (both_hold (leb k n && all_from (signal_at_tidy place whole) 0 k) _
      (both_hold (leb k n) _ (le-leb k n z.count) signals) tail-zeros)

-- ---- bytes that pass the test of up to n signals, whose count stands at a place

record SignalsRead (n place : ℕ) (b : List ℕ) : Type 0 where
  pub few : get_or b place 0 ≤ n
  pub each : (j : ℕ) → j < get_or b place 0 → signal_tidy (drop (signal_size * j) (drop (suc place) b)) ≡ true
  pub zeros : part (drop (suc place) b) (signal_size * get_or b place 0) (signal_size * (n - get_or b place 0))
      ≡ replicate (signal_size * (n - get_or b place 0)) 0

-- the places of n signals are the first of them and the rest
places : (n k : ℕ) → k ≤ n → signal_size * k + signal_size * (n - k) ≡ signal_size * n
places n k l = sym (mul-add signal_size k (n - k)) ∙ ap (λ m. signal_size * m) (omega arith)

module _ (n place : ℕ) (b : List ℕ) (long : suc place + signal_size * n ≤ length b) (tidy : signals_tidy n place b ≡ true) where
  signals-read : SignalsRead n place b
  unfolding signals_tidy signal_at_tidy
  signals-read =
      let k = get_or b place 0 in
      let t = and_both (leb k n && all_from (signal_at_tidy place b) 0 k)
      (is_zeros (part b (suc place + signal_size * k) (signal_size * (n - k)))) tidy in
      let u = and_both (leb k n) (all_from (signal_at_tidy place b) 0 k) t.0 in
      let l : k ≤ n = leb-true k n u.0 in
      record {
        few = l;
        each = λ j lj. rw drop-drop (all-at (signal_at_tidy place b) 0 k j u.1 (omega arith) (omega arith));
        zeros = rw part-drop (zeros-part b (suc place + signal_size * k) (signal_size * (n - k)) (omega (arith, places n k l)) t.1);
      }

  -- a place of a signal is in the bytes
  inside : (j : ℕ) → j < get_or b place 0 → signal_size ≤ length (drop (signal_size * j) (drop (suc place) b))
  inside j l =
      let few = signals-read.few in
      simp length-drop (omega (arith, few, places n (suc j) (omega (arith, few)), mul-suc signal_size j))

  pub signals-sized : SizedSignals n (signals_from place b)
  signals-sized =
      let o = signals-read in
      let k = get_or b place 0 in
      record {
        count = rw (length-chunks signal_from signal_size k (drop (suc place) b)) o.few;
        each = each-chunks SizedSignal signal_from signal_size k (drop (suc place) b)
            (λ j l. signal-sized (drop (signal_size * j) (drop (suc place) b)) (inside j l) (o.each j l));
      }

  pub signals-forth : AreBytes b → signals_bytes n (signals_from place b) ≡ part b place (1 + signal_size * n)
  unfolding part
  signals-forth h =
      let o = signals-read in
      let k = get_or b place 0 in
      let v : blocks signal_bytes (pad no_signal n (chunks signal_from signal_size k (drop (suc place) b)))
      ≡ part b (suc place) (signal_size * n) =
      padded-forth signal_bytes signal_from no_signal signal_size n k (drop (suc place) b) no-signal o.few
      (λ j l. signal-forth (drop (signal_size * j) (drop (suc place) b))
      (bytes_drop (drop (suc place) b) (signal_size * j) (bytes_drop b (suc place) h)) (inside j l) (o.each j l)) o.zeros in
      let next : place + 1 ≡ suc place = omega arith in
      let c : length (chunks signal_from signal_size k (drop (suc place) b)) ∷ [] ≡ part b place 1 =
      ap (λ m. m ∷ []) (length-chunks signal_from signal_size k (drop (suc place) b)) ∙ byte-forth b place (omega arith) in
      glue b place 1 (signal_size * n) _ _ c (rw next v)
