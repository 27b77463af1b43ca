-- A signal as a value of the code: the signal that it means, and its bytes.
use Rattle.std.specs.Prelude.{◌≡◌, refl, true, List, [], ◌∷◌, ◌++◌, ℕ, ◌≤◌, get_or, take, drop}
use Rattle.std.proofs.Common.{sym, ap, ◌∙◌, take-append-drop, take_at}
use Rattle.std.proofs.Math.ListN.{length}
use Rattle.std.proofs.Math.Seq.{length-take-le}
use Rattle.rules.specs.Sizes.{register_count, signal_size}
use Rattle.rules.specs.Sorts.{label}
use Rattle.rules.specs.Bytes.{num16, le16, blocks, pad, chunks}
use Rattle.rules.specs.Machine as law
use Rattle.rules.specs.Encoding.{signal_bytes, signal_from}
use Rattle.rules.specs.WellFormed.{signal_tidy}
use Rattle.bytes_fields.specs.Blocks.{pad-split, length-pad}
use Rattle.lemmas_encoding.specs.Sized.{SizedSignal}
use Rattle.lemmas_encoding.specs.Numbers.{num16-le16, nums-back, AreBytes}
use Rattle.lemmas_encoding.specs.Signals.{signal-forth, signal-sized}
use Rattle.state_signal.specs.declared.Signal.{Signal}

-- the label, and as many values as are counted
abbrev pub signal_of : Signal → law.Signal
signal_of g = record { label = g.label.0; values = take g.count g.values }

-- at most 25 values are counted, and zeros stand in the place of others
pub record TidySignal (g : Signal) : Type 0 where
  pub few : g.count ≤ register_count
  pub zeros : pad 0 register_count (take g.count g.values) ≡ g.values

-- the value for a signal
abbrev pub signal_for : law.Signal → Signal
signal_for g = record { label = label g.label; count = length g.values; values = pad 0 register_count g.values }

-- the value that is read where the bytes b stand
unfoldable pub signal_read : List ℕ → Signal
signal_read b = record { label = label (num16 b); count = get_or b 2 0; values = chunks num16 2 register_count (drop 3 b) }

-- ---- read

value-back : (g : law.Signal) (q : List ℕ) → signal_read (signal_bytes g ++ q) ≡ signal_for g
unfolding signal_read signal_bytes
value-back g q =
    let v : chunks num16 2 register_count (blocks le16 (pad 0 register_count g.values) ++ q) ≡ pad 0 register_count g.values =
    nums-back register_count (pad 0 register_count g.values) q (length-pad 0 register_count g.values) in
    let a : num16 (le16 g.label ++ (length g.values ∷ (blocks le16 (pad 0 register_count g.values) ++ q))) ≡ g.label =
    num16-le16 _ _ in
    λ i. record { label = label (a i); count = length g.values; values = v i }

counted : (g : law.Signal) → SizedSignal g → take (length g.values) (pad 0 register_count g.values) ≡ g.values
counted g z = rw (pad-split 0 register_count g.values z) (take_at g.values _ (length g.values) refl)

-- what is read means the signal that was written, and is tidy
pub read_back : (g : law.Signal) → SizedSignal g → (q : List ℕ) {r : Signal} → r ≡ signal_read (signal_bytes g ++ q)
    → (signal_of r ≡ g) × TidySignal r
read_back g z q e = rw (e, value-back g q) (
  λ i. record { label = g.label; values = counted g z i },
  record {
    few = z;
    zeros =
        rw (counted g z);
  },
)

-- the same of bytes that pass the test
pub read-tidy : (b : List ℕ) → AreBytes b → signal_size ≤ length b → signal_tidy b ≡ true → {r : Signal} → r ≡ signal_read b
    → (signal_of r ≡ signal_from b) × TidySignal r
read-tidy b h l t e =
    let f : b ≡ signal_bytes (signal_from b) ++ drop signal_size b = sym (rw (signal-forth b h l t) (take-append-drop signal_size b)) in
    read_back (signal_from b) (signal-sized b l t) (drop signal_size b) (e ∙ ap signal_read f)

-- ---- written

module _ (g : Signal) (l : length g.values ≡ register_count) (h : TidySignal g) where
  pub value-bytes : le16 g.label.0 ++ ((g.count ∷ []) ++ blocks le16 g.values) ≡ signal_bytes (signal_of g)
  unfolding signal_bytes
  value-bytes =
      let n : length (take g.count g.values) ≡ g.count = length-take-le g.count g.values (rw l h.few) in
      rw (n, h.zeros)

  pub value-sized : SizedSignal (signal_of g)
  value-sized = rw (length-take-le g.count g.values (rw l h.few)) h.few
