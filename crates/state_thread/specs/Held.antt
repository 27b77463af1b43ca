-- The signals that a thread's job holds, as its record has them: their count, and places for four, oldest first, zeros where none is held.
use Rattle.std.specs.Prelude.{◌≡◌, List, [], ◌∷◌, ◌++◌, ℕ, suc, ◌+◌, ◌*◌, ◌≤◌, ◌<◌, length, get_or, drop, replicate}
use Rattle.std.proofs.Math.Path.{refl}
use Rattle.std.proofs.Common.{sym, ap, ◌∙◌, append-nil, arith, length-append}
use Rattle.rules.specs.Sizes.{held_count, held_size, signal_size}
use Rattle.rules.specs.Bytes.{blocks, pad, chunks}
use Rattle.rules.specs.Machine.{Signal}
use Rattle.rules.specs.Encoding.{no_signal, signal_bytes, signal_from, signals_bytes, signals_from}
use Rattle.bytes_fields.specs.Each.{each_or, each_append}
use Rattle.bytes_fields.specs.Put.{put}
use Rattle.bytes_fields.specs.Blocks.{block-drop, length-pad}
use Rattle.bytes_fields.specs.Filled.{pad-at}
use Rattle.lemmas_encoding.specs.Sized.{SizedSignal, SizedSignals}
use Rattle.lemmas_encoding.specs.Lengths.{length-signal}
use Rattle.lemmas_encoding.specs.Runs.{length-chunks}
use Rattle.lemmas_encoding.specs.Signals.{signals-back, no-signal, places-push}
use Rattle.state_signal.specs.Signals.{signal_of, TidySignal, signal_read, read_back}
use Rattle.state_signal.specs.declared.Signal as Value

abbrev pub held_from : ℕ → List ℕ → List Signal
held_from n signals = chunks signal_from signal_size n signals

-- count and places are the bytes of the signals that they say
pub record TidyHeld (n : ℕ) (signals : List ℕ) : Type 0 where
  pub within : n ≤ held_count
  pub sized : SizedSignals held_count (held_from n signals)
  pub bytes : n ∷ signals ≡ signals_bytes held_count (held_from n signals)

-- a count of 0 says none, whatever stands behind it
pub no-signals : {n : ℕ} (signals : List ℕ) → n ≡ 0 → held_from n signals ≡ []
unfolding chunks
no-signals signals e = rw e refl

-- the bytes of signals say them
pub held-of : (n : ℕ) (signals : List ℕ) (gs : List Signal) → SizedSignals held_count gs → n ∷ signals ≡ signals_bytes held_count gs
    → (held_from n signals ≡ gs) × TidyHeld n signals
held-of n signals gs z e =
    let f : held_from n signals ≡ gs = ap (signals_from 0) (e ∙ sym (append-nil (signals_bytes held_count gs)))
    ∙ signals-back held_count gs z [] [] 0 refl in
    (f, record { within = omega (arith, ap (λ l. get_or l 0 0) e, z.count); sized = rw f z; bytes = rw f e })

pub none-held : TidyHeld 0 (replicate held_size 0)
none-held = (held-of 0 (replicate held_size 0) [] (record { count = omega arith; each = tt }) zeros).1
  where
    zeros : 0 ∷ replicate held_size 0 ≡ signals_bytes held_count []
    zeros = unfold blocks pad in rw no-signal refl

-- signals that are the same have the same bytes
pub same-held : {n n' : ℕ} {signals signals' : List ℕ} → TidyHeld n signals → TidyHeld n' signals'
    → held_from n signals ≡ held_from n' signals' → n ∷ signals ≡ n' ∷ signals'
same-held z z' e = z.bytes ∙ ap (signals_bytes held_count) e ∙ sym z'.bytes

module _ (n : ℕ) (signals : List ℕ) (z : TidyHeld n signals) where
  abbrev gs : List Signal
  gs = held_from n signals

  pub held-counted : length gs ≡ n
  held-counted = length-chunks signal_from signal_size n signals

  places : signals ≡ blocks signal_bytes (pad no_signal held_count gs)
  places = ap (drop 1) z.bytes

  -- the signal at a place: where none is held, that without label and values
  pub held_at : (i : ℕ) {r : Value.Signal} → i < held_count → r ≡ signal_read (drop (signal_size * i) signals)
      → (signal_of r ≡ get_or gs i no_signal) × TidySignal r
  held_at i h e =
      let xs : List Signal = pad no_signal held_count gs in
      let rest : List ℕ = blocks signal_bytes (drop (suc i) xs) ++ [] in
      let d : drop (signal_size * i) signals ≡ signal_bytes (get_or gs i no_signal) ++ rest =
      ap (drop (signal_size * i)) (places ∙ sym (append-nil (blocks signal_bytes xs)))
      ∙ block-drop signal_bytes signal_size length-signal no_signal [] [] xs (signal_size * i) i (omega arith)
      (omega (arith, length-pad no_signal held_count gs))
      ∙ ap (λ g. signal_bytes g ++ rest) (pad-at no_signal held_count gs i z.sized.count) in
      read_back (get_or gs i no_signal) (each_or SizedSignal gs i no_signal z.sized.each (omega arith)) rest (e ∙ ap signal_read d)

  -- one more signal held
  module _ (g : Signal) (h : n < held_count) (k : SizedSignal g) where
    abbrev more : List ℕ
    more = put signals (signal_size * n) (signal_bytes g)

    pub held-pushed : (held_from (n + 1) more ≡ gs ++ g ∷ []) × TidyHeld (n + 1) more
    held-pushed = held-of (n + 1) more (gs ++ g ∷ []) (record {
      count = simp length-append (omega (arith, held-counted));
      each = each_append SizedSignal gs (g ∷ []) z.sized.each (k, tt);
    }) pushed
      where
        counted : n + 1 ≡ length (gs ++ g ∷ [])
        counted = simp length-append (omega (arith, held-counted))

        stored : more ≡ blocks signal_bytes (pad no_signal held_count (gs ++ g ∷ []))
        stored = ap (λ l. put l (signal_size * n) (signal_bytes g)) places
            ∙ places-push held_count n gs g (omega (arith, held-counted)) (sym held-counted)

        pushed : (n + 1) ∷ more ≡ signals_bytes held_count (gs ++ g ∷ [])
        pushed = λ i. counted i ∷ stored i
