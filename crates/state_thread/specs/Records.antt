-- The bytes of a thread's state: written they are those of the thread that it says, and read they say the thread that they are of.
use Rattle.std.specs.Prelude.{◌≡◌, Bool, ◌&&◌, ℕ, zero, suc, ◌+◌, ◌*◌, ◌-◌, ◌≤◌, ◌<◌, length, take, drop}
use Rattle.std.proofs.Math.Path.{refl, sym, ap}
use Rattle.std.proofs.Common.{◌∙◌, add-zero, length-append, length-drop, take-append-drop, drop_at, ext_get_or, get_or-take, take_all}
use Rattle.std.proofs.Common.{take_at, eqb-true}
use Rattle.std.proofs.Math.Bool.{true, false, cond}
use mathlib.Core.List.{List, [], ◌∷◌, ◌++◌, map, append_assoc}
use native.Mathlib.Omega.{arith}
use Rattle.std.proofs.Math.Dec.{eqb}
use Rattle.std.proofs.Math.ListN.{get_or, replicate}
use Rattle.std.proofs.lemmas.List.{length-replicate, get_or-replicate}
use Rattle.std.proofs.Math.Seq.{drop-drop, get_or-drop, length-take-le}
use Rattle.std.proofs.lemmas.Bool.{eqb-false}
use Rattle.rules.specs.Sorts.{label}
use Rattle.rules.specs.Sizes.{return_count, register_count, held_count, thread_size, threads_place, locks_place, return_count_place}
use Rattle.rules.specs.Sizes.{returns_place, presence_place, registers_place, held_count_place, held_place, held_size, idle_label}
use Rattle.rules.specs.Bytes.{num16, num32, part, is_zeros, blocks, pad, chunks}
use Rattle.rules.specs.Machine as law
use Rattle.rules.specs.Machine.{held_of, idle, running}
use Rattle.rules.specs.Encoding.{no_signal, signal_bytes, signals_bytes, value_or0, presence, thread_raw}
use Rattle.rules.specs.Encoding.{thread_bytes, thread_from, job_from}
use Rattle.rules.specs.WellFormed.{absent_zero, running_tidy, signals_tidy, thread_tidy}
use Rattle.bytes_fields.specs.Blocks.{pad-full, pad-split}
use Rattle.lemmas_rules.specs.Logic.{and_both}
use Rattle.lemmas_encoding.specs.Sized.{SizedThread}
use Rattle.lemmas_encoding.specs.Lengths.{length-thread, length-signals}
use Rattle.bytes_fields.specs.Tests.{zeros-part}
use Rattle.lemmas_encoding.specs.Runs.{length-chunks, chunks-at}
use Rattle.lemmas_encoding.specs.Registers.{length-registers, presence-forth, values-forth}
use Rattle.lemmas_encoding.specs.Threads.{RunningRead, running-read, thread-back, thread-tidy, held-behind, held-sized}
use Rattle.state_thread.specs.Returns.{TidyReturns}
use Rattle.state_thread.specs.Registers.{none-registers, none-tidy}
use Rattle.state_thread.specs.Held.{TidyHeld, no-signals, held-of}
use Rattle.state_thread.specs.Threads.{state_of, job_of, registers_of, signals_of, Tidy, Says}
use Rattle.state_thread.specs.declared.thread.ThreadState.{ThreadState}

-- where the record of a thread stands in a state
abbrev pub thread_place : ℕ → ℕ
thread_place t = threads_place + thread_size * t

-- the bytes of the fields
unfoldable pub raw_bytes : ThreadState → List ℕ
raw_bytes w = thread_raw w.label.0 w.locks w.depth w.returns w.present w.registers ++ w.held ∷ w.signals

-- the fields that bytes say
unfoldable pub raw_thread : List ℕ → ThreadState
raw_thread b = record {
  label = label (num16 b);
  locks = num16 (drop locks_place b);
  depth = get_or (drop return_count_place b) 0 0;
  returns = chunks num16 2 return_count (drop returns_place b);
  present = num32 (drop presence_place b);
  registers = chunks num16 2 register_count (drop registers_place b);
  held = get_or (drop held_count_place b) 0 0;
  signals = take held_size (drop held_place b);
}

-- ---- written

-- what is in use, filled up with zeros, is the whole
pub padded : (n k : ℕ) (l : List ℕ) → length l ≡ n → k ≤ n → drop k l ≡ replicate (n - k) 0 → pad 0 n (take k l) ≡ pad 0 n l
padded n k l e h z =
    let t : length (take k l) ≡ k = length-take-le k l (omega arith) in
    pad-split 0 n (take k l) (omega arith) ∙ rw (t, ← z) (take-append-drop k l) ∙ sym (pad-full 0 n l e)

module _ (w : ThreadState) (z : Tidy w) where
  pub present-is : presence (registers_of w) ≡ w.present
  present-is = presence-forth w.present w.registers 0 register_count (omega (arith, z.registers.within)) ∙ omega arith

  pub values-are : map value_or0 (registers_of w) ≡ w.registers
  values-are =
      values-forth w.present w.registers 0 register_count (omega (arith, z.registers.sized))
      (λ i l h. z.registers.absent i (omega arith))
      ∙ take_all register_count w.registers (omega (arith, z.registers.sized))

  running-bytes : thread_bytes (running w.locks (job_of w)) ≡ raw_bytes w
  unfolding thread_bytes raw_bytes thread_raw
  running-bytes =
      let r = z.returns in
      rw (
        length-take-le w.depth w.returns (omega (arith, r.sized, r.within)),
        padded return_count w.depth w.returns
            r.sized r.within r.unused,
        present-is,
        values-are,
        ← z.held.bytes,
      )

  idle-bytes : w.label.0 ≡ idle_label → thread_bytes idle ≡ raw_bytes w
  unfolding thread_bytes raw_bytes thread_raw pad
  idle-bytes e =
      let n = z.nothing e in
      let r : pad 0 return_count w.returns ≡ pad 0 return_count [] = sym
      (padded return_count w.depth w.returns z.returns.sized z.returns.within z.returns.unused) ∙ rw n.1 in
      let v : w.registers ≡ replicate register_count 0 = sym values-are ∙ rw (n.2, none-registers w.registers 0 register_count) in
      let g : pad 0 register_count w.registers ≡ pad 0 register_count [] = rw v in
      let h : w.held ∷ w.signals ≡ signals_bytes held_count [] = z.held.bytes
      ∙ ap (signals_bytes held_count) (no-signals w.signals n.3) in
      rw (e, n.0, n.1, n.2, r, g, h)

  pub bytes-are : thread_bytes (state_of w) ≡ raw_bytes w
  unfolding state_of
  bytes-are = go (eqb w.label.0 idle_label) refl
    where
      go : (b : Bool) → eqb w.label.0 idle_label ≡ b → thread_bytes (cond b idle (running w.locks (job_of w))) ≡ raw_bytes w
      go true e = idle-bytes (eqb-true w.label.0 idle_label e)
      go false e = running-bytes

-- ---- read

-- a run of zeros reads as zero
module _ (l : List ℕ) (k m : ℕ) (z : part l k m ≡ replicate m 0) where
  zero-byte : (i : ℕ) → k ≤ i → i < k + m → get_or l i 0 ≡ 0
  unfolding part
  zero-byte i h h' =
      let e : k + (i - k) ≡ i = omega arith in
      let f : get_or (part l k m) (i - k) 0 ≡ 0 = rw z (get_or-replicate m (i - k) 0 0 (omega arith)) in
      rw (get_or-take m (drop k l) (i - k) 0 (omega arith), get_or-drop k l (i - k) 0, e) at f

  zero-num : (i : ℕ) → k ≤ i → i + 1 < k + m → num16 (drop i l) ≡ 0
  unfolding num16
  zero-num i h h' = rw (get_or-drop i l 0 0, get_or-drop i l 1 0, add-zero)
      (omega (arith, zero-byte i h (omega arith), zero-byte (i + 1) (omega arith) h'))

module _ (b : List ℕ) where
  -- the numbers at the places of return labels that are not in use are zero
  returns-read : (n : ℕ) → n ≤ return_count → ((j : ℕ) → n ≤ j → j < return_count → num16 (drop (2 * j) (drop returns_place b)) ≡ 0)
      → TidyReturns n (chunks num16 2 return_count (drop returns_place b))
  returns-read n h z =
      let l = chunks num16 2 return_count (drop returns_place b) in
      let s : length l ≡ return_count = length-chunks num16 2 return_count (drop returns_place b) in
      let d : length (drop n l) ≡ return_count - n = length-drop n l ∙ rw s in
      record {
        sized = s;
        within = h;
        unused = ext_get_or 0 (drop n l) (replicate (return_count - n) 0) (d ∙ sym (length-replicate (return_count - n) 0)) (λ i hi.
            let hi' : i < return_count - n = rw d at hi in
            get_or-drop n l i 0 ∙ chunks-at num16 2 return_count (drop returns_place b) 0 (n + i) (omega arith)
            ∙ z (n + i) (omega arith) (omega arith)
            ∙ sym (get_or-replicate (return_count - n) i 0 0 hi'));
      }

  running-tidy : (num16 b ≡ idle_label → ⊥) → RunningRead b → TidyHeld (raw_thread b).held (raw_thread b).signals → Tidy (raw_thread b)
  unfolding raw_thread absent_zero
  running-tidy e o k =
      record {
        returns = rw (get_or-drop return_count_place b 0 0) (returns-read (get_or b return_count_place 0) o.few
            (λ j h h'. zero-num (drop returns_place b) (2 * get_or b return_count_place 0)
            (2 * (return_count - get_or b return_count_place 0))
            o.zeros (2 * j) (omega arith)
            (omega arith)));
        registers = record {
          sized = length-chunks num16 2 register_count (drop registers_place b);
          within = o.present;
          absent = λ r h. rw (chunks-at num16 2 register_count (drop registers_place b) 0 r h, drop-drop) (o.absent r h);
        };
        held = k;
        nothing = λ q. absurd (e q);
      }

  idle-tidy : part b locks_place (thread_size - locks_place) ≡ replicate (thread_size - locks_place) 0
      → TidyHeld (raw_thread b).held (raw_thread b).signals → Tidy (raw_thread b)
  unfolding raw_thread num32
  idle-tidy z k =
      let d : get_or (drop return_count_place b) 0 0 ≡ 0 = get_or-drop return_count_place b 0 0
      ∙ zero-byte b locks_place (thread_size - locks_place) z return_count_place (omega arith) (omega arith) in
      let h : get_or (drop held_count_place b) 0 0 ≡ 0 = get_or-drop held_count_place b 0 0
      ∙ zero-byte b locks_place (thread_size - locks_place) z held_count_place (omega arith) (omega arith) in
      let p : num32 (drop presence_place b) ≡ 0 = omega (
        arith,
        zero-num b locks_place (thread_size - locks_place) z presence_place (omega arith) (omega arith),
        zero-num b locks_place (thread_size - locks_place) z (presence_place + 2) (omega arith)
            (omega arith),
        ap num16 (drop-drop 2 presence_place b),
      ) in
      record {
        returns = rw d (returns-read 0 (omega arith)
            (λ j h h'. rw drop-drop (zero-num b locks_place (thread_size - locks_place) z (returns_place + 2 * j)
            (omega arith) (omega arith))));
        registers = rw p (none-tidy _ (length-chunks num16 2 register_count (drop registers_place b))
            (λ r h. rw (chunks-at num16 2 register_count (drop registers_place b) 0 r h, drop-drop)
            (zero-num b locks_place (thread_size - locks_place) z (registers_place + 2 * r) (omega arith) (omega arith))));
        held = k;
        nothing = λ q. (zero-num b locks_place (thread_size - locks_place) z locks_place (omega arith) (omega arith), d, p, h);
      }

take_chunks : {A : Type 0} (g : List ℕ → A) (n k m : ℕ) (s : List ℕ) → k ≤ m → take k (chunks g n m s) ≡ chunks g n k s
unfolding chunks
take_chunks g n zero m s h = refl
take_chunks g n (suc k) zero s h = absurd (omega arith)
take_chunks g n (suc k) (suc m) s h = ap (λ l. g s ∷ l) (take_chunks g n k m (drop n s) (omega arith))

job_is : (b : List ℕ) → RunningRead b → signals_of (raw_thread b) ≡ (job_from b).held → job_of (raw_thread b) ≡ job_from b
unfolding raw_thread job_from
job_is b o f =
    let h : get_or (drop return_count_place b) 0 0 ≤ return_count = omega (arith, get_or-drop return_count_place b 0 0, o.few) in
    rw (take_chunks num16 2 (get_or (drop return_count_place b) 0 0) return_count (drop returns_place b) h, f)

module _ (b : List ℕ) (l : thread_size ≤ length b) (k : TidyHeld (raw_thread b).held (raw_thread b).signals)
    (same : signals_of (raw_thread b) ≡ held_of (thread_from b)) where
  bytes-say : thread_tidy b ≡ true → Says (raw_thread b) (thread_from b)
  unfolding thread_tidy
  bytes-say e = go (eqb (num16 b) idle_label) refl e
    where
      state-is : (c : Bool) → eqb (num16 b) idle_label ≡ c
          → state_of (raw_thread b) ≡ cond c idle (running (num16 (drop locks_place b)) (job_of (raw_thread b)))
      state-is c p = unfold state_of raw_thread in rw p

      from_is : (c : Bool) → eqb (num16 b) idle_label ≡ c → thread_from b ≡ cond c idle (running (num16 (drop locks_place b)) (job_from b))
      from_is c p = unfold thread_from in rw p

      go : (c : Bool) → eqb (num16 b) idle_label ≡ c
          → cond c (is_zeros (part b locks_place (thread_size - locks_place))) (running_tidy b
          && signals_tidy held_count held_count_place b) ≡ true
          → Says (raw_thread b) (thread_from b)
      go true p t = record {
        state = state-is true p ∙ sym (from_is true p);
        tidy = idle-tidy b (zeros-part b locks_place (thread_size - locks_place) (omega arith) t) k;
      }
      go false p t =
          let o = running-read b l (and_both (running_tidy b) _ t).0 in
          record {
            state = state-is false p ∙ ap (running (num16 (drop locks_place b))) (job_is b o (same ∙ ap held_of (from_is false p)))
                ∙ sym (from_is false p);
            tidy = running-tidy b (eqb-false (num16 b) idle_label p) o k;
          }

-- the bytes of the signals that a thread holds, read from the bytes that it was written to
held-read : (x : law.ThreadState) (q : List ℕ)
    → (raw_thread (thread_bytes x ++ q)).held ∷ (raw_thread (thread_bytes x ++ q)).signals ≡ signals_bytes held_count (held_of x)
unfolding raw_thread
held-read x q =
    let p = held-behind x in
    let S : List ℕ = signals_bytes held_count (held_of x) in
    let d : drop held_count_place (thread_bytes x ++ q) ≡ S ++ q = rw (p.1, append_assoc) (drop_at p.0 (S ++ q) held_count_place p.2) in
    let e : drop held_place (thread_bytes x ++ q) ≡ drop 1 (S ++ q) = sym (drop-drop 1 held_count_place (thread_bytes x ++ q))
    ∙ ap (drop 1) d in
    rw (d, e) (ap (length (held_of x) ∷◌) (take_at (blocks signal_bytes (pad no_signal held_count (held_of x))) q held_size
    (omega (arith, length-signals held_count (held_of x)))))

-- the thread that bytes were written of
pub bytes_of : (x : law.ThreadState) → SizedThread x → (q : List ℕ) → Says (raw_thread (thread_bytes x ++ q)) x
bytes_of x z q =
    let b : List ℕ = thread_bytes x ++ q in
    let back = thread-back x z q in
    let h = held-of (raw_thread b).held (raw_thread b).signals (held_of x) (held-sized x z) (held-read x q) in
    rw back at (bytes-say b (simp length-append (omega (arith, length-thread x))) h.1 (h.0 ∙ ap held_of (sym back)) (thread-tidy x z q))

-- what a tidy state says is within the limits
pub tidy-sized : (w : ThreadState) → Tidy w → SizedThread (state_of w)
unfolding state_of
tidy-sized w z = go (eqb w.label.0 idle_label) refl
  where
    go : (b : Bool) → eqb w.label.0 idle_label ≡ b → SizedThread (cond b idle (running w.locks (job_of w)))
    go true e = tt
    go false e = record {
      label = eqb-false w.label.0 idle_label e;
      returns = omega (
        arith,
        z.returns.within,
        length-take-le w.depth w.returns
            (omega (arith, z.returns.within, z.returns.sized)),
      );
      registers = length-registers w.present w.registers 0 register_count;
      held = z.held.sized;
    }
