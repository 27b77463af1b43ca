-- A thread record: what is written is read back and passes the tests, and what passes the tests is written again as it was.
use Rattle.std.specs.Prelude.{◌≡◌, Bool, true, false, cond, ◌&&◌, eqb, leb, ltb, take, drop, replicate}
use Rattle.std.proofs.Common.{refl, sym, ap, ◌∙◌, drop_at, drop-drop}
use mathlib.Core.List.{List, [], ◌∷◌, ◌++◌, map, append_assoc}
use Prim.Native.Nat.{ℕ, ◌+◌, ◌*◌, ◌-◌, ◌^◌, ◌≤◌, ◌<◌}
use native.Mathlib.Omega.{arith}
use Rattle.std.proofs.Math.ListN.{length, get_or, length-drop}
use Rattle.std.proofs.Math.Seq.{get_or-drop, take_all}
use borrow.Author.Tests.{eqb-true, eqb-false, ne_eqb, leb-true, le-leb, ltb-true, lt-ltb}
use Rattle.rules.specs.Sizes.{register_count, return_count, held_count, idle_label, locks_place, return_count_place, returns_place}
use Rattle.rules.specs.Sizes.{presence_place, registers_place, held_count_place, thread_size}
use Rattle.rules.specs.Bytes.{num16, num32, le16, le32, part, is_zeros, blocks, pad, chunks, all_from}
use Rattle.rules.specs.Machine.{Job, ThreadState, idle, running, held_of}
use Rattle.rules.specs.Encoding.{signal_bytes, signals_bytes, signals_from, presence, value_or0, registers_from}
use Rattle.rules.specs.Encoding.{thread_raw, thread_bytes, job_from, thread_from}
use Rattle.rules.specs.WellFormed.{absent_zero, running_tidy, signals_tidy, thread_tidy}
use Rattle.bytes_fields.specs.Runs.{all-at, all-holds}
use Rattle.bytes_fields.specs.Put.{part_at, part-drop}
use Rattle.bytes_fields.specs.Tests.{are-zeros, zeros-part}
use Rattle.bytes_fields.specs.Blocks.{blocks-append, length-blocks, length-pad, pad-full, pad-split}
use Rattle.lemmas_encoding.specs.Sized.{SizedSignals, SizedJob, SizedThread}
use Rattle.lemmas_rules.specs.Logic.{and_both, both_hold}
use Rattle.lemmas_encoding.specs.Lengths.{length-raw}
use Rattle.lemmas_encoding.specs.Signals.{signals-back, signals-forth, signals-sized, signals-tidy}
use Rattle.lemmas_encoding.specs.Runs.{length-chunks, chunks-at, padded-forth, padded-tail, byte-forth, glue}
use Rattle.lemmas_encoding.specs.Numbers.{num16-le16, num32-le32, nums-back, AreBytes}
use Rattle.lemmas_encoding.specs.Numbers.{bytes_drop, num16-forth, num-forth, num32-forth, nums-forth}
use Rattle.lemmas_encoding.specs.Registers.{length-values, registers-back, length-registers}
use Rattle.lemmas_encoding.specs.Registers.{presence-forth, values-forth, presence-lt, absent-zero}

-- ---- written, and read back

-- the bytes of a running thread but for the signals that it holds
abbrev raw_of : ℕ → Job → List ℕ
raw_of locks j = thread_raw j.label locks (length j.returns) j.returns (presence j.registers) (map value_or0 j.registers)

held_after : Job → List ℕ → List ℕ
held_after j q = signals_bytes held_count j.held ++ q

whole : (locks : ℕ) (j : Job) (q : List ℕ) → thread_bytes (running locks j) ++ q ≡ raw_of locks j ++ held_after j q
unfolding thread_bytes held_after
whole locks j q = append_assoc (raw_of locks j) (signals_bytes held_count j.held) q

-- behind the rest of a record stand the signals held
pub held-behind : (x : ThreadState)
    → (r : List ℕ) × (thread_bytes x ≡ r ++ signals_bytes held_count (held_of x)) × (length r ≡ held_count_place)
unfolding thread_bytes
held-behind idle = (thread_raw _ _ _ _ _ _, refl, length-raw _ _ _ _ _ _)
held-behind (running locks j) = (thread_raw _ _ _ _ _ _, refl, length-raw _ _ _ _ _ _)

pub held-sized : (x : ThreadState) → SizedThread x → SizedSignals held_count (held_of x)
held-sized idle z = record { count = omega arith; each = tt }
held-sized (running locks j) z = z.held

after : Job → List ℕ → List ℕ
after j q = le32 (presence j.registers) ++ blocks le16 (pad 0 register_count (map value_or0 j.registers)) ++ q

-- a running thread's record from its return labels on
returns-on : (locks : ℕ) (j : Job) (q : List ℕ) → drop 5 (raw_of locks j ++ q)
    ≡ blocks le16 (pad 0 return_count j.returns) ++ after j q
unfolding thread_raw after
returns-on locks j q = append_assoc (blocks le16 (pad 0 return_count j.returns))
    (le32 (presence j.registers) ++ blocks le16 (pad 0 register_count (map value_or0 j.registers))) q

present-on : (locks : ℕ) (j : Job) (q : List ℕ) → drop 21 (raw_of locks j ++ q) ≡ after j q
present-on locks j q =
    let r : List ℕ = blocks le16 (pad 0 return_count j.returns) in
    let m : length r ≡ 2 * return_count = length-blocks le16 2 (λ x. refl) (pad 0 return_count j.returns)
    ∙ rw (length-pad 0 return_count j.returns) in
    sym (drop-drop (2 * return_count) returns_place (raw_of locks j ++ q))
    ∙ ap (drop (2 * return_count)) (returns-on locks j q) ∙ drop_at r (after j q) (2 * return_count) m

values-on : (locks : ℕ) (j : Job) (q : List ℕ) → drop registers_place (raw_of locks j ++ q)
    ≡ blocks le16 (pad 0 register_count (map value_or0 j.registers)) ++ q
unfolding after
values-on locks j q = sym (drop-drop 4 21 (raw_of locks j ++ q)) ∙ ap (drop 4) (present-on locks j q)

label-back : (locks : ℕ) (j : Job) (q : List ℕ) → num16 (raw_of locks j ++ q) ≡ j.label
unfolding thread_raw
label-back locks j q = num16-le16 j.label _

locks-back : (locks : ℕ) (j : Job) (q : List ℕ) → num16 (drop 2 (raw_of locks j ++ q)) ≡ locks
unfolding thread_raw
locks-back locks j q = num16-le16 locks _

count-back : (locks : ℕ) (j : Job) (q : List ℕ) → get_or (raw_of locks j ++ q) 4 0 ≡ length j.returns
unfolding thread_raw
count-back locks j q = refl

present-back : (locks : ℕ) (j : Job) (q : List ℕ) → num32 (drop 21 (raw_of locks j ++ q)) ≡ presence j.registers
unfolding after
present-back locks j q = rw present-on
    (num32-le32 (presence j.registers) (blocks le16 (pad 0 register_count (map value_or0 j.registers)) ++ q))

values-back : (locks : ℕ) (j : Job) (q : List ℕ) → SizedJob j
    → chunks num16 2 register_count (drop registers_place (raw_of locks j ++ q)) ≡ map value_or0 j.registers
values-back locks j q z =
    let vs : List ℕ = map value_or0 j.registers in
    let n : length vs ≡ register_count = length-values j.registers ∙ z.registers in
    rw (values-on, pad-full 0 register_count vs n) (nums-back register_count vs q n)

job-back : (locks : ℕ) (j : Job) → SizedJob j → (q : List ℕ) → job_from (thread_bytes (running locks j) ++ q) ≡ j
unfolding job_from held_after
job-back locks j z q =
    let b : List ℕ = raw_of locks j ++ held_after j q in
    let n : get_or (drop 4 b) 0 0 ≡ length j.returns = get_or-drop 4 b 0 0 ∙ count-back locks j (held_after j q) in
    let c : chunks num16 2 (get_or (drop 4 b) 0 0) (drop 5 b) ≡ j.returns =
    rw (n, returns-on, pad-split 0 return_count j.returns z.returns, blocks-append, append_assoc (blocks le16 j.returns))
    (nums-back (length j.returns) j.returns _ refl) in
    let f : registers_from (num32 (drop 21 b)) (chunks num16 2 register_count (drop register_count b)) 0 register_count ≡ j.registers =
    rw (present-back, values-back locks j (held_after j q) z, ← z.registers)
    (registers-back j.registers (presence j.registers) (map value_or0 j.registers) 0 (omega arith) refl) in
    let g : signals_from held_count_place b ≡ j.held =
    signals-back held_count j.held z.held (raw_of locks j) q held_count_place (sym (length-raw _ _ _ _ _ _)) in
    rw (whole locks j q) (λ i. record { label = label-back locks j (held_after j q) i; returns = c i; registers = f i; held = g i })

idle-back : (q : List ℕ) → num16 (thread_bytes idle ++ q) ≡ idle_label
unfolding thread_bytes thread_raw
idle-back q = num16-le16 idle_label _

-- an idle thread's other fields are all zero
idle-raw : thread_bytes idle ≡ le16 idle_label ++ replicate (thread_size - locks_place) 0
unfolding thread_bytes thread_raw signal_bytes blocks pad
idle-raw = refl

pub thread-back : (w : ThreadState) → SizedThread w → (q : List ℕ) → thread_from (thread_bytes w ++ q) ≡ w
unfolding thread_from
thread-back idle z q = rw idle-back
thread-back (running locks j) z q =
    rw (job-back locks j z q, whole locks j q, label-back, ne_eqb j.label idle_label z.label, locks-back)

-- ---- bytes that pass the tests

pub record RunningRead (b : List ℕ) : Type 0 where
  pub few : get_or b 4 0 ≤ return_count
  pub zeros : part (drop 5 b) (2 * get_or b 4 0) (2 * (return_count - get_or b 4 0)) ≡ replicate (2 * (return_count - get_or b 4 0)) 0
  pub present : num32 (drop 21 b) < 2 ^ register_count
  pub absent : (r : ℕ) → r < register_count → absent_zero b r ≡ true

pub running-read : (b : List ℕ) → thread_size ≤ length b → running_tidy b ≡ true → RunningRead b
unfolding running_tidy
running-read b l e =
    let n = get_or b 4 0 in
    let p = num32 (drop 21 b) in
    let count = leb n return_count in
    let zeros = is_zeros (part b (5 + 2 * n) (2 * (return_count - n))) in
    let present = ltb p (2 ^ register_count) in
    let t = and_both (count && zeros && present) (all_from (absent_zero b) 0 register_count) e in
    let u = and_both (count && zeros) present t.0 in
    let v = and_both count zeros u.0 in
    let h : n ≤ return_count = leb-true n return_count v.0 in
    record {
      few = h;
      zeros = rw part-drop (zeros-part b (5 + 2 * n) (2 * (return_count - n)) (omega arith) v.1);
      present = ltb-true p (2 ^ register_count) u.1;
      absent = λ r lr. all-at (absent_zero b) 0 register_count r t.1 (omega arith) (omega arith);
    }

-- the registers of a record give its presence set and its values
module _ (b : List ℕ) (o : RunningRead b) where
  present-forth : presence (job_from b).registers ≡ num32 (drop 21 b)
  unfolding job_from
  present-forth = presence-forth (num32 (drop 21 b)) (chunks num16 2 register_count (drop register_count b)) 0 register_count
      (omega (arith, o.present)) ∙ omega arith

  registers-forth : map value_or0 (job_from b).registers ≡ chunks num16 2 register_count (drop register_count b)
  unfolding job_from absent_zero
  registers-forth =
      let vs : List ℕ = chunks num16 2 register_count (drop register_count b) in
      let lv : length vs ≡ register_count = length-chunks num16 2 register_count (drop register_count b) in
      values-forth (num32 (drop 21 b)) vs 0 register_count (omega arith)
      (λ i l h. rw (chunks-at num16 2 register_count (drop register_count b) 0 i (omega arith), drop-drop) (o.absent i (omega arith)))
      ∙ take_all register_count vs (omega arith)

raw-forth : (b : List ℕ) (label locks count : ℕ) (returns : List ℕ) (present : ℕ) (values : List ℕ) → le16 label ≡ part b 0 2
    → le16 locks ≡ part b 2 2
    → count ∷ [] ≡ part b return_count_place 1 → blocks le16 (pad 0 return_count returns) ≡ part b returns_place (2 * return_count)
    → le32 present ≡ part b presence_place 4 → blocks le16 (pad 0 register_count values) ≡ part b registers_place (2 * register_count)
    → thread_raw label locks count returns present values ≡ part b 0 held_count_place
unfolding thread_raw
raw-forth b label locks count returns present values e₁ e₂ e₃ e₄ e₅ e₆ =
    glue b 0 locks_place (held_count_place - locks_place) _ _ e₁ (glue b locks_place 2 (held_count_place - return_count_place) _ _ e₂
    (glue b return_count_place 1 (held_count_place - returns_place) _ _ e₃
    (glue b returns_place (2 * return_count) (held_count_place - presence_place) _ _ e₄
    (glue b presence_place 4 (2 * register_count) _ _ e₅ e₆))))

module _ (b : List ℕ) (h : AreBytes b) (l : thread_size ≤ length b) (o : RunningRead b)
    (t : signals_tidy held_count held_count_place b ≡ true) where
  returns-forth : blocks le16 (pad 0 return_count (job_from b).returns) ≡ part b returns_place (2 * return_count)
  unfolding job_from part
  returns-forth =
      let n = get_or b 4 0 in
      rw (get_or-drop 4 b 0 0)
      (padded-forth le16 num16 0 2 8 n (drop 5 b) refl o.few
      (λ j lj. num16-forth (drop 5 b) (2 * j) (bytes_drop b 5 h) (simp length-drop (omega (arith, o.few)))) o.zeros)

  length-returns : length (job_from b).returns ≡ get_or b 4 0
  unfolding job_from
  length-returns = length-chunks num16 2 (get_or (drop 4 b) 0 0) (drop 5 b) ∙ get_or-drop 4 b 0 0

  running-forth : thread_bytes (running (num16 (drop 2 b)) (job_from b)) ≡ part b 0 thread_size
  unfolding thread_bytes
  running-forth =
      let v : pad 0 register_count (map value_or0 (job_from b).registers) ≡ chunks num16 2 register_count (drop register_count b) =
      ap (pad 0 register_count) (registers-forth b o)
      ∙ pad-full 0 register_count _ (length-chunks num16 2 register_count (drop register_count b)) in
      glue b 0 held_count_place (thread_size - held_count_place) _ _
      (raw-forth b _ _ _ _ _ _ (label-forth (num-forth b 0 h (omega arith))) (num-forth b 2 h (omega arith))
      (ap (λ n. n ∷ []) length-returns ∙ byte-forth b 4 (omega arith)) returns-forth
      (ap le32 (present-forth b o) ∙ num32-forth b presence_place h (omega arith)) (ap (blocks le16) v
      ∙ nums-forth b registers_place register_count (2 * register_count) h (omega arith) refl)) held-forth
    where
      label-forth : le16 (num16 b) ≡ part b 0 2 → le16 (job_from b).label ≡ part b 0 2
      label-forth e = unfold job_from in e

      held-forth : signals_bytes held_count (job_from b).held ≡ part b held_count_place (thread_size - held_count_place)
      held-forth = unfold job_from in signals-forth held_count held_count_place b l t h

idle-forth : (b : List ℕ) → AreBytes b → thread_size ≤ length b → num16 b ≡ idle_label
    → is_zeros (part b locks_place (thread_size - locks_place)) ≡ true → thread_bytes idle ≡ part b 0 thread_size
idle-forth b h l e t =
    idle-raw ∙ glue b 0 locks_place (thread_size - locks_place) (le16 idle_label) (replicate (thread_size - locks_place) 0) (ap le16 (sym e)
    ∙ num-forth b 0 h (omega arith)) (sym (zeros-part b locks_place (thread_size - locks_place) (omega arith) t))

pub thread-forth : (b : List ℕ) → AreBytes b → thread_size ≤ length b → thread_tidy b ≡ true
    → thread_bytes (thread_from b) ≡ take thread_size b
unfolding thread_from thread_tidy part
thread-forth b h l e = go (eqb (num16 b) idle_label) refl e
  where
    go : (c : Bool) → eqb (num16 b) idle_label ≡ c
        → cond c (is_zeros (part b locks_place (thread_size - locks_place))) (running_tidy b && signals_tidy held_count held_count_place b)
        ≡ true
        → thread_bytes (cond c idle (running (num16 (drop 2 b)) (job_from b))) ≡ part b 0 thread_size
    go true p t = idle-forth b h l (eqb-true (num16 b) idle_label p) t
    go false p t = let u = and_both (running_tidy b) _ t in running-forth b h l (running-read b l u.0) u.1

pub thread-sized : (b : List ℕ) → thread_size ≤ length b → thread_tidy b ≡ true → SizedThread (thread_from b)
unfolding thread_from thread_tidy
thread-sized b l e = go (eqb (num16 b) idle_label) refl e
  where
    job : eqb (num16 b) idle_label ≡ false → RunningRead b → signals_tidy held_count held_count_place b ≡ true → SizedJob (job_from b)
    job p o t = unfold job_from in record {
      label = eqb-false (num16 b) idle_label p;
      returns = rw (get_or-drop 4 b 0 0, length-chunks num16 2 (get_or b 4 0) (drop 5 b)) o.few;
      registers = length-registers (num32 (drop 21 b)) (chunks num16 2 register_count (drop register_count b)) 0 register_count;
      held = signals-sized held_count held_count_place b l t;
    }

    go : (c : Bool) → eqb (num16 b) idle_label ≡ c
        → cond c (is_zeros (part b locks_place (thread_size - locks_place))) (running_tidy b && signals_tidy held_count held_count_place b)
        ≡ true
        → SizedThread (cond c idle (running (num16 (drop 2 b)) (job_from b)))
    go true p t = tt
    go false p t = let u = and_both (running_tidy b) _ t in job p (running-read b l u.0) u.1

-- ---- bytes that are written pass the tests

module _ (locks : ℕ) (j : Job) (z : SizedJob j) (q : List ℕ) where
  absent-tidy : (r : ℕ) → r < register_count → absent_zero (raw_of locks j ++ q) r ≡ true
  unfolding absent_zero
  absent-tidy r h =
      let b : List ℕ = raw_of locks j ++ q in
      let v : num16 (drop (register_count + 2 * r) b) ≡ get_or (map value_or0 j.registers) r 0 =
      ap num16 (sym (drop-drop (2 * r) register_count b)) ∙ sym (chunks-at num16 2 register_count (drop register_count b) 0 r h)
      ∙ ap (λ l. get_or l r 0) (values-back locks j q z) in
      rw (present-back, v) (absent-zero j.registers r (omega (arith, z.registers)))

  returns-tidy : is_zeros (part (raw_of locks j ++ q) (5 + 2 * length j.returns)
      (2 * (return_count - length j.returns))) ≡ true
  returns-tidy =
      let n = length j.returns in
      rw (← part-drop (raw_of locks j ++ q) 5 (2 * n) (2 * (return_count - n)), returns-on)
      (padded-tail le16 2 (λ x. refl) 0 return_count j.returns [] (after j q) (2 * n) (2 * (return_count - n)) refl z.returns
      (omega arith) refl)

  running-tidy : running_tidy (raw_of locks j ++ q) ≡ true
  unfolding running_tidy
  running-tidy =
      let b : List ℕ = raw_of locks j ++ q in
      let n = length j.returns in
      let p : presence j.registers < 2 ^ register_count = rw z.registers at (presence-lt j.registers) in
      rw (count-back, present-back)
      (both_hold _ _ (both_hold _ _ (both_hold _ _ (le-leb n return_count z.returns) returns-tidy)
      (lt-ltb (presence j.registers) (2 ^ register_count) p))
      (all-holds (absent_zero b) 0 register_count (λ r l h. absent-tidy r (omega arith))))

idle-zeros : (q : List ℕ) → is_zeros (part (thread_bytes idle ++ q) locks_place (thread_size - locks_place)) ≡ true
idle-zeros q = rw (
  idle-raw,
  part_at (le16 idle_label) (replicate (thread_size - locks_place) 0) q locks_place (thread_size - locks_place) refl
      refl,
) (are-zeros (thread_size - locks_place))

pub thread-tidy : (w : ThreadState) → SizedThread w → (q : List ℕ) → thread_tidy (thread_bytes w ++ q) ≡ true
unfolding thread_tidy
thread-tidy idle z q = rw (idle-back, idle-zeros q)
thread-tidy (running locks j) z q =
    let t : signals_tidy held_count held_count_place (raw_of locks j ++ held_after j q) ≡ true = unfold held_after in
    signals-tidy held_count j.held z.held (raw_of locks j) q held_count_place (sym (length-raw _ _ _ _ _ _)) in
    rw (whole locks j q, label-back, ne_eqb j.label idle_label z.label) (both_hold _ _ (running-tidy locks j z (held_after j q)) t)
