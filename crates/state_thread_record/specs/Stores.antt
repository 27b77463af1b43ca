-- Stores into a thread record: what is stored, and what stays as it is, make the record of a thread.
use Rattle.std.specs.Prelude.{◌≡◌, refl, ℕ, ◌+◌, ◌*◌, ◌-◌, ◌≤◌, ◌<◌, length, get_or, set, take, drop, replicate}
use Rattle.std.proofs.Common.{sym, ap, ◌∙◌, add-zero, arith, length-append, drop-drop, get_or-drop, take_all}
use mathlib.Core.List.{List, [], ◌∷◌, ◌++◌, append_assoc, append-nil}
use Rattle.rules.specs.Sizes.{return_count, register_count, thread_count, returns_place, presence_place, registers_place, state_size}
use Rattle.rules.specs.Sizes.{locks_place, return_count_place, held_count, held_count_place, held_place}
use Rattle.rules.specs.Sizes.{held_size, signal_size, thread_size}
use Rattle.rules.specs.Bytes.{num16, num32, le16, le32, part, chunks, blocks}
use Rattle.rules.specs.Encoding.{thread_raw}
use Rattle.bytes_fields.specs.Put.{put, put_then, put_whole, length-put, length_part}
use Rattle.bytes_fields.specs.Inside.{put_in, put_self, part-beyond}
use Rattle.bytes_fields.specs.Blocks.{blocks-put, length-blocks, pad-full}
use Rattle.lemmas_encoding.specs.Runs.{length-chunks, byte-forth, glue}
use Rattle.lemmas_encoding.specs.Numbers.{AreBytes, num-forth, num32-forth, nums-forth}
use Rattle.lemmas_encoding.specs.Slots.{returns_in, present_in, registers_in, held_count_in, signals_in}
use Rattle.state_thread.specs.Records.{thread_place, raw_bytes}
use Rattle.state_thread.specs.declared.thread.ThreadState.{ThreadState}

-- a run of 16-bit numbers, two bytes each
size : (l : List ℕ) → length (blocks le16 l) ≡ 2 * length l
size = length-blocks le16 2 (λ x. refl)

-- ---- what stands behind the bytes a, which are stored at a place

module _ (s : List ℕ) (at : ℕ) (a : List ℕ) (j : ℕ) {s' : List ℕ} (e : s' ≡ put s at a) (n : length a ≡ j) where
  long : length s' ≡ length s
  long = rw e (length-put s at a)

  -- k bytes stay
  stays : (k : ℕ) → at + j + k ≤ length s → s' ≡ put s' (at + j) (part s (at + j) k)
  stays k h =
      let g : part s' (at + j) k ≡ part s (at + j) k = rw (e, ← n) (part-beyond s at a k (omega arith)) in
      sym (rw (← g) (put_self s' (at + j) k (omega (arith, long))))

  -- some of them are stored to
  inside-stored : (k i : ℕ) (c : List ℕ) {s'' : List ℕ} → at + j + k ≤ length s → i + length c ≤ k → s'' ≡ put s' (at + j + i) c
      → s'' ≡ put s' (at + j) (put (part s (at + j) k) i c)
  inside-stored k i c h l f =
      f
      ∙ ap (λ q. put q (at + j + i) c) (stays k h)
      ∙ put_in s' (at + j) (part s (at + j) k) i c (omega (arith, length_part s (at + j) k h, long)) (omega (
        arith,
        length_part s
            (at + j) k h,
      ))

  -- they are k numbers, of which all stay, or one is stored to
  module _ (bytes : AreBytes s) (k : ℕ) (h : at + j + 2 * k ≤ length s) where
    abbrev there : List ℕ
    there = chunks num16 2 k (drop j (drop at s))

    numbers : blocks le16 there ≡ part s (at + j) (2 * k)
    numbers = ap (λ l. blocks le16 (chunks num16 2 k l)) (drop-drop j at s) ∙ nums-forth s (at + j) k (2 * k) bytes h refl

    kept : s' ≡ put s' (at + j) (blocks le16 there)
    kept = rw numbers (stays (2 * k) h)

    counted : length there ≡ k
    counted = length-chunks num16 2 k (drop j (drop at s))

    one-stored : (i v : ℕ) {s'' : List ℕ} → i < k → s'' ≡ put s' (at + j + 2 * i) (le16 v)
        → s'' ≡ put s' (at + j) (blocks le16 (set there i v))
    one-stored i v l f =
        inside-stored (2 * k) (2 * i) (le16 v) h (omega arith) f
        ∙ ap (λ q. put s' (at + j) (put q (2 * i) (le16 v))) (sym numbers)
        ∙ ap (put s' (at + j)) (simp append-nil at (blocks-put le16 2 (λ x. refl) [] [] there 0 (2 * i) i v (omega arith)
        (omega (arith, counted))))

-- the places of the signals held
places-there : (s : List ℕ) (t : ℕ) → part s (thread_place t + held_place) held_size ≡ signals_in s t
unfolding part
places-there s t = ap (take held_size) (sym (drop-drop held_place (thread_place t) s))

-- all of some bytes
pub part-all : (s : List ℕ) (n : ℕ) → length s ≡ n → part s 0 n ≡ s
unfolding part
part-all s n e = take_all n s (omega arith)

-- the places of the signals held, copied to as many zeros
pub signals-read : (s : List ℕ) (t : ℕ) → length s ≡ state_size → t < thread_count
    → put (replicate held_size 0) 0 (part s (thread_place t + held_place) held_size) ≡ signals_in s t
signals-read s t l h =
    put_whole (replicate held_size 0) _ (sym (length_part s (thread_place t + held_place) held_size (omega arith))) ∙ places-there s t

-- ---- the record, field after field

-- the bytes of the label, the locks and the depth
abbrev pub head_bytes : ThreadState → List ℕ
head_bytes w = le16 w.label.0 ++ le16 w.locks ++ w.depth ∷ []

-- with the bytes of the return labels
abbrev pub label_bytes : ThreadState → List ℕ
label_bytes w = head_bytes w ++ blocks le16 w.returns

-- the bytes of the presence and the registers
abbrev pub register_bytes : ThreadState → List ℕ
register_bytes w = le32 w.present ++ blocks le16 w.registers

-- the bytes of the signals held
abbrev pub held_bytes : ThreadState → List ℕ
held_bytes w = w.held ∷ w.signals

-- the label, the locks and the depth are as the record of thread t has them
pub record HeadThere (b : List ℕ) (t : ℕ) (w : ThreadState) : Type 0 where
  pub label : w.label.0 ≡ num16 (drop (thread_place t) b)
  pub locks : w.locks ≡ num16 (drop locks_place (drop (thread_place t) b))
  pub depth : w.depth ≡ get_or (drop return_count_place (drop (thread_place t) b)) 0 0

-- the signals held are
pub record HeldThere (b : List ℕ) (t : ℕ) (w : ThreadState) : Type 0 where
  pub count : w.held ≡ held_count_in b t
  pub signals : w.signals ≡ signals_in b t

-- and so are the return labels, and all registers but k, which has the value v
abbrev pub AllButOne : List ℕ → ℕ → ThreadState → ℕ → ℕ → Type 0
AllButOne b t w k v = (w.returns ≡ returns_in b t) × (w.registers ≡ set (registers_in b t) k v) × HeldThere b t w

module _ (w : ThreadState) (n : length w.returns ≡ return_count) (m : length w.registers ≡ register_count) (s : List ℕ) (at : ℕ) where
  length-labels : length (label_bytes w) ≡ presence_place
  length-labels = simp length-append (omega (arith, size w.returns))

  length_front : length (label_bytes w ++ register_bytes w) ≡ held_count_place
  length_front = simp length-append (omega (arith, size w.returns, size w.registers))

  front-stored : {s₁ s₂ : List ℕ} → s₁ ≡ put s at (label_bytes w) → s₂ ≡ put s₁ (at + presence_place) (register_bytes w)
      → s₂ ≡ put s at (label_bytes w ++ register_bytes w)
  front-stored e₁ e₂ = put_then s at _ _ _ e₁ e₂ (ap (at +◌) (sym length-labels))

  pub stored-all : {s₁ s₂ s₃ : List ℕ} → s₁ ≡ put s at (label_bytes w) → s₂ ≡ put s₁ (at + presence_place) (register_bytes w)
      → s₃ ≡ put s₂ (at + held_count_place) (held_bytes w) → s₃ ≡ put s at (raw_bytes w)
  unfolding raw_bytes thread_raw
  stored-all e₁ e₂ e₃ =
      put_then s at _ _ _ (front-stored e₁ e₂) e₃ (ap (at +◌) (sym length_front))
      ∙ rw (pad-full 0 return_count w.returns n, pad-full 0 register_count w.registers m, append_assoc (head_bytes w))

-- ---- the record of thread t in a state, where some of it stays

module _ (s : List ℕ) (t : ℕ) (bytes : AreBytes s) (long' : length s ≡ state_size) (l : t < thread_count) (w : ThreadState)
    (n : length w.returns ≡ return_count) (m : length w.registers ≡ register_count) where
  abbrev at : ℕ
  at = thread_place t

  -- one byte of it, and a number
  byte-there : (k n : ℕ) → k + n ≡ thread_size → 0 < n → get_or (drop k (drop at s)) 0 0 ∷ [] ≡ part s (at + k) 1
  byte-there k n e h =
      ap (λ v. v ∷ []) (ap (λ l. get_or l 0 0) (drop-drop k at s) ∙ get_or-drop (at + k) s 0 0 ∙ ap (λ i. get_or s i 0) (add-zero (at + k)))
      ∙ byte-forth s (at + k) (omega arith)

  pub head-there : HeadThere s t w → head_bytes w ≡ part s at returns_place
  head-there h =
      glue s at locks_place 3 (le16 w.label.0) (le16 w.locks ++ w.depth ∷ [])
      (ap le16 h.label ∙ num-forth s at bytes (omega arith))
      (glue s (at + locks_place) 2 1 (le16 w.locks) (w.depth ∷ [])
      (ap le16 (h.locks ∙ ap num16 (drop-drop locks_place at s)) ∙ num-forth s (at + locks_place) bytes (omega arith))
      (ap (λ k. k ∷ []) h.depth ∙ byte-there return_count_place (thread_size - return_count_place) refl (omega arith)
      ∙ ap (λ k. part s k 1) (omega arith)))

  -- the signals held stay
  module _ (held : HeldThere s t w) where
    held-there : held_bytes w ≡ part s (at + held_count_place) (1 + held_size)
    held-there =
        let next : at + held_place ≡ at + held_count_place + 1 = omega arith in
        glue s (at + held_count_place) 1 held_size (w.held ∷ []) w.signals
        (ap (λ k. k ∷ []) held.count ∙ byte-there held_count_place (1 + held_size) refl (omega arith))
        (held.signals ∙ sym (places-there s t) ∙ ap (λ k. part s k held_size) next)

    pub stored-front : {s₁ s₂ : List ℕ} → s₁ ≡ put s at (label_bytes w) → s₂ ≡ put s₁ (at + presence_place) (register_bytes w)
        → s₂ ≡ put s at (raw_bytes w)
    stored-front {s₁} {s₂} e₁ e₂ =
        let f = front-stored w n m s at e₁ e₂ in
        stored-all w n m s at e₁ e₂ (rw held-there
        (stays s at _ held_count_place f (length_front w n m s at) (1 + held_size) (omega arith)))

    -- and so do the return labels and all registers but one
    module _ (k v : ℕ) (h : k < register_count) (returns : w.returns ≡ returns_in s t)
        (registers : w.registers ≡ set (registers_in s t) k v) where
      pub stored_one : {s₁ s₂ s₃ : List ℕ} → s₁ ≡ put s at (head_bytes w) → s₂ ≡ put s₁ (at + presence_place) (le32 w.present)
          → s₃ ≡ put s₂ (at + registers_place + 2 * k) (le16 v) → s₃ ≡ put s at (raw_bytes w)
      stored_one {s₁} {s₂} {s₃} e₁ e₂ e₃ =
          let f : s₁ ≡ put s₁ (at + returns_place) (blocks le16 w.returns) = rw returns
          (kept s at (head_bytes w) returns_place e₁ refl bytes return_count (omega arith)) in
          let labels : s₁ ≡ put s at (label_bytes w) = put_then s at (head_bytes w) _ _ e₁ f refl in
          let up : s₂ ≡ put s at (label_bytes w ++ le32 w.present) = put_then s at _ _ _ labels e₂ (ap (at +◌)
          (sym (length-labels w n m s at))) in
          let g : s₃ ≡ put s₂ (at + registers_place) (blocks le16 w.registers) = rw registers (one-stored s at
          (label_bytes w ++ le32 w.present) registers_place up (simp length-append (omega (arith, size w.returns))) bytes register_count
          (omega arith) k v h e₃) in
          stored-front labels (put_then s₁ (at + presence_place) (le32 w.present) _ _ e₂ g (omega arith))

  -- the return labels, the registers, and all signals held but the last stay
  module _ (g : List ℕ) (returns : w.returns ≡ returns_in s t) (present : w.present ≡ present_in s t)
      (registers : w.registers ≡ registers_in s t) (more : 0 < w.held) (few : w.held ≤ held_count) (sized : length g ≡ signal_size)
      (signals : w.signals ≡ put (signals_in s t) (signal_size * (w.held - 1)) g) where
    registers-there : register_bytes w ≡ part s (at + presence_place) (held_count_place - presence_place)
    registers-there =
        let i : ℕ = at + presence_place in
        let next : at + registers_place ≡ i + 4 = omega arith in
        glue s i 4 (2 * register_count) (le32 w.present) (blocks le16 w.registers)
        (ap le32 (present ∙ ap num32 (drop-drop presence_place at s)) ∙ num32-forth s i bytes (omega arith))
        (ap (blocks le16) (registers ∙ ap (chunks num16 2 register_count) (drop-drop registers_place at s))
        ∙ nums-forth s (at + registers_place) register_count (2 * register_count) bytes (omega arith) refl
        ∙ ap (λ k. part s k (2 * register_count)) next)

    pub stored-held : {s₁ s₂ s₃ : List ℕ} → s₁ ≡ put s at (head_bytes w) → s₂ ≡ put s₁ (at + held_count_place) (w.held ∷ [])
        → s₃ ≡ put s₂ (at + held_place + signal_size * (w.held - 1)) g → s₃ ≡ put s at (raw_bytes w)
    stored-held {s₁} {s₂} {s₃} e₁ e₂ e₃ =
        let f : s₁ ≡ put s₁ (at + returns_place) (blocks le16 w.returns) = rw returns
        (kept s at (head_bytes w) returns_place e₁ refl bytes return_count (omega arith)) in
        let labels : s₁ ≡ put s at (label_bytes w) = put_then s at (head_bytes w) _ _ e₁ f refl in
        let same : s₁ ≡ put s₁ (at + presence_place) (register_bytes w) = rw registers-there
        (stays s at (label_bytes w) presence_place labels (length-labels w n m s at) (held_count_place - presence_place) (omega arith)) in
        let up : s₂ ≡ put s at ((label_bytes w ++ register_bytes w) ++ w.held ∷ []) = put_then s at _ _ _
        (front-stored w n m s at labels same)
        e₂ (ap (at +◌) (sym (length_front w n m s at))) in
        let last : s₃ ≡ put s₂ (at + held_place) w.signals =
        inside-stored s at ((label_bytes w ++ register_bytes w) ++ w.held ∷ []) held_place up
        (simp length-append (omega (arith, size w.returns, size w.registers))) held_size (signal_size * (w.held - 1)) g (omega arith)
        (omega arith) e₃
        ∙ ap (put s₂ (at + held_place)) (ap (λ q. put q (signal_size * (w.held - 1)) g) (places-there s t) ∙ sym signals) in
        stored-all w n m s at labels same (put_then s₁ (at + held_count_place) (w.held ∷ []) _ _ e₂ last (omega arith))
