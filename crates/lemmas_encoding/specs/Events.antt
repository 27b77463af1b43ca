-- Events: what is written is read back, and what breaks no rule is written again as it was; so of whole lists.
use Rattle.std.specs.Prelude.{◌≡◌, refl, Bool, true, false, cond, ◌&&◌, List, [], ◌∷◌, ◌++◌, ℕ, ◌+◌, ◌*◌, ◌-◌, ◌≤◌, ◌<◌, eqb, leb, ltb}
use Rattle.std.specs.Prelude.{length, get_or, take, drop, replicate}
use Rattle.std.proofs.Common.{sym, ap, ◌∙◌, arith, length-drop, get_or-drop, eqb-true, ltb-true}
use Rattle.std.proofs.Math.Seq.{take_all}
use Rattle.rules.specs.Sizes.{thread_count, register_count, values_place, signal_size, event_size, value_count_place}
use Rattle.rules.specs.Sizes.{event_kind_place, event_thread_place, event_signal_place}
use Rattle.rules.specs.Codes.{arrival_code, external_code}
use Rattle.rules.specs.Bytes.{num16, part, is_zeros, blocks}
use Rattle.rules.specs.Image.{entry, record_at}
use Rattle.rules.specs.Encoding.{no_signal, signal_bytes, signal_from}
use Rattle.rules.specs.WellFormed.{signal_tidy}
use Rattle.rules.specs.Events.{stepping, cutting, Event, arrive, turn, kind_code, kind_of, Valid, event_bytes}
use Rattle.rules.specs.Events.{event_from, arrival_ok, turn_ok}
use Rattle.rules.specs.Events.{event_ok, events_in, event_at_ok, events_from}
use Rattle.bytes_fields.specs.Put.{part-drop}
use Rattle.lemmas_encoding.specs.Sized.{SizedSignal}
use Rattle.lemmas_rules.specs.Logic.{and_both, both_hold}
use Rattle.bytes_fields.specs.Tests.{zeros-part}
use Rattle.lemmas_encoding.specs.Runs.{length-chunks, blocks-chunks, byte-forth, glue}
use Rattle.lemmas_encoding.specs.Numbers.{AreBytes, bytes_drop}
use Rattle.lemmas_encoding.specs.Signals.{no-signal, signal-back, signal-forth, signal-sized}

-- an arrival's signal has at most 25 values
abbrev pub SizedEvent : Event → Type 0
SizedEvent (arrive g) = SizedSignal g
SizedEvent (turn k t) = Unit {0}

pub event-back : (e : Event) → SizedEvent e → (q : List ℕ) → event_from (event_bytes e ++ q) ≡ e
unfolding event_from event_bytes
event-back (arrive g) z q = ap arrive (signal-back g z q)
event-back (turn stepping t) z q = refl
event-back (turn cutting t) z q = refl

-- ---- what the rules of an event say of its bytes

pub data EventRead (b : List ℕ) : Type 0 where
  arrival : get_or b event_kind_place 0 ≡ arrival_code → get_or b event_thread_place 0 ≡ 0 → signal_tidy (drop event_signal_place b) ≡ true
      → EventRead b
  turned : eqb (get_or b event_kind_place 0) arrival_code ≡ false
      → get_or b event_kind_place 0 ≡ kind_code (kind_of (get_or b event_kind_place 0))
      → get_or b event_thread_place 0 < thread_count → part b event_signal_place signal_size ≡ replicate signal_size 0 → EventRead b

arrival-read : (image b : List ℕ) → arrival_ok image b ≡ true
    → (get_or b event_thread_place 0 ≡ 0) × (signal_tidy (drop event_signal_place b) ≡ true)
unfolding arrival_ok signal_tidy
arrival-read image b e =
    let n = get_or b (event_signal_place + value_count_place) 0 in
    let thread = eqb (get_or b event_thread_place 0) 0 in
    let label = eqb (entry (record_at image (num16 (drop event_signal_place b)))) external_code in
    let rest = part b (event_signal_place + values_place + 2 * n) (2 * (register_count - n)) in
    let t = and_both (thread && label && leb n register_count) (is_zeros rest) e in
    let u = and_both (thread && label) (leb n register_count) t.0 in
    let v = and_both thread label u.0 in
    let f : event_signal_place + (values_place + 2 * n) ≡ event_signal_place + values_place + 2 * n = omega arith in
    (eqb-true (get_or b event_thread_place 0) 0 v.0, rw (get_or-drop, part-drop, f) (both_hold (leb n register_count) _ u.1 t.1))

turn-read : (b : List ℕ) → event_size ≤ length b → turn_ok b ≡ true
    → (get_or b event_thread_place 0 < thread_count) × (part b event_signal_place signal_size ≡ replicate signal_size 0)
unfolding turn_ok
turn-read b l e =
    let t = and_both (ltb (get_or b event_thread_place 0) thread_count) (is_zeros (part b event_signal_place signal_size)) e in
    (ltb-true (get_or b event_thread_place 0) thread_count t.0, zeros-part b event_signal_place signal_size (omega arith) t.1)

pub event-read : (image b : List ℕ) → event_size ≤ length b → event_ok image b ≡ true → EventRead b
unfolding event_ok
event-read image b l e = go (eqb kind arrival_code) refl e
  where
    kind : ℕ
    kind = get_or b event_kind_place 0

    go : (c : Bool) → eqb kind arrival_code ≡ c → cond c (arrival_ok image b) (eqb kind (kind_code (kind_of kind)) && turn_ok b) ≡ true
        → EventRead b
    go true p q =
        let r = arrival-read image b q in
        arrival (eqb-true kind arrival_code p) r.0 r.1
    go false p q =
        let t = and_both (eqb kind (kind_code (kind_of kind))) (turn_ok b) q in
        let r = turn-read b l t.1 in
        turned p (eqb-true kind (kind_code (kind_of kind)) t.0) r.0 r.1

-- ---- an event that breaks no rule

event-glue : (b : List ℕ) (k t : ℕ) (x : List ℕ) → event_size ≤ length b → k ≡ get_or b event_kind_place 0
    → t ≡ get_or b event_thread_place 0
    → x ≡ part b event_signal_place signal_size → k ∷ t ∷ x ≡ take event_size b
unfolding part
event-glue b k t x l ek et ex =
    glue b event_kind_place 1 (1 + signal_size) (k ∷ []) (t ∷ x) (rw ek (byte-forth b event_kind_place (omega arith)))
    (glue b event_thread_place 1 signal_size (t ∷ []) x (rw et (byte-forth b event_thread_place (omega arith))) ex)

read-forth : (b : List ℕ) → AreBytes b → event_size ≤ length b → EventRead b → event_bytes (event_from b) ≡ take event_size b
unfolding event_from event_bytes part
read-forth b h l (arrival k t e) =
    rw k
    (event-glue b arrival_code 0 (signal_bytes (signal_from (drop event_signal_place b))) l (sym k) (sym t)
    (signal-forth (drop event_signal_place b) (bytes_drop b event_signal_place h) (simp length-drop (omega arith)) e))
read-forth b h l (turned n k t z) =
    rw n (event-glue b _ (get_or b event_thread_place 0) (signal_bytes no_signal) l (sym k) refl (no-signal ∙ sym z))

read-sized : (b : List ℕ) → event_size ≤ length b → EventRead b → SizedEvent (event_from b)
unfolding event_from
read-sized b l (arrival k t e) = rw k (signal-sized (drop event_signal_place b) (simp length-drop (omega arith)) e)
read-sized b l (turned n k t z) = rw n tt

read-valid : (b : List ℕ) → EventRead b → Valid (event_from b)
unfolding event_from
read-valid b (arrival k t e) = rw k (λ u q. absurd (let n : ◌≡◌ {A = ℕ} 0 1 = cc in omega arith))
read-valid b (turned n k t z) = rw n (λ u q. let e : get_or b event_thread_place 0 ≡ u = cc in omega arith)

module _ (image b : List ℕ) (l : event_size ≤ length b) (e : event_ok image b ≡ true) where
  pub event-forth : AreBytes b → event_bytes (event_from b) ≡ take event_size b
  event-forth h = read-forth b h l (event-read image b l e)

  pub event-sized : SizedEvent (event_from b)
  event-sized = read-sized b l (event-read image b l e)

  pub event-valid : Valid (event_from b)
  event-valid = read-valid b (event-read image b l e)

-- ---- lists of events

pub length-events : (b : List ℕ) → length (events_from b) ≡ events_in b
unfolding events_from
length-events b = length-chunks event_from event_size (events_in b) b

-- a list of whole events that break no rule
module _ (image events : List ℕ) (l : length events ≡ event_size * events_in events)
    (e : (i : ℕ) → i < events_in events → event_at_ok image events i ≡ true) where
  room : (i : ℕ) → i < events_in events → event_size ≤ length (drop (event_size * i) events)
  room i h = simp length-drop (omega arith)

  event-at : (i : ℕ) → i < events_in events → event_ok image (drop (event_size * i) events) ≡ true
  unfolding event_at_ok
  event-at i h = e i h

  pub events-forth : AreBytes events → blocks event_bytes (events_from events) ≡ events
  unfolding events_from
  events-forth h =
      blocks-chunks event_bytes event_from event_size (events_in events) events
      (λ i li. event-forth image (drop (event_size * i) events) (room i li) (event-at i li) (bytes_drop events (event_size * i) h))
      ∙ take_all (event_size * events_in events) events (omega arith)
