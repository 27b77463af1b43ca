-- "Events": arrivals, and turns of a thread (steps and cuts), their 55 bytes, and the rules of an event.
use Rattle.std.specs.Prelude.{Bool, cond, ◌&&◌, ◌≡◌, List, ◌∷◌, ℕ, ◌+◌, ◌*◌, ◌-◌, ◌/◌, ◌<◌, length, get_or, drop, eqb, leb, ltb}
use Rattle.std.proofs.Math.Option.{Option, none, some}
use Rattle.rules.specs.Sizes.{thread_count, register_count, event_count, value_count_place, values_place, signal_size, event_kind_place}
use Rattle.rules.specs.Sizes.{event_thread_place, event_signal_place, event_size}
use Rattle.rules.specs.Codes.{external_code, arrival_code, step_code, cut_code}
use Rattle.rules.specs.Bytes.{num16, part, is_zeros, chunks}
use Rattle.rules.specs.Image.{record_at, entry}
use Rattle.rules.specs.Machine.{Signal}
use Rattle.rules.specs.Encoding.{signal_bytes, signal_from, no_signal}

-- the kinds of turn that a thread can be given: its next step, or a cut of its job
pub data Kind : Type 0 where
  stepping cutting : Kind

-- a signal arrives, or a thread is given a turn
pub data Event : Type 0 where
  arrive : Signal → Event
  turn : Kind → ℕ → Event

abbrev pub step : ℕ → Event
step t = turn stepping t

abbrev pub cut : ℕ → Event
cut t = turn cutting t

-- the thread that an event names
abbrev pub thread_of : Event → Option ℕ
thread_of (arrive g) = none
thread_of (turn k t) = some t

abbrev pub Valid : Event → Type 0
Valid e = (t : ℕ) → thread_of e ≡ some t → t < thread_count

-- the code of a kind of turn, and the kind that a code stands for: a code c is that of a kind exactly if it is the code of `kind_of c`
abbrev pub kind_code : Kind → ℕ
kind_code stepping = step_code
kind_code cutting = cut_code

abbrev pub kind_of : ℕ → Kind
kind_of c = cond (eqb c step_code) stepping cutting

-- kind 1 arrival, or the code of a kind of turn; thread; label, value count, 25 values
unfoldable pub event_bytes : Event → List ℕ
event_bytes (arrive g) = arrival_code ∷ 0 ∷ signal_bytes g
event_bytes (turn k t) = kind_code k ∷ t ∷ signal_bytes no_signal

unfoldable pub event_from : List ℕ → Event
event_from b =
    cond (eqb (get_or b event_kind_place 0) arrival_code) (arrive (signal_from (drop event_signal_place b)))
    (turn (kind_of (get_or b event_kind_place 0)) (get_or b event_thread_place 0))

-- an arrival has thread zero, a label of entry 3, a count 0 to 25 and zeros in what is unused
unfoldable pub arrival_ok : List ℕ → List ℕ → Bool
arrival_ok image b =
    eqb (get_or b event_thread_place 0) 0
    && eqb (entry (record_at image (num16 (drop event_signal_place b)))) external_code
    && leb (get_or b (event_signal_place + value_count_place) 0) register_count
    && is_zeros (part b (event_signal_place + values_place + 2 * get_or b (event_signal_place + value_count_place) 0)
    (2 * (register_count - get_or b (event_signal_place + value_count_place) 0)))

-- a turn has a thread 0 to 7, and the rest is zero
unfoldable pub turn_ok : List ℕ → Bool
turn_ok b = ltb (get_or b event_thread_place 0) thread_count && is_zeros (part b event_signal_place signal_size)

unfoldable pub event_ok : List ℕ → List ℕ → Bool
event_ok image b =
    cond (eqb (get_or b event_kind_place 0) arrival_code) (arrival_ok image b)
    (eqb (get_or b event_kind_place 0) (kind_code (kind_of (get_or b event_kind_place 0))) && turn_ok b)

-- the number of events: m where the length is 55 × m, m 0 to 1,024
abbrev pub events_in : List ℕ → ℕ
events_in events = length events / event_size

abbrev pub events_length_ok : List ℕ → Bool
events_length_ok events = eqb (length events) (event_size * events_in events) && leb (events_in events) event_count

-- the event at an index breaks no rule
unfoldable pub event_at_ok : List ℕ → List ℕ → ℕ → Bool
event_at_ok image events i = event_ok image (drop (event_size * i) events)

unfoldable pub events_from : List ℕ → List Event
events_from events = chunks event_from event_size (events_in events) events
