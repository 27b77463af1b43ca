-- From the second order of the bytes back to values: the events that it reads and the answers that it has are those of the second order of
-- the values.
use Rattle.std.specs.Prelude.{◌≡◌, refl, List, [], ◌∷◌, map, ℕ}
use Rattle.std.proofs.Common.{sym, ap, ◌∙◌}
use Rattle.rules.specs.Machine.{Machine}
use Rattle.rules.specs.Events.{stepping, cutting, Event, arrive, turn, event_bytes, event_from}
use Rattle.rules.specs.Answers.{answer_bytes}
use Rattle.rules.specs.Steps.{Rules, answers}
use Rattle.rules.specs.Order.{Entry, row_of, order, events, log, ByteEntry, byte_order}
use Rattle.bytes_fields.specs.Each.{Each}
use Rattle.lemmas_rules.specs.EventLists.{log-answers}
use Rattle.theorem_serial.specs.ByteOrder.{bytes_of, order-over, byte-order}
use Rattle.lemmas_encoding.specs.Events.{SizedEvent}
use Rattle.theorem_event_runs.specs.Written.{event-reread}
use Rattle.theorem_serial_calls.specs.CallList.{events_of, answers_of}

-- ---- events, written down and read again

abbrev reread : Entry → Entry
reread n = record { event = event_from (event_bytes n.event); answer = n.answer; lost = n.lost }

row-reread : (e : Event) → row_of (event_from (event_bytes e)) ≡ row_of e
unfolding event_from event_bytes
row-reread (arrive g) = refl
row-reread (turn stepping t) = refl
row-reread (turn cutting t) = refl

order-reread : (l : List Entry) → map reread (order l) ≡ order (map reread l)
unfolding order
order-reread l = order-over reread _ _ _ _ (λ n. refl) (λ n. row-reread n.event) l

reread-same : (l : List Entry) → Each SizedEvent (events l) → map reread l ≡ l
reread-same [] z = refl
reread-same (n ∷ l) z = rw (event-reread n.event z.0, reread-same l z.1) refl

reread-events : (l : List Entry) → events_of (map bytes_of l) ≡ events (map reread l)
reread-events [] = refl
reread-events (n ∷ l) = ap (λ (z : List Event). event_from (event_bytes n.event) ∷ z) (reread-events l)

pub events-listed : (l : List Entry) → Each SizedEvent (events l) → events_of (map bytes_of l) ≡ events l
events-listed l z = reread-events l ∙ ap events (reread-same l z)

pub events-ordered : (l : List Entry) → Each SizedEvent (events l) → events_of (byte_order (map bytes_of l)) ≡ events (order l)
events-ordered l z =
    ap events_of (sym (byte-order l)) ∙ reread-events (order l) ∙ ap events (order-reread l ∙ ap order (reread-same l z))

-- ---- the bytes of events and of answers

pub events-written : (l : List Entry) → map (λ (n : ByteEntry). n.event) (map bytes_of l) ≡ map event_bytes (events l)
events-written [] = refl
events-written (n ∷ l) = ap (λ (z : List (List ℕ)). event_bytes n.event ∷ z) (events-written l)

pub answers-written : (l : List Entry) → answers_of (map bytes_of l) ≡ map answer_bytes (map (λ (n : Entry). n.answer) l)
answers-written [] = refl
answers-written (n ∷ l) = ap (λ (z : List (List ℕ)). answer_bytes n.answer ∷ z) (answers-written l)

pub answers-ordered : (R : Rules) (s : Machine) (l : List Entry) → log R s (events (order l)) ≡ order l
    → map answer_bytes (answers R s (events (order l))) ≡ answers_of (byte_order (map bytes_of l))
answers-ordered R s l e =
    let a : answers R s (events (order l)) ≡ map (λ (n : Entry). n.answer) (order l) =
    sym (log-answers R s (events (order l))) ∙ ap (map (λ (n : Entry). n.answer)) e
    in
    ap (map answer_bytes) a ∙ sym (answers-written (order l)) ∙ ap answers_of (byte-order l)
