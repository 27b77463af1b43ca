-- Demand 3, whole: the one-by-one reading of every list of calls, `calls-one-by-one`. And what a list of calls leaves is accepted again.
use Rattle.std.specs.Prelude.{◌≡◌, Bool, cond, ℕ}
use Rattle.std.proofs.Math.Path.{refl, sym, ap}
use Rattle.std.proofs.Common.{ap₂, ◌∙◌, subst}
use Rattle.std.proofs.Math.Bool.{true, false}
use mathlib.Core.List.{List, [], ◌∷◌, map, flatten}
use borrow.Author.Tests.{eqb-true}
use Rattle.rules.specs.Check.{Checked, first_refusal}
use Rattle.rules.specs.Machine.{Machine, fresh}
use Rattle.rules.specs.Encoding.{encode, words_from, machine_from}
use Rattle.rules.specs.Events.{Event, event_bytes}
use Rattle.rules.specs.Answers.{answer_bytes}
use Rattle.rules.specs.Steps.{Rules, rules_by, answers, final}
use Rattle.rules.specs.Order.{Entry, order, order_by, notes_by, events, log, ByteEntry, byte_order}
use Rattle.rules.specs.Calls.{fresh_return, fresh_state, run_return, events_length_fault, event_fault, answers_length_fault}
use Rattle.bytes_fields.specs.Each.{Each}
use Rattle.lemmas_rules.specs.Faults.{checked-of}
use Rattle.theorem_serial.specs.Reading.{AllValid}
use Rattle.lemmas_invariant.proofs.CheckedRules.{checked-laws}
use Rattle.theorem_serial.specs.Calls as values
use Rattle.theorem_serial.proofs.Calls as proved
use Rattle.lemmas_rules.specs.EventLists.{log-events, log-answers}
use Rattle.theorem_serial.specs.Calls.{logs, logs-flatten, finals-flatten}
use Rattle.theorem_serial.specs.ByteOrder.{bytes_of}
use Rattle.lemmas_encoding.specs.Events.{SizedEvent}
use Rattle.lemmas_encoding.specs.Machines.{machine-back}
use Rattle.lemmas_invariant.specs.StaysWellFormed.{Accepted, accepted-valid}
use Rattle.lemmas_invariant.proofs.StaysSized.{sized-final}
use Rattle.lemmas_invariant.specs.States.{Ready}
use Rattle.lemmas_invariant.proofs.States.{fresh-leaves-ready, run-leaves-ready}
use Rattle.theorem_event_runs.specs.Written.{each-sized}
use Rattle.theorem_event_runs.specs.Runs.{run-return}
use Rattle.theorem_serial_calls.specs.CallList.{Run, returned, state_left, accepted, next}
use Rattle.theorem_serial_calls.specs.CallList.{last_left, Follow, Calls, event_list, events_of}
use Rattle.theorem_serial_calls.specs.CallList.{answers_of, losses_of, OneByOneCalls, NoChange}
use Rattle.theorem_serial_calls.specs.Joined.{event_lists, Good, good-fresh, Joined}
use Rattle.theorem_serial_calls.proofs.Joined.{joined}
use Rattle.theorem_serial_calls.specs.Ordered.{events-listed, events-ordered, events-written, answers-written, answers-ordered}

-- what the reading of values asks of events that the image accepts: their threads are 0 to 7
pub all_valid : (image : List ℕ) (l : List Event) → Each (Accepted image) l → AllValid l
all_valid image [] h = tt
all_valid image (e ∷ l) h = (accepted-valid image e h.0, all_valid image l h.1)

-- each accepted call leaves a state that is accepted again
module _ (image table : List ℕ) where
  ready-left : (s : List ℕ) (runs : List Run) → Ready image table s → Follow image table s runs → Ready image table (last_left s runs)
  unfolding last_left Follow
  ready-left s [] k f = k
  ready-left s (r ∷ l) k f = ready-left (next s r) l (case (accepted r) refl) f.1
    where
      case : (a : Bool) → accepted r ≡ a → Ready image table (cond a (state_left r) s)
      case true e =
          let h : returned r ≡ 0 = eqb-true (returned r) 0 e in
          rw (← (f.0 h).same_image, ← (f.0 h).same_table) (run-leaves-ready r.image r.table r.state r.events r.space h)
      case false e = k

module _ (image table words state : List ℕ) (runs : List Run) (calls : Calls image table words state runs) where
  abbrev pub R : Rules
  R = rules_by image table

  -- the machine that Fresh left, and its bytes
  abbrev pub first : Machine
  first = fresh (words_from words)

  abbrev pub start : List ℕ
  start = fresh_state image table words state

  pub checked : Checked image table
  unfolding fresh_return
  checked = (checked-of image table _ calls.fresh).0

  pub start-bytes : start ≡ encode first
  unfolding fresh_state
  start-bytes = rw calls.fresh refl

  pub first_good : Good image table first
  first_good = good-fresh image table checked words

  start-machine : machine_from start ≡ first
  start-machine = ap machine_from start-bytes ∙ machine-back first first_good.sized

  pub all : Joined image table checked first runs
  all = joined image table checked first runs first_good calls.bytes
      (subst (λ (z : List ℕ). Follow image table z runs) start-bytes calls.follow)

  -- the events of all calls, and with their answers
  abbrev pub joint : List Event
  joint = flatten (event_lists runs)

  -- the machine that they leave is the one of the bytes that the last accepted call left
  abbrev pub last : Machine
  last = final R first joint

  pub last-bytes : last_left start runs ≡ encode last
  last-bytes = ap (λ z. last_left z runs) start-bytes ∙ all.state ∙ ap encode (finals-flatten R first (event_lists runs))

  pub last-machine : machine_from (last_left start runs) ≡ last
  last-machine =
      ap machine_from last-bytes
      ∙ machine-back last (sized-final image table checked first joint first_good.sound first_good.sized all.each)

  -- the event list is their log
  pub entries : event_list runs ≡ map bytes_of (log R first joint)
  entries = all.entries ∙ ap (map bytes_of) (logs-flatten R first (event_lists runs))

  -- the bytes of its events are theirs, and those of its answers the rules'
  pub event-bytes : map (λ (n : ByteEntry). n.event) (event_list runs) ≡ map event_bytes joint
  event-bytes =
      ap (map (λ (n : ByteEntry). n.event)) entries
      ∙ events-written (log R first joint)
      ∙ ap (map event_bytes) (log-events R first joint)

  pub answer-bytes : answers_of (event_list runs) ≡ map answer_bytes (answers R first joint)
  answer-bytes = ap answers_of entries ∙ answers-written (log R first joint) ∙ ap (map answer_bytes) (log-answers R first joint)

  abbrev noted : List Entry
  noted = logs R first (event_lists runs)

  noted-events : events noted ≡ joint
  noted-events = ap events (logs-flatten R first (event_lists runs)) ∙ log-events R first joint

  reading : values.OneByOneCalls R (words_from words) (event_lists runs)
  reading =
      proved.calls-one-by-one R (checked-laws image table checked) (words_from words) (event_lists runs) (all_valid image joint all.each)

  noted-sized : Each SizedEvent (events noted)
  noted-sized = subst (Each SizedEvent) (sym noted-events) (each-sized image joint all.each)

  pub listed : events_of (event_list runs) ≡ joint
  listed = ap events_of all.entries ∙ events-listed noted noted-sized ∙ noted-events

  second : events_of (byte_order (event_list runs)) ≡ events (order noted)
  second = ap (λ z. events_of (byte_order z)) all.entries ∙ events-ordered noted noted-sized

  -- DEMAND 3: the one-by-one reading of a list of calls
  pub calls-one-by-one : OneByOneCalls image table (fresh_state image table words state) runs
  calls-one-by-one = record {
    state =
        ap encode (ap₂ (final R) start-machine second ∙ reading.state) ∙ sym all.state ∙ ap (λ z. last_left z runs) (sym start-bytes);
    answers =
        ap (map answer_bytes) (ap₂ (answers R) start-machine second)
        ∙ answers-ordered R first noted reading.answers
        ∙ ap (λ z. answers_of (byte_order z)) (sym all.entries);
    lost =
        ap losses_of
        (ap₂ (log R) start-machine second ∙ reading.answers
        ∙ ap order (logs-flatten R first (event_lists runs) ∙ sym (ap₂ (log R) start-machine listed)));
  }

  -- without events both are Fresh's state
  pub no-events : event_list runs ≡ [] → NoChange image table (fresh_state image table words state) runs
  unfolding byte_order order_by notes_by flatten final
  no-events e =
      let s : encode (machine_from start) ≡ start = ap encode start-machine ∙ sym start-bytes in
      let o : encode (final R (machine_from start) (events_of (byte_order (event_list runs)))) ≡ start = rw e s in
      record { called = sym calls-one-by-one.state ∙ o; ordered = o }

  -- WHAT THE LAST ACCEPTED CALL LEFT IS ACCEPTED AGAIN: numbers 5 and 6 do not apply to it
  pub accepted-again : Ready image table (last_left (fresh_state image table words state) runs)
  accepted-again = ready-left image table start runs (fresh-leaves-ready image table words state calls.fresh) calls.follow

  -- so a Run that goes on from it can be refused by its events and its answers alone
  pub next-return : (events space : List ℕ)
      → run_return image table (last_left start runs) events space ≡ first_refusal
      (events_length_fault events ∷ event_fault image events ∷ answers_length_fault events space ∷ [])
  next-return events space = run-return image table (last_left start runs) events space checked accepted-again
