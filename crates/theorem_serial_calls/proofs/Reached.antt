-- A list of calls, parted at one step: its entry in the event list, and what the calls leave where it is the last event, proved.
use Rattle.std.specs.Prelude.{◌≡◌, refl, ℕ}
use Rattle.std.proofs.Common.{sym, ◌∙◌, subst}
use Rattle.std.proofs.Math.Path.{ap}
use mathlib.Core.List.{List, [], ◌∷◌, ◌++◌, map, map-append}
use Rattle.rules.specs.Machine.{Machine}
use Rattle.rules.specs.Encoding.{machine_from}
use Rattle.rules.specs.Events.{Event, step, event_bytes}
use Rattle.rules.specs.Answers.{code, detail, answer_bytes}
use Rattle.rules.specs.Steps.{Rules, Reply, rules_by, finished, react, final}
use Rattle.rules.specs.Order.{log}
use Rattle.rules.specs.Calls.{fresh_state}
use Rattle.rules.specs.declared.answer.Answer.TheVariants as answer
use Rattle.bytes_fields.specs.Each.{Each, each-front}
use Rattle.lemmas_rules.specs.EventLists.{log-append, final-append}
use Rattle.lemmas_rules.specs.Locks.{get_d-set-idle}
use Rattle.lemmas_invariant.specs.StaysWellFormed.{Accepted}
use Rattle.theorem_serial.specs.ByteOrder.{bytes_of}
use Rattle.theorem_serial_calls.specs.CallList.{Run, last_left, Calls, event_list, events_of}
use Rattle.theorem_serial_calls.specs.Joined.{Good, good-final}
use Rattle.theorem_serial_calls.proofs.Whole as whole
use Rattle.theorem_serial_calls.specs.Reached.{entries_from, reached, entries_to, Stepped, Trapped}

module _ (image table words state : List ℕ) (runs : List Run) (calls : Calls image table words state runs) where
  abbrev R : Rules
  R = rules_by image table

  abbrev first : Machine
  first = whole.first image table words state runs calls

  module _ (before after : List Event) (t : ℕ) (split : events_of (event_list runs) ≡ before ++ step t ∷ after) where
    parted : whole.joint image table words state runs calls ≡ before ++ step t ∷ after
    parted = sym (whole.listed image table words state runs calls) ∙ split

    pub good : Good image table (reached image table words before)
    good =
        good-final image table (whole.checked image table words state runs calls) _ before
        (whole.first_good image table words state runs calls)
        (each-front (Accepted image) before (step t ∷ after)
        (subst (Each (Accepted image)) parted (whole.all image table words state runs calls).each))

    module _ (r : Reply) (replied : react R (reached image table words before) (step t) ≡ r) where
      -- the event list, with this reply to the step
      pub entries : event_list runs
          ≡ entries_to image table words before
          ++ record { event = event_bytes (step t); answer = answer_bytes r.answer } ∷ entries_from image table r.state after
      unfolding log final
      entries =
          whole.entries image table words state runs calls
          ∙ ap (λ z. map bytes_of (log R first z)) parted
          ∙ ap (map bytes_of) (log-append R first before (step t ∷ after))
          ∙ map-append bytes_of (log R first before) _
          ∙ ap (λ (z : Reply). entries_to image table words before
          ++ record { event = event_bytes (step t); answer = answer_bytes z.answer } ∷ entries_from image table z.state after) replied

      -- the machine in the bytes that the last accepted call left, if the step is the last event
      machine-left : after ≡ [] → machine_from (last_left (fresh_state image table words state) runs) ≡ r.state
      unfolding final
      machine-left e =
          whole.last-machine image table words state runs calls
          ∙ ap (final R first) (parted ∙ ap (λ (z : List Event). before ++ step t ∷ z) e)
          ∙ final-append R first before (step t ∷ [])
          ∙ ap (λ (z : Reply). z.state) replied

      pub stepped : Stepped image table words state runs before after t (code r.answer) (detail r.answer) r.state
      unfolding answer_bytes
      stepped = record { list = entries; left = machine-left }

    pub trapped : (reason : ℕ) → react R (reached image table words before) (step t)
        ≡ record { state = finished R t (reached image table words before); answer = answer.Trapped reason }
        → Trapped image table words state runs before after t reason
    unfolding code detail
    trapped reason e =
        record { stepped = stepped _ e; unwritten = refl; cleared = get_d-set-idle (reached image table words before).threads t }
