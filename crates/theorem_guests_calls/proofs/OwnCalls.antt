-- The way back: a list of calls on the linked image whose arrivals are all of one guest has its counterpart on that guest's own image, a
-- list of calls there, each accepted, of the same events with their labels taken back, `has-own-calls`. Both get the same answers
-- and leave the same words, and the state on the linked image is the guest's with its labels shifted, `own-calls-read-alike`; so the
-- guest's state is that of the linked image with the labels taken back, `own-state`.
use Rattle.std.specs.Prelude.{◌≡◌, ℕ}
use Rattle.std.proofs.Math.Path.{sym}
use Rattle.std.proofs.Common.{ap, ◌∙◌, subst}
use mathlib.Core.List.{List, map, map-map}
use Rattle.rules.specs.Machine.{fresh}
use Rattle.rules.specs.Encoding.{encode, words_from}
use Rattle.rules.specs.Events.{Event, event_bytes}
use Rattle.rules.specs.Steps.{rules_by, final}
use Rattle.rules.specs.Order.{ByteEntry}
use Rattle.rules.specs.Link.{shift_machine, shift_event, shift_events}
use Rattle.rules.specs.Calls.{fresh_state, link_return, link_out}
use Rattle.bytes_fields.specs.Each.{Each}
use Rattle.lemmas_invariant.specs.StaysWellFormed.{Accepted}
use Rattle.theorem_event_runs.specs.Written.{each-sized}
use Rattle.theorem_serial_calls.specs.CallList.{Run, last_left, Calls, event_list}
use Rattle.theorem_serial_calls.proofs.Whole as whole
use Rattle.theorem_guests.specs.Guests.{Guest}
use Rattle.theorem_guests.specs.Inverse.{unshift_machine, unshift_event, unshift_state, OfGuest}
use Rattle.theorem_guests.proofs.Inverse.{machine-unshifted, events-shifted, all-accepted-alone}
use Rattle.theorem_guests.proofs.Guests as values
use Rattle.theorem_guests_calls.specs.Shifts.{all-shifted}
use Rattle.theorem_guests_calls.specs.Guests.{IsGuest, SameEvents, GuestReading}
use Rattle.theorem_guests_calls.specs.OwnCalls.{OnlyGuest, own_runs, HasOwnCalls}
use Rattle.theorem_guests_calls.proofs.Reading.{guest-of, guest-reading}
use Rattle.theorem_guests_calls.proofs.OwnCounterparts.{calls-there, events-there, counterparts-there}

module _ (first second table out : List ℕ) (accepted : link_return first second table out ≡ 0) (d : ℕ) (own other : List ℕ)
    (guest : IsGuest first second d own other) (words state : List ℕ) (runs : List Run)
    (linked : Calls (link_out first second table out) table words state runs) (only : OnlyGuest d own runs) where
  abbrev L : List ℕ
  L = link_out first second table out

  abbrev alone : List Run
  alone = own_runs d own table words state runs

  beside : Guest d own other L table
  beside = guest-of first second table out accepted d own other guest

  abbrev events : List Event
  events = whole.joint L table words state runs linked

  of-guest : Each (OfGuest d own) events
  of-guest = subst (Each (OfGuest d own)) (whole.listed L table words state runs linked) only

  there : Each (λ e. Accepted own (unshift_event d e)) events
  there = all-accepted-alone d own L beside.part events of-guest (whole.all L table words state runs linked).each

  -- EVERY LIST OF CALLS ON THE LINKED IMAGE WITH ONE GUEST'S ARRIVALS ALONE HAS ITS COUNTERPART ON THE GUEST'S OWN IMAGE
  pub has-own-calls : HasOwnCalls d own table words state runs
  has-own-calls = counterparts-there d own table beside.checked L words state runs linked there

  calls_alone : Calls own table words state alone
  calls_alone = calls-there d own table beside.checked L words state runs linked there

  abbrev own-events : List Event
  own-events = whole.joint own table words state alone calls_alone

  own-accepted : Each (Accepted own) own-events
  own-accepted = (whole.all own table words state alone calls_alone).each

  -- the calls' events are those of the counterpart, shifted
  events-again : map (shift_event d) own-events ≡ events
  events-again =
      ap (map (shift_event d)) (events-there d own table beside.checked L words state runs linked there)
      ∙ events-shifted d own L beside.part events of-guest

  same-events : SameEvents d alone runs
  same-events =
      whole.event-bytes L table words state runs linked
      ∙ ap (map event_bytes) (sym events-again)
      ∙ sym (all-shifted d own-events (each-sized own own-events own-accepted))
      ∙ sym (ap (map (shift_events d)) (whole.event-bytes own table words state alone calls_alone))
      ∙ map-map (shift_events d) (λ (n : ByteEntry). n.event) (event_list alone)

  -- BY ITSELF THE GUEST GETS THE SAME ANSWERS, and leaves the same words and the state of which that on the linked image is the shift
  pub own-calls-read-alike : GuestReading d (fresh_state own table words state) (fresh_state L table words state) alone runs
  own-calls-read-alike =
      guest-reading first second table out accepted d own other guest words state state alone runs calls_alone linked same-events

  left-shifted : whole.last L table words state runs linked ≡ shift_machine d (whole.last own table words state alone calls_alone)
  left-shifted =
      ap (final (rules_by L table) (fresh (words_from words))) (sym events-again)
      ∙ (values.reads-as-alone d own other L table beside (words_from words) own-events own-accepted).state

  -- THE STATE THAT IT LEAVES IS THAT ON THE LINKED IMAGE WITH THE LABELS TAKEN BACK
  pub own-state : last_left (fresh_state own table words state) alone ≡ unshift_state d (last_left (fresh_state L table words state) runs)
  unfolding unshift_state
  own-state =
      let last = whole.last own table words state alone calls_alone in
      whole.last-bytes own table words state alone calls_alone
      ∙ ap encode (sym (ap (unshift_machine d) (whole.last-machine L table words state runs linked ∙ left-shifted)
      ∙ machine-unshifted d last))
