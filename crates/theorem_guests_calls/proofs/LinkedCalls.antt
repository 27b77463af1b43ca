-- Every list of a guest's calls has its counterpart on the linked image: a list of calls there, each accepted, of the guest's events with
-- their labels shifted, `has-counterparts`; it reads as the guest's calls do by themselves, `counterparts-read-alike`.
use Rattle.std.specs.Prelude.{◌≡◌}
use Rattle.std.proofs.Math.Path.{refl, sym}
use Rattle.std.proofs.Common.{ap, ◌∙◌, subst}
use mathlib.Core.List.{List, [], ◌∷◌, map, map-map}
use Prim.Native.Nat.{ℕ}
use Rattle.rules.specs.Check.{Checked}
use Rattle.rules.specs.Machine.{fresh}
use Rattle.rules.specs.Encoding.{encode, words_from}
use Rattle.rules.specs.Events.{event_bytes}
use Rattle.rules.specs.Order.{ByteEntry}
use Rattle.rules.specs.Link.{shift_machine, shift_event, shift_events}
use Rattle.rules.specs.Calls.{state_length_fault, words_length_fault, check_return, fresh_return, fresh_state, link_return, link_out}
use Rattle.lemmas_rules.specs.Faults.{checked-rest}
use Rattle.theorem_event_runs.specs.Written.{each-sized}
use Rattle.theorem_serial_calls.specs.CallList.{Run, Follow, Calls, event_list}
use Rattle.theorem_serial_calls.specs.Joined.{good-fresh}
use Rattle.theorem_serial_calls.proofs.Whole as whole
use Rattle.theorem_guests.proofs.Passes.{linked-passes}
use Rattle.theorem_guests.specs.Guests.{Guest}
use Rattle.theorem_guests_calls.specs.Shifts.{all-shifted}
use Rattle.theorem_guests_calls.specs.Guests.{IsGuest, SameEvents, GuestReading}
use Rattle.theorem_guests_calls.proofs.Reading.{guest-of, guest-reading}
use Rattle.theorem_guests_calls.proofs.Counterparts.{CounterpartsAccepted, counterparts-accepted}
use Rattle.theorem_guests_calls.specs.LinkedCalls.{linked_runs, HasCounterparts}

module _ (first second table out : List ℕ) (accepted : link_return first second table out ≡ 0) (d : ℕ) (own other : List ℕ)
    (guest : IsGuest first second d own other) (words state : List ℕ) (runs : List Run) (alone : Calls own table words state runs) where
  abbrev L : List ℕ
  L = link_out first second table out

  checked : Checked L table
  unfolding check_return
  checked = linked-passes first second table out accepted

  beside : Guest d own other L table
  beside = guest-of first second table out accepted d own other guest

  -- Fresh is accepted on the linked image as on the guest's own
  fresh-there : fresh_return L table words state ≡ 0
  unfolding fresh_return
  fresh-there =
      let more : List ℕ = state_length_fault state ∷ words_length_fault words ∷ [] in
      checked-rest L table more checked ∙ sym (checked-rest own table more beside.checked) ∙ alone.fresh

  -- and leaves the same bytes
  start-there : fresh_state L table words state ≡ encode (shift_machine d (fresh (words_from words)))
  unfolding fresh_state fresh
  start-there = rw fresh-there refl

  all : CounterpartsAccepted d own other L table beside checked (fresh (words_from words)) runs
  unfolding fresh
  all =
      counterparts-accepted d own other L table beside checked (fresh (words_from words)) runs
      (record { alone = good-fresh own table beside.checked words; shifted = good-fresh L table checked words })
      alone.bytes
      (subst (λ (z : List ℕ). Follow own table z runs) (whole.start-bytes own table words state runs alone) alone.follow)

  calls-there : Calls L table words state (linked_runs d L table words state runs)
  calls-there = record {
    fresh = fresh-there;
    follow = rw start-there all.follow;
    bytes = rw start-there all.bytes;
  }

  same-events : SameEvents d runs (linked_runs d L table words state runs)
  same-events =
      let own-events = whole.joint own table words state runs alone in
      let values : whole.joint L table words state (linked_runs d L table words state runs) calls-there ≡ map (shift_event d) own-events =
      rw start-there all.values in
      whole.event-bytes L table words state (linked_runs d L table words state runs) calls-there
      ∙ ap (map event_bytes) values
      ∙ sym (all-shifted d own-events (each-sized own own-events (whole.all own table words state runs alone).each))
      ∙ sym (ap (map (shift_events d)) (whole.event-bytes own table words state runs alone))
      ∙ map-map (shift_events d) (λ (n : ByteEntry). n.event) (event_list runs)

  -- EVERY LIST OF A GUEST'S CALLS HAS ITS COUNTERPART ON THE LINKED IMAGE
  pub has-counterparts : HasCounterparts d L table words state runs
  has-counterparts = record { calls = calls-there; accepted = rw start-there all.accepted; same = same-events }

  -- WHICH READS AS THE GUEST'S CALLS DO BY THEMSELVES
  pub counterparts-read-alike : GuestReading d (fresh_state own table words state) (fresh_state L table words state) runs
      (linked_runs d L table words state runs)
  counterparts-read-alike =
      guest-reading first second table out accepted d own other guest words state state runs (linked_runs d L table words state runs) alone
      calls-there same-events
