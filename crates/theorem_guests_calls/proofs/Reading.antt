-- A guest's reading, of the calls: `guest-reading`, and `first-guest-state`. And nothing of the other guest is touched:
-- `other-words-stay`, `other-locks-free`.
use Rattle.std.specs.Prelude.{◌≡◌, true, ℕ, take}
use Rattle.std.proofs.Math.Path.{sym, ap}
use Rattle.std.proofs.Common.{◌∙◌, subst, take_at}
use mathlib.Core.List.{List, map, map-map}
use Rattle.rules.specs.Sizes.{word_total, words_size}
use Rattle.rules.specs.Bytes.{le16, blocks, pad}
use Rattle.rules.specs.Machine.{Machine, fresh, window}
use Rattle.rules.specs.Encoding.{encode, words_from, machine_from}
use Rattle.rules.specs.Events.{Event, event_bytes}
use Rattle.rules.specs.Answers.{answer_bytes}
use Rattle.rules.specs.Steps.{rules_by, answers, final}
use Rattle.rules.specs.Order.{ByteEntry}
use Rattle.rules.specs.Link.{names, shift_machine, shift_event, shift_state, shift_events}
use Rattle.rules.specs.Calls.{fresh_state, link_return, link_out}
use Rattle.bytes_fields.specs.Each.{Each}
use Rattle.lemmas_encoding.specs.Lengths.{length-words}
use Rattle.lemmas_invariant.specs.StaysWellFormed.{Accepted}
use Rattle.theorem_event_runs.specs.Written.{each-sized, same-events}
use Rattle.theorem_serial_calls.specs.CallList.{Run, last_left, Calls, event_list}
use Rattle.theorem_serial_calls.proofs.Whole as whole
use Rattle.theorem_guests.specs.Reading as of_values
use Rattle.theorem_guests.specs.Unshifted.{machine-same, events-same}
use Rattle.theorem_guests.specs.OtherBlocks.{NotOwn, Free}
use Rattle.theorem_guests.specs.Guests.{Guest}
use Rattle.theorem_guests.proofs.Guests as values
use Rattle.theorem_guests.proofs.Guests.{first-guest, second-guest}
use Rattle.theorem_guests_calls.specs.Shifts.{all-shifted}
use Rattle.theorem_guests_calls.specs.Guests.{IsGuest, the-first, the_second, SameEvents, GuestReading}
use Rattle.theorem_guests_calls.specs.Reading.{OthersUntouched}

-- ---- the words of a state

words_of : (s : Machine) → take words_size (encode s) ≡ blocks le16 (pad 0 word_total s.words)
unfolding encode
words_of s = take_at _ _ words_size (length-words s)

-- ---- the reading

module _ (first second table out : List ℕ) (accepted : link_return first second table out ≡ 0) where
  abbrev L : List ℕ
  L = link_out first second table out

  pub guest-of : (d : ℕ) (own other : List ℕ) → IsGuest first second d own other → Guest d own other L table
  guest-of d own other the-first = first-guest first second table out accepted
  guest-of d own other the_second = second-guest first second table out accepted

  module _ (d : ℕ) (own other : List ℕ) (guest : IsGuest first second d own other) (words state state' : List ℕ) (runs runs' : List Run)
      (alone : Calls own table words state runs) (linked : Calls L table words state' runs') (same : SameEvents d runs runs') where
    abbrev own-events : List Event
    own-events = whole.joint own table words state runs alone

    own-accepted : Each (Accepted own) own-events
    own-accepted = (whole.all own table words state runs alone).each

    reads : of_values.GuestReading d own L table (fresh (words_from words)) (fresh (words_from words)) own-events
    reads = values.reads-as-alone d own other L table (guest-of d own other guest) (words_from words) own-events own-accepted

    linked-events : whole.joint L table words state' runs' linked ≡ map (shift_event d) own-events
    linked-events =
        same-events (whole.joint L table words state' runs' linked) (map (shift_event d) own-events)
        (each-sized L (whole.joint L table words state' runs' linked) (whole.all L table words state' runs' linked).each)
        (each-sized L (map (shift_event d) own-events)
        (values.accepted-there d own other L table (guest-of d own other guest) (words_from words) own-events own-accepted))
        (sym (whole.event-bytes L table words state' runs' linked)
        ∙ same
        ∙ sym (map-map (shift_events d) (λ (n : ByteEntry). n.event) (event_list runs))
        ∙ ap (map (shift_events d)) (whole.event-bytes own table words state runs alone)
        ∙ all-shifted d own-events (each-sized own own-events own-accepted))

    left-shifted : whole.last L table words state' runs' linked ≡ shift_machine d (whole.last own table words state runs alone)
    left-shifted = ap (final (rules_by L table) (fresh (words_from words))) linked-events ∙ reads.state

    -- A GUEST'S READING: the answers, the words and the state that the guest has by itself from the same initial words
    pub guest-reading : GuestReading d (fresh_state own table words state) (fresh_state L table words state') runs runs'
    unfolding shift_state
    guest-reading = record {
      answers =
          whole.answer-bytes L table words state' runs' linked
          ∙ ap (λ z. map answer_bytes (answers (rules_by L table) (fresh (words_from words)) z)) linked-events
          ∙ ap (map answer_bytes) reads.answers
          ∙ sym (whole.answer-bytes own table words state runs alone);
      words =
          ap (take words_size) (whole.last-bytes L table words state' runs' linked ∙ ap encode left-shifted)
          ∙ words_of (shift_machine d (whole.last own table words state runs alone))
          ∙ sym (words_of (whole.last own table words state runs alone))
          ∙ sym (ap (take words_size) (whole.last-bytes own table words state runs alone));
      state =
          whole.last-bytes L table words state' runs' linked
          ∙ ap encode left-shifted
          ∙ sym (ap (λ z. encode (shift_machine d z)) (whole.last-machine own table words state runs alone));
    }

    linked-machine : machine_from (last_left (fresh_state L table words state') runs')
        ≡ final (rules_by L table) (fresh (words_from words)) (map (shift_event d) own-events)
    linked-machine =
        whole.last-machine L table words state' runs' linked ∙ ap (final (rules_by L table) (fresh (words_from words))) linked-events

    -- NOTHING OF THE OTHER GUEST IS TOUCHED: the words of its blocks are those that Fresh was lent
    pub other-words-stay : (b : ℕ) → names other b ≡ true
        → window b (words_from (last_left (fresh_state L table words state') runs')) ≡ window b (words_from words)
    unfolding machine_from
    other-words-stay b h =
        ap (λ (z : Machine). window b z.words) linked-machine
        ∙ values.other-words-stay d own other L table (guest-of d own other guest) (words_from words) own-events own-accepted b h

    -- and no thread holds a lock that none of the guest's own blocks has
    pub other-locks-free : (lock : ℕ) → NotOwn own table lock
        → Free lock (machine_from (last_left (fresh_state L table words state') runs'))
    other-locks-free lock h =
        subst (Free lock) (sym linked-machine)
        (values.other-locks-free d own other L table (guest-of d own other guest) (words_from words) own-events own-accepted lock h)

    pub others-untouched : OthersUntouched first second table out own other words state' runs'
    others-untouched = record { other-words-stay = other-words-stay; other-locks-free = other-locks-free }

  -- ---- the first guest, whose labels are shifted by nothing

  module _ (words state state' : List ℕ) (runs runs' : List Run) (alone : Calls first table words state runs)
      (linked : Calls L table words state' runs')
      (same : map (λ (n : ByteEntry). n.event) (event_list runs') ≡ map (λ (n : ByteEntry). n.event) (event_list runs)) where
    unshifted : SameEvents 0 runs runs'
    unshifted =
        let l = whole.joint first table words state runs alone in
        same
        ∙ whole.event-bytes first table words state runs alone
        ∙ ap (map event_bytes) (sym (events-same l))
        ∙ sym (all-shifted 0 l (each-sized first l (whole.all first table words state runs alone).each))
        ∙ sym (ap (map (shift_events 0)) (whole.event-bytes first table words state runs alone))
        ∙ map-map (shift_events 0) (λ (n : ByteEntry). n.event) (event_list runs)

    -- THE FIRST GUEST'S STATE BYTES ARE THE VERY ONES, where the event bytes are
    pub first-guest-state : last_left (fresh_state L table words state') runs' ≡ last_left (fresh_state first table words state) runs
    unfolding shift_state
    first-guest-state =
        (guest-reading 0 first second the-first words state state' runs runs' alone linked unshifted).state
        ∙ ap encode (machine-same (machine_from (last_left (fresh_state first table words state) runs)))
        ∙ ap encode (whole.last-machine first table words state runs alone)
        ∙ sym (whole.last-bytes first table words state runs alone)
