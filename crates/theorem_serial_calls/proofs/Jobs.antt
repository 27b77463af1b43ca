-- A row is one job, of the bytes of a list of calls: `one-job-a-row`, at the end.
use Rattle.std.specs.Prelude.{◌≡◌, refl, ◌⊎◌, ℕ, get_or}
use Rattle.std.proofs.Common.{ap, ◌∙◌, subst, inl, inr}
use Rattle.std.proofs.Math.Option.{none, some}
use mathlib.Core.List.{List, [], ◌∷◌, map, map-append}
use Rattle.std.proofs.Math.ListN.{length-map}
use Rattle.rules.specs.Codes.{arrival_code}
use Rattle.rules.specs.Machine.{ThreadState, idle, running, Machine, thread_at, fresh}
use Rattle.rules.specs.Encoding.{words_from, machine_from}
use Rattle.rules.specs.Events.{Event, arrive, turn, thread_of, event_bytes}
use Rattle.rules.specs.Answers.{code, answer_bytes, now, close, sort}
use Rattle.rules.specs.Steps.{rules_by}
use Rattle.rules.specs.Order.{Sheet, notes_by, blank, Entry, log, ByteEntry}
use Rattle.rules.specs.Calls.{fresh_state}
use Rattle.rules.specs.declared.answer.Answer.{Answer}
use Rattle.rules.specs.declared.answer.Answer.TheVariants.{Taken, ListFull, NoWork, Waiting, Started, Moved}
use Rattle.rules.specs.declared.answer.Answer.TheVariants.{Exited, Trapped, WasCut, NothingToCut}
use Rattle.lemmas_rules.specs.Logic.{never}
use Rattle.lemmas_invariant.proofs.CheckedRules.{checked-laws}
use Rattle.theorem_serial.specs.Reading.{by_sort, by_row, row_is}
use Rattle.theorem_serial.specs.Jobs as values
use Rattle.theorem_serial.proofs.Jobs as proved
use Rattle.theorem_serial.specs.ByteOrder.{bytes_of, over, rows_get, byte_notes, byte-row, byte-rows}
use Rattle.theorem_serial_calls.specs.CallList.{Run, last_left, Calls, event_list}
use Rattle.theorem_serial_calls.proofs.Whole as whole
use Rattle.theorem_serial_calls.specs.Jobs.{AllMoved, Open, Jobs, nothing, arrival, job, Row, JobRows}

-- ---- from values to bytes

answer-code : (a b : Answer) → a ≡ b → get_or (answer_bytes a) 0 0 ≡ code b
unfolding answer_bytes
answer-code a b e = ap code e

thread-byte : (e : Event) (t : ℕ) → thread_of e ≡ some t → get_or (event_bytes e) 1 0 ≡ t
thread-byte e t h = byte-row e ∙ row_is e t h

arrival-kind : (e : Event) → thread_of e ≡ none → get_or (event_bytes e) 0 0 ≡ arrival_code
unfolding event_bytes
arrival-kind (arrive g) h = refl
arrival-kind (turn k t) h = never (cc)

arrival-code : (a : Answer) → sort a ≡ now → (get_or (answer_bytes a) 0 0 ≡ 1) ⊎ (get_or (answer_bytes a) 0 0 ≡ 2)
unfolding answer_bytes code
arrival-code Taken h = inl refl
arrival-code ListFull h = inr refl
arrival-code NoWork h = never (cc)
arrival-code (Waiting l) h = never (cc)
arrival-code Started h = never (cc)
arrival-code Moved h = never (cc)
arrival-code (Exited n) h = never (cc)
arrival-code (Trapped r) h = never (cc)
arrival-code WasCut h = never (cc)
arrival-code NothingToCut h = never (cc)

end-code : (a : Answer) → sort a ≡ close
    → (get_or (answer_bytes a) 0 0 ≡ 7) ⊎ ((get_or (answer_bytes a) 0 0 ≡ 8) ⊎ (get_or (answer_bytes a) 0 0 ≡ 9))
unfolding answer_bytes code
end-code Taken h = never (cc)
end-code ListFull h = never (cc)
end-code NoWork h = never (cc)
end-code (Waiting l) h = never (cc)
end-code Started h = never (cc)
end-code Moved h = never (cc)
end-code (Exited n) h = inl refl
end-code (Trapped r) h = inr (inl refl)
end-code WasCut h = inr (inr refl)
end-code NothingToCut h = never (cc)

moved-bytes : (t : ℕ) (r : List Entry) → values.AllMoved t r → AllMoved t (map bytes_of r)
unfolding code
moved-bytes t [] h = tt
moved-bytes t (n ∷ r) h = (answer-code n.answer Moved h.0, thread-byte n.event t h.1, moved-bytes t r h.2)

open-bytes : (t : ℕ) (r : List Entry) → values.Open t r → Open t (map bytes_of r)
unfolding code
open-bytes t [] h = absurd h
open-bytes t (n ∷ r) h = (answer-code n.answer Started h.0, thread-byte n.event t h.1, moved-bytes t r h.2)

jobs-bytes : (l : List Entry) → values.Jobs l → Jobs (map bytes_of l)
jobs-bytes _ values.nothing = nothing
jobs-bytes _ (values.arrival l n k a h) =
    rw (map-append bytes_of) (arrival (map bytes_of l) (bytes_of n) (jobs-bytes l k) (arrival-kind n.event h, arrival-code n.answer a))
jobs-bytes _ (values.job t l r n k o a h) =
    rw (map-append bytes_of, map-append bytes_of)
    (job t (map bytes_of l) (map bytes_of r) (bytes_of n) (jobs-bytes l k) (open-bytes t r o) (end-code n.answer a)
    (thread-byte n.event t h))

row-bytes : (t : ℕ) (w : ThreadState) (r : List Entry) → values.Row t w r → Row t w (map bytes_of r)
row-bytes t idle r h = rw h
row-bytes t (running locks j) r h = open-bytes t r h

of_values : (l : List Entry) (s : Machine) (state : List ℕ) → values.JobRows (notes_by by_sort by_row blank l) s → machine_from state ≡ s
    → JobRows (byte_notes (map bytes_of l)) state
of_values l s state k e = subst (λ (z : Sheet ByteEntry). JobRows z state) (byte-rows l) over-rows
  where
    h : Sheet Entry
    h = notes_by by_sort by_row blank l

    over-rows : JobRows (over bytes_of h) state
    over-rows = unfold over in
        record {
          written = jobs-bytes h.written k.written;
          eight = length-map h.rows (map bytes_of) ∙ k.eight;
          rows = λ t. rw (rows_get bytes_of h.rows t, e) (row-bytes t (thread_at s t) (get_or h.rows t []) (k.rows t));
        }

-- ---- of a list of calls

module _ (image table words state : List ℕ) (runs : List Run) (calls : Calls image table words state runs) where
  abbrev joint : List Event
  joint = whole.joint image table words state runs calls

  -- A ROW IS ONE JOB
  pub one-job-a-row : JobRows (byte_notes (event_list runs)) (last_left (fresh_state image table words state) runs)
  one-job-a-row =
      let c = whole.checked image table words state runs calls in
      let valid = whole.all_valid image joint (whole.all image table words state runs calls).each in
      let k = proved.one-job-a-row (rules_by image table) (checked-laws image table c) (words_from words) joint valid in
      rw (whole.entries image table words state runs calls)
      (of_values (log (rules_by image table) (fresh (words_from words)) joint) (whole.last image table words state runs calls)
      (last_left (fresh_state image table words state) runs) k (whole.last-machine image table words state runs calls))
