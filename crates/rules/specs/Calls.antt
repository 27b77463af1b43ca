-- The five calls, each as a function from the lent bytes to the return value and to the lent bytes after it. A call refuses by the first
-- of its numbers that applies, and leaves every lent byte then; otherwise it returns 0, or what the walk found.
use Rattle.std.specs.Prelude.{Bool, cond, not, List, [], ◌∷◌, ℕ, ◌+◌, ◌*◌, length, eqb, leb, ltb}
use Rattle.rules.specs.Codes.{bad_answers_length_number, bad_words_length_number, bad_walk_thread_number, bad_met_length_number}
use Rattle.rules.specs.Codes.{bad_state_length_number, bad_state_number, bad_events_length_number, bad_event_number}
use Rattle.rules.specs.Codes.{shared_block_number, too_many_records_number, bad_output_length_number}
use Rattle.rules.specs.Sizes.{words_size, state_size, answer_size, thread_count, record_count}
use Rattle.rules.specs.Bytes.{blocks}
use Rattle.rules.specs.Image.{labels}
use Rattle.rules.specs.Check.{refusal, first_fault, first_refusal, image_faults, images_faults}
use Rattle.rules.specs.Machine.{fresh}
use Rattle.rules.specs.Encoding.{encode, words_from, machine_from}
use Rattle.rules.specs.WellFormed.{well_formed}
use Rattle.rules.specs.Answers.{answer_bytes}
use Rattle.rules.specs.Events.{events_in, events_length_ok, event_at_ok, events_from}
use Rattle.rules.specs.Steps.{rules_by, answers, final}
use Rattle.rules.specs.Walk.{walk_from, met_bytes, met_count}
use Rattle.rules.specs.Link.{share_block, linked}

-- ---- the causes

-- 5: state not 9,633 bytes; 6: state not well formed
unfoldable pub state_length_fault : List ℕ → ℕ
state_length_fault state = refusal (eqb (length state) state_size) bad_state_length_number 0

unfoldable pub state_fault : List ℕ → List ℕ → List ℕ → ℕ
state_fault image table state = refusal (well_formed image table state) bad_state_number 0

-- 7: events not 55 × m, m 0 to 1,024; 8: event breaks a rule, the first index; 9: answers not 2 × m bytes
unfoldable pub events_length_fault : List ℕ → ℕ
events_length_fault events = refusal (events_length_ok events) bad_events_length_number 0

unfoldable pub event_fault : List ℕ → List ℕ → ℕ
event_fault image events = first_fault (event_at_ok image events) (events_in events) bad_event_number

unfoldable pub answers_length_fault : List ℕ → List ℕ → ℕ
answers_length_fault events space = refusal (eqb (length space) (answer_size * events_in events)) bad_answers_length_number 0

-- 10: initial words not 512 bytes; 11: walk's thread above 7; 12: walk's buffer not 8 bytes
unfoldable pub words_length_fault : List ℕ → ℕ
words_length_fault words = refusal (eqb (length words) words_size) bad_words_length_number 0

unfoldable pub thread_fault : ℕ → ℕ
thread_fault t = refusal (ltb t thread_count) bad_walk_thread_number 0

unfoldable pub met_length_fault : List ℕ → ℕ
met_length_fault met = refusal (eqb (length met) thread_count) bad_met_length_number 0

-- 13: both images name the same block; 14: more than 512 records result; 15: output not their exact length
unfoldable pub shared_block_fault : List ℕ → List ℕ → ℕ
shared_block_fault first second = refusal (not (share_block first second)) shared_block_number 0

unfoldable pub too_many_records_fault : List ℕ → List ℕ → ℕ
too_many_records_fault first second = refusal (leb (labels first + labels second) record_count) too_many_records_number 0

unfoldable pub output_length_fault : List ℕ → List ℕ → List ℕ → ℕ
output_length_fault first second out = refusal (eqb (length out) (length first + length second)) bad_output_length_number 0

-- a call that is not refused
abbrev pub accepts : ℕ → Bool
accepts fault = eqb fault 0

-- ---- the image check: 1 to 4

unfoldable pub check_return : List ℕ → List ℕ → ℕ
check_return image table = first_refusal (image_faults image table [])

-- ---- fresh: 1 to 5, 10

unfoldable pub fresh_return : List ℕ → List ℕ → List ℕ → List ℕ → ℕ
fresh_return image table words state = first_refusal (image_faults image table (state_length_fault state ∷ words_length_fault words ∷ []))

unfoldable pub fresh_state : List ℕ → List ℕ → List ℕ → List ℕ → List ℕ
fresh_state image table words state = cond (accepts (fresh_return image table words state)) (encode (fresh (words_from words))) state

-- ---- run: 1 to 9

unfoldable pub run_return : List ℕ → List ℕ → List ℕ → List ℕ → List ℕ → ℕ
run_return image table state events space =
    first_refusal
    (image_faults image table
    (state_length_fault state ∷ state_fault image table state ∷ events_length_fault events ∷ event_fault image events
    ∷ answers_length_fault events space ∷ []))

unfoldable pub run_state : List ℕ → List ℕ → List ℕ → List ℕ → List ℕ → List ℕ
run_state image table state events space =
    cond (accepts (run_return image table state events space))
    (encode (final (rules_by image table) (machine_from state) (events_from events)))
    state

unfoldable pub run_answers : List ℕ → List ℕ → List ℕ → List ℕ → List ℕ → List ℕ
run_answers image table state events space =
    cond (accepts (run_return image table state events space))
    (blocks answer_bytes (answers (rules_by image table) (machine_from state) (events_from events)))
    space

-- ---- the walk: 1 to 6, 11, 12

unfoldable pub walk_fault : List ℕ → List ℕ → List ℕ → ℕ → List ℕ → ℕ
walk_fault image table state t met =
    first_refusal (image_faults image table (state_length_fault state ∷ state_fault image table state ∷ thread_fault t
    ∷ met_length_fault met ∷ []))

unfoldable pub walk_return : List ℕ → List ℕ → List ℕ → ℕ → List ℕ → ℕ
walk_return image table state t met =
    let fault = walk_fault image table state t met in
    cond (accepts fault) (met_count (walk_from (rules_by image table) (machine_from state) t)) fault

unfoldable pub walk_met : List ℕ → List ℕ → List ℕ → ℕ → List ℕ → List ℕ
walk_met image table state t met =
    cond (accepts (walk_fault image table state t met)) (met_bytes (walk_from (rules_by image table) (machine_from state) t)) met

-- ---- the link: 1 to 4, of both images and the table, the first image before the second within a number; then 13 to 15

abbrev pub link_faults : List ℕ → List ℕ → List ℕ → List ℕ
link_faults first second out = shared_block_fault first second ∷ too_many_records_fault first second ∷ output_length_fault first second out
    ∷ []

unfoldable pub link_return : List ℕ → List ℕ → List ℕ → List ℕ → ℕ
link_return first second table out = first_refusal (images_faults first second table (link_faults first second out))

unfoldable pub link_out : List ℕ → List ℕ → List ℕ → List ℕ → List ℕ
link_out first second table out = cond (accepts (link_return first second table out)) (linked first second) out
