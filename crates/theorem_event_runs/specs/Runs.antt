-- A Run of events that are given as values, from any state that numbers 1 to 6 accept, is accepted: `accepted`, at the end.
use Rattle.std.specs.Prelude.{◌≡◌, List, [], ◌∷◌, ℕ, ◌*◌, ◌≤◌}
use Rattle.std.proofs.Math.Path.{refl}
use Rattle.std.proofs.Common.{◌∙◌}
use Rattle.std.proofs.Math.ListN.{length}
use borrow.Author.Tests.{eq-eqb}
use Rattle.rules.specs.Sizes.{event_count, answer_size}
use Rattle.rules.specs.Bytes.{blocks}
use Rattle.rules.specs.Check.{first_refusal, image_faults, Checked}
use Rattle.rules.specs.Machine.{Machine}
use Rattle.rules.specs.Encoding.{encode, machine_from}
use Rattle.rules.specs.Events.{Event, event_bytes}
use Rattle.rules.specs.Answers.{answer_bytes}
use Rattle.rules.specs.Steps.{rules_by, answers, final}
use Rattle.rules.specs.Calls.{state_length_fault, state_fault, events_length_fault, event_fault, answers_length_fault}
use Rattle.rules.specs.Calls.{run_return, run_state, run_answers}
use Rattle.bytes_fields.specs.Each.{Each}
use Rattle.lemmas_rules.specs.Faults.{first-of-zero, checked-of, checked-rest}
use Rattle.lemmas_encoding.specs.Lengths.{length-encode}
use Rattle.lemmas_encoding.specs.Sized.{Sized}
use Rattle.lemmas_invariant.specs.Sound.{Sound}
use Rattle.lemmas_invariant.specs.StaysWellFormed.{Accepted}
use Rattle.lemmas_invariant.specs.States.{Ready}
use Rattle.lemmas_invariant.proofs.States.{encoded-well-formed}
use Rattle.theorem_event_runs.specs.Written.{written_count, passes-seven, passes-eight}

-- ---- states that are accepted

-- numbers 1 to 6 do not apply
abbrev pub Taken : List ℕ → List ℕ → List ℕ → Type 0
Taken image table state = first_refusal (image_faults image table (state_length_fault state ∷ state_fault image table state ∷ [])) ≡ 0

-- numbers 1 to 4, and numbers 5 and 6
pub record Parts (image table state : List ℕ) : Type 0 where
  pub checked : Checked image table
  pub ready : Ready image table state

pub parts : (image table state : List ℕ) → Taken image table state → Parts image table state
parts image table state taken =
    let four = checked-of image table (state_length_fault state ∷ state_fault image table state ∷ []) taken in
    let five = first-of-zero (state_length_fault state) (state_fault image table state ∷ []) four.1 in
    record {
      checked = four.0;
      ready = record { size = five.0; formed = (first-of-zero (state_fault image table state) [] five.1).0 };
    }

-- the bytes of a machine that keeps the rules, and that they have room for
pub encoded-taken : (image table : List ℕ) (s : Machine) → Checked image table → Sized s → Sound image table s
    → Taken image table (encode s)
unfolding state_length_fault state_fault first_refusal
encoded-taken image table s checked sized sound =
    checked-rest image table (state_length_fault (encode s) ∷ state_fault image table (encode s) ∷ []) checked
    ∙ rw (length-encode s, encoded-well-formed image table s sized sound) refl

-- a Run from an accepted state can be refused by its events and its answers alone
pub run-return : (image table state events space : List ℕ) → Checked image table → Ready image table state
    → run_return image table state events space
    ≡ first_refusal (events_length_fault events ∷ event_fault image events ∷ answers_length_fault events space ∷ [])
unfolding run_return first_refusal
run-return image table state events space checked ready =
    let own : List ℕ = events_length_fault events ∷ event_fault image events ∷ answers_length_fault events space ∷ [] in
    let more : List ℕ = state_length_fault state ∷ state_fault image table state ∷ own in
    let rest : first_refusal more ≡ first_refusal own = rw (ready.size, ready.formed) refl in
    checked-rest image table more checked ∙ rest

-- ---- a Run

-- of these events, with this space for the answers
pub record RunOf (image table state space : List ℕ) (l : List Event) : Type 0 where
  pub accepted : run_return image table state (blocks event_bytes l) space ≡ 0
  pub answers : run_answers image table state (blocks event_bytes l) space
      ≡ blocks answer_bytes (answers (rules_by image table) (machine_from state) l)
  pub left : run_state image table state (blocks event_bytes l) space ≡ encode (final (rules_by image table) (machine_from state) l)

module _ (image table state space : List ℕ) (l : List Event) (taken : Taken image table state) (each : Each (Accepted image) l)
    (few : length l ≤ event_count) (room : length space ≡ answer_size * length l) where
  pub accepted : run_return image table state (blocks event_bytes l) space ≡ 0
  unfolding answers_length_fault first_refusal
  accepted =
      let k : Parts image table state = parts image table state taken in
      run-return image table state (blocks event_bytes l) space k.checked k.ready
      ∙ rw (passes-seven l few, passes-eight image l each, written_count l, eq-eqb (length space) (answer_size * length l) room) refl
