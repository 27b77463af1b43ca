-- A Run of events that are given as values, from any state that numbers 1 to 6 accept: `run_of`.
use Rattle.std.specs.Prelude.{◌≡◌, List, ℕ, ◌*◌, ◌≤◌}
use Rattle.std.proofs.Math.Path.{refl}
use Rattle.std.proofs.Math.ListN.{length}
use Rattle.rules.specs.Sizes.{event_count, answer_size}
use Rattle.rules.specs.Events.{Event}
use Rattle.rules.specs.Calls.{run_state, run_answers}
use Rattle.bytes_fields.specs.Each.{Each}
use Rattle.lemmas_invariant.specs.StaysWellFormed.{Accepted}
use Rattle.theorem_event_runs.specs.Written.{written_back}
use Rattle.theorem_event_runs.specs.Runs.{Taken, RunOf, accepted}

module _ (image table state space : List ℕ) (l : List Event) (taken : Taken image table state) (each : Each (Accepted image) l)
    (few : length l ≤ event_count) (room : length space ≡ answer_size * length l) where
  -- A RUN OF ACCEPTED EVENTS FROM AN ACCEPTED STATE IS ACCEPTED, and its answers and the state that it leaves are the rules'
  pub run_of : RunOf image table state space l
  unfolding run_answers run_state
  run_of = record {
    accepted = accepted image table state space l taken each few room;
    answers = rw (accepted image table state space l taken each few room, written_back image l each) refl;
    left = rw (accepted image table state space l taken each few room, written_back image l each) refl;
  }
