-- What it says that a Run was accepted: its events break no rule.
use Rattle.std.specs.Prelude.{◌≡◌, true, List, ℕ, ◌*◌, ◌<◌, eqb, leb, length}
use Rattle.std.proofs.Common.{arith, eqb-true}
use Rattle.rules.specs.Codes.{bad_event_number}
use Rattle.rules.specs.Sizes.{event_size, event_count}
use Rattle.rules.specs.Events.{events_in, event_at_ok}
use Rattle.rules.specs.Calls.{run_return, events_length_fault, event_fault}
use Rattle.lemmas_rules.specs.Logic.{and_both}
use Rattle.lemmas_rules.specs.Faults.{first-of-zero, refusal-zero, fault-free}
use Rattle.lemmas_rules.specs.Passed.{passed}

pub record EventsOk (image events : List ℕ) : Type 0 where
  pub whole : length events ≡ event_size * events_in events
  pub each : (i : ℕ) → i < events_in events → event_at_ok image events i ≡ true

pub events-ok : (image table state events space : List ℕ) → run_return image table state events space ≡ 0 → EventsOk image events
unfolding run_return events_length_fault event_fault
events-ok image table state events space h =
    let five = first-of-zero _ _ (passed image table _ h).1 in
    let six = first-of-zero _ _ five.1 in
    let seven = first-of-zero _ _ six.1 in
    let eight = first-of-zero _ _ seven.1 in
    let size =
    and_both (eqb (length events) (event_size * events_in events)) (leb (events_in events) event_count)
    (refusal-zero _ 7 0 (omega arith) seven.0)
    in
    record {
      whole = eqb-true (length events) (event_size * events_in events) size.0;
      each = fault-free (event_at_ok image events) (events_in events) bad_event_number (omega arith) eight.0;
    }
