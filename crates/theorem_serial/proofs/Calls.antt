-- The one-by-one reading of a list of calls: `calls-one-by-one`.
use Rattle.std.specs.Prelude.{ℕ}
use mathlib.Core.List.{List, flatten}
use Rattle.rules.specs.Machine.{fresh}
use Rattle.rules.specs.Events.{Event}
use Rattle.rules.specs.Steps.{Rules}
use Rattle.lemmas_invariant.specs.Laws.{Laws}
use Rattle.theorem_serial.specs.Reading.{OneByOne, AllValid}
use Rattle.theorem_serial.specs.Calls.{logs-flatten, finals-flatten, OneByOneCalls}
use Rattle.theorem_serial.proofs.Reading.{one_by_one}

-- THE ONE-BY-ONE READING of a whole list of calls
pub calls-one-by-one : (R : Rules) → Laws R → (words : List ℕ) (l : List (List Event)) → AllValid (flatten l) → OneByOneCalls R words l
calls-one-by-one R L words l v =
    let x : OneByOne R words (flatten l) = one_by_one R L words (flatten l) v in
    record {
      answers = rw (logs-flatten R (fresh words) l) x.answers;
      state = rw (logs-flatten R (fresh words) l, finals-flatten R (fresh words) l) x.state;
    }
