-- The answer to an event: its code and its detail, the two bytes of docs/MACHINE.md, and what the one-by-one reading does with it.
use Rattle.std.specs.Prelude.{cond, ◌||◌, List, [], ◌∷◌, ℕ, eqb}
use Rattle.rules.specs.declared.answer.Answer.{Answer}
use Rattle.rules.specs.declared.answer.Answer.TheVariants.{Taken, ListFull, NoWork, Waiting, Started, Moved, Exited, Trapped}
use Rattle.rules.specs.declared.answer.Answer.TheVariants.{WasCut, NothingToCut}
use Rattle.rules.specs.Codes.{arrived_code, list_full_code, no_work_code, waiting_code, started_code}
use Rattle.rules.specs.Codes.{moved_on_code, exited_code, trapped_code}
use Rattle.rules.specs.Codes.{was_cut_code, nothing_to_cut_code}

unfoldable pub code : Answer → ℕ
code Taken = arrived_code
code ListFull = list_full_code
code NoWork = no_work_code
code (Waiting l) = waiting_code
code Started = started_code
code Moved = moved_on_code
code (Exited n) = exited_code
code (Trapped r) = trapped_code
code WasCut = was_cut_code
code NothingToCut = nothing_to_cut_code

-- zero unless named: the lock waited for, how many held signals an EXIT lost, and a trap's reason
unfoldable pub detail : Answer → ℕ
detail Taken = 0
detail ListFull = 0
detail NoWork = 0
detail (Waiting l) = l.0
detail Started = 0
detail Moved = 0
detail (Exited n) = n
detail (Trapped r) = r
detail WasCut = 0
detail NothingToCut = 0

unfoldable pub answer_bytes : Answer → List ℕ
answer_bytes a = code a ∷ detail a ∷ []

-- what the one-by-one reading does with an event, by the code of its answer: leave it out (3, 4, 10), write it out at once (1, 2), let it
-- join its thread's
-- row (5, 6), or join and close the row (7, 8, 9)
pub data Sort : Type 0 where
  out now join close : Sort

abbrev pub sort : Answer → Sort
sort Taken = now
sort ListFull = now
sort NoWork = out
sort (Waiting l) = out
sort Started = join
sort Moved = join
sort (Exited n) = close
sort (Trapped r) = close
sort WasCut = close
sort NothingToCut = out

unfoldable pub sort_of_code : ℕ → Sort
sort_of_code c =
    cond (eqb c arrived_code || eqb c list_full_code) now
    (cond (eqb c no_work_code || eqb c waiting_code || eqb c nothing_to_cut_code) out
    (cond (eqb c exited_code || eqb c trapped_code || eqb c was_cut_code) close
    join))
