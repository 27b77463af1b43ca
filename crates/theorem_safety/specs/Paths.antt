-- The statements that a job carries out, and the calls that they leave open: a job begins without open calls, a CALL opens one, a RETURN
-- takes the newest.
use Rattle.std.specs.Prelude.{Bool, false, cond, List, [], ◌∷◌, ◌++◌, ℕ, eqb}
use Rattle.rules.specs.Image.{record_at, label_b}
use Rattle.rules.specs.Statements.{statement_of, Way, following, branching, transferring, entering, posting, founding, calling, returning}
use Rattle.rules.specs.Statements.{ending, way}
use Rattle.rules.specs.Machine.{ThreadState, idle, running, Machine, thread_at, fresh}
use Rattle.rules.specs.Events.{Event, arrive, turn}
use Rattle.rules.specs.Steps.{Rules, older, react}
use Rattle.rules.specs.declared.answer.Answer.{Answer}
use Rattle.rules.specs.declared.answer.Answer.TheVariants.{Taken, ListFull, NoWork, Waiting, Started, Moved, Exited, Trapped, WasCut}
use Rattle.rules.specs.declared.answer.Answer.TheVariants.{NothingToCut}

-- ---- what a job's statements do to the calls that are open

-- all but the newest
abbrev pub without_newest : List ℕ → List ℕ
without_newest [] = []
without_newest (r ∷ rs) = older r rs

-- by where a statement that is carried out leads, with label B: CALL adds B, RETURN takes the newest, any other changes nothing
abbrev pub opened : Way → ℕ → List ℕ → List ℕ
opened following b rs = rs
opened branching b rs = rs
opened transferring b rs = rs
opened entering b rs = rs
opened posting b rs = rs
opened founding b rs = rs
opened calling b rs = rs ++ b ∷ []
opened returning b rs = without_newest rs
opened ending b rs = rs

-- the way of the statement at a label
abbrev pub way_at : List ℕ → ℕ → Way
way_at image l = way (statement_of (record_at image l))

-- the statements at these labels, carried out one after the other
unfoldable pub open_after : List ℕ → List ℕ → List ℕ → List ℕ
open_after image rs [] = rs
open_after image rs (l ∷ path) = open_after image (opened (way_at image l) (label_b (record_at image l)) rs) path

-- a job begins without open calls
abbrev pub open_calls : List ℕ → List ℕ → List ℕ
open_calls image path = open_after image [] path

-- ---- the labels of the statements that the job of thread t has carried out since it started, after a list of events

abbrev pub label_of : ThreadState → List ℕ
label_of idle = []
label_of (running locks j) = j.label ∷ []

-- an event of the thread itself: a job starts anew; a statement that is answered "moved" is carried out
abbrev pub noted : Answer → ThreadState → List ℕ → List ℕ
noted Taken w path = path
noted ListFull w path = path
noted NoWork w path = path
noted (Waiting l) w path = path
noted Started w path = []
noted Moved w path = path ++ label_of w
noted (Exited n) w path = path
noted (Trapped r) w path = path
noted WasCut w path = path
noted NothingToCut w path = path

abbrev pub is_of : ℕ → Event → Bool
is_of t (arrive g) = false
is_of t (turn k u) = eqb u t

module _ (R : Rules) (t : ℕ) where
  abbrev pub path_next : Machine → Event → Answer → List ℕ → List ℕ
  path_next s e a path = cond (is_of t e) (noted a (thread_at s t) path) path

  unfoldable pub path_from : List ℕ → Machine → List Event → List ℕ
  path_from path s [] = path
  path_from path s (e ∷ l) = path_from (path_next s e (react R s e).answer path) (react R s e).state l

  -- from a fresh machine
  abbrev pub path_of : List ℕ → List Event → List ℕ
  path_of words l = path_from [] (fresh words) l
