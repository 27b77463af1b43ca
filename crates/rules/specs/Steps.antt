-- "Events and the answer to each": arrival, step and cut. A plan says what an event is to do, from what its own thread has; carrying
-- the plan out is the only place that looks at other threads, and it looks at their lock sets alone.
use Rattle.std.specs.Prelude.{Bool, true, false, cond, not, ◌&&◌, ◌||◌, List, [], ◌∷◌, ◌++◌, ℕ, ◌^◌, length, set, eqb, ltb}
use Rattle.std.proofs.Math.Option.{Option, none, some}
use Rattle.std.specs.Int.Bits.{bit_or}
use Rattle.rules.specs.Sorts
use Rattle.rules.specs.Sizes.{tree_count}
use Rattle.rules.specs.Codes.{fd_code, no_return_label_code, foreign_fd_block_code}
use Rattle.rules.specs.Bytes.{has}
use Rattle.rules.specs.Image.{record_at, block_field, label_a, label_b, Row, row_at}
use Rattle.rules.specs.Statements.{statement_of, data_of}
use Rattle.rules.specs.Machine.{Signal, Tree, Job, job, with_held, ThreadState, idle, running, Machine, thread_at, locks_of, fill}
use Rattle.rules.specs.Machine.{first, put, tree_threads, window, keep}
use Rattle.rules.specs.Events.{Kind, stepping, cutting, Event, arrive, turn}
use Rattle.rules.specs.Effects.{Got, trap, got, Next, on_a, on_b, into_a, call_a, back, Going, Outcome, ends, goes, View, outcome}
use Rattle.rules.specs.declared.answer.Answer.{Answer}
use Rattle.rules.specs.declared.answer.Answer.TheVariants.{Taken, ListFull, NoWork, Waiting, Started, Moved, Exited, Trapped}
use Rattle.rules.specs.declared.answer.Answer.TheVariants.{WasCut, NothingToCut}

-- ---- what a statement asks for, once its labels are put in

-- a trap and its reason; an end; or the job as it goes on, the words of the block that it was in, a signal for its own tree, and the
-- block whose lock it must have first
pub data Effect : Type 0 where
  traps : ℕ → Effect
  exits : Effect
  moves : Job → List ℕ → Option Signal → Option ℕ → Effect

abbrev pub trap_if : Bool → ℕ → Effect → Effect
trap_if true r e = traps r
trap_if false r e = e

-- RETURN takes the newest return label; the older ones stay
abbrev pub newest : ℕ → List ℕ → ℕ
newest a [] = a
newest a (b ∷ l) = newest b l

abbrev pub older : ℕ → List ℕ → List ℕ
older a [] = []
older a (b ∷ l) = a ∷ older b l

-- a signal to label A with these values
abbrev pub signal_to : ℕ → Option (List ℕ) → Option Signal
signal_to a none = none
signal_to a (some vs) = some (record { label = a; values = vs })

-- a signal that is to be held, if there is one, comes behind those that are
abbrev pub hold_on : List Signal → Option Signal → List Signal
hold_on gs none = gs
hold_on gs (some g) = gs ++ g ∷ []

-- an FD block of another thread
unfoldable pub alien : Row → ℕ → Bool
alien r t = eqb r.kind fd_code && not (eqb r.thread t)

-- of a label they are told the block, and of a block the row of the table. RETURN with no return label: reason 2; direct SEND or CALL
-- to an FD block of another thread: reason 5
module _ (block : ℕ → ℕ) (row : ℕ → Row) where
  abbrev pub onward : ℕ → List ℕ → List Signal → ℕ → Going → Option ℕ → Effect
  onward l returns gs a g want =
      moves (with_held (hold_on gs (signal_to a g.held)) (job l returns g.cells.registers)) g.cells.words
      (signal_to a g.sent) want

  abbrev pub steer : ℕ → ℕ → ℕ → List Signal → Going → Next → List ℕ → Effect
  steer t a b gs g on_a rs = onward a rs gs a g none
  steer t a b gs g on_b rs = onward b rs gs a g none
  steer t a b gs g into_a rs = trap_if (alien (row (block a)) t) foreign_fd_block_code (onward a rs gs a g (some (block a)))
  steer t a b gs g call_a rs = trap_if (alien (row (block a)) t) foreign_fd_block_code (onward a (rs ++ b ∷ []) gs a g (some (block a)))
  steer t a b gs g back [] = traps no_return_label_code
  steer t a b gs g back (r ∷ rs) = onward (newest r rs) (older r rs) gs a g none

  abbrev pub resolve : ℕ → List ℕ → List Signal → ℕ → ℕ → Got Outcome → Effect
  resolve t rs gs a b (trap r) = traps r
  resolve t rs gs a b (got ends) = exits
  resolve t rs gs a b (got (goes g)) = steer t a b gs g g.next rs

abbrev pub view : Job → List ℕ → ℕ → View
view j words pending = record {
  cells = record { registers = j.registers; words = words };
  depth = length j.returns;
  pending = pending;
  held = length j.held;
}

-- ---- what the rules go by

pub record Rules : Type 0 where
  -- the block of a label; the thread and the lock of a block
  pub block : ℕ → ℕ
  pub thread : ℕ → ℕ
  pub lock : ℕ → ℕ
  -- what the statement at a job's label does, on thread t, with the words of its block and so many signals pending in its tree
  pub act : ℕ → Job → List ℕ → ℕ → Effect
  -- is there room for one more tree on a thread, beside trees on these threads?
  pub room : List ℕ → ℕ → Bool

-- the rules that an image and a block table make: 16 trees live leave no room
abbrev pub block_at : List ℕ → ℕ → ℕ
block_at image l = block_field (record_at image l)

unfoldable pub act_by : List ℕ → List ℕ → ℕ → Job → List ℕ → ℕ → Effect
act_by image table t j words pending =
    let r = record_at image j.label in
    resolve (block_at image) (row_at table) t j.returns j.held (label_a r) (label_b r)
    (outcome (view j words pending) (statement_of r) (data_of r))

abbrev pub room_for : List ℕ → ℕ → Bool
room_for threads t = ltb (length threads) tree_count

abbrev pub rules_by : List ℕ → List ℕ → Rules
rules_by image table = record {
  block = block_at image;
  thread = λ b. (row_at table b).thread;
  lock = λ b. (row_at table b).lock;
  act = act_by image table;
  room = room_for;
}

-- ---- what an event is to do, from what its own thread has

-- the job goes on, or starts: its words are written to a block, its tree gets these pending signals, and the lock of a block is wanted
pub record Move : Type 0 where
  pub job : Job
  pub write : Option (ℕ × List ℕ)
  pub pending : List Signal
  pub want : Option ℕ
  pub answer : Answer

pub data Plan : Type 0 where
  stay : Answer → Plan
  grow : Tree → Plan
  move : ℕ → Move → Plan
  finish : ℕ → Answer → Plan
  exiting : ℕ → List Signal → Plan

pub record Reply : Type 0 where
  pub state : Machine
  pub answer : Answer

-- the job that a signal starts: its values fill registers 0 upward
abbrev pub begin : Signal → Job
begin g = job g.label [] (fill g.values)

abbrev pub added : Option Signal → List Signal
added none = []
added (some g) = g ∷ []

abbrev pub pending_of : Option (List Signal) → List Signal
pending_of none = []
pending_of (some p) = p

-- step, running thread: a buffered signal goes to the end of the job's own tree; EXIT takes along the signals that the job held, and a
-- trap drops them
unfoldable pub plan_running : ℕ → ℕ → List Signal → List Signal → Effect → Plan
plan_running t b p gs (traps r) = finish t (Trapped r)
plan_running t b p gs exits = exiting t gs
plan_running t b p gs (moves j words g want) =
    move t (record { job = j; write = some (b, words); pending = p ++ added g; want = want; answer = Moved })

-- cut: code 9, and the signals that the job held are dropped; on an idle thread code 10, no change
unfoldable pub plan_cut : ℕ → ThreadState → Plan
plan_cut t idle = stay NothingToCut
plan_cut t (running locks j) = finish t WasCut

-- ---- what carrying a plan out needs of no rules

-- some thread holds a lock
unfoldable pub held : ℕ → List ThreadState → Bool
held l [] = false
held l (w ∷ ws) = has l (locks_of w) || held l ws

-- the words of a block are stored
abbrev pub written : Option (ℕ × List ℕ) → List ℕ → List ℕ
written none words = words
written (some p) words = keep p.0 p.1 words

-- a tree goes to the list's end
abbrev pub grown : Tree → Machine → Machine
grown x s = record { words = s.words; threads = s.threads; trees = s.trees ++ x ∷ [] }

module _ (R : Rules) where
  -- the thread of a signal's block, and a tree with this signal on it
  abbrev pub home : Signal → ℕ
  home g = R.thread (R.block g.label)

  abbrev pub founded : Signal → Tree
  founded g = record { thread = home g; pending = g ∷ [] }

  -- is there room for a tree with this signal beside these trees?
  abbrev pub admits : List Tree → Signal → Bool
  admits l g = R.room (tree_threads l) (home g)

  -- arrival: no room, code 2, no change; otherwise a tree with this signal
  unfoldable pub plan_arrive : Signal → List Tree → Plan
  plan_arrive g l = cond (admits l g) (grow (founded g)) (stay ListFull)

  -- step, idle thread: empty queue, code 3; otherwise the first tree's oldest signal is taken, if its block's lock can be
  unfoldable pub plan_idle : ℕ → Option (List Signal) → Plan
  plan_idle t none = stay NoWork
  plan_idle t (some []) = stay NoWork
  plan_idle t (some (g ∷ p)) =
      move t (record { job = begin g; write = none; pending = p; want = some (R.block g.label); answer = Started })

  unfoldable pub plan_step : ℕ → ThreadState → Option (List Signal) → List ℕ → Plan
  plan_step t idle f words = plan_idle t f
  plan_step t (running locks j) f words =
      plan_running t (R.block j.label) (pending_of f) j.held
      (R.act t j (window (R.block j.label) words) (length (pending_of f)))

  -- a turn of thread t, from the thread's state, the pending signals of its first tree and the words
  abbrev pub plan_turn : Kind → ℕ → ThreadState → Option (List Signal) → List ℕ → Plan
  plan_turn stepping t w f words = plan_step t w f words
  plan_turn cutting t w f words = plan_cut t w

  unfoldable pub plan : Machine → Event → Plan
  plan s (arrive g) = plan_arrive g s.trees
  plan s (turn k t) = plan_turn k t (thread_at s t) (first t s.trees) s.words

  -- ---- and its doing, in the machine

  -- the lock of the wanted block, if a thread other than t holds it
  unfoldable pub blocked : ℕ → List ThreadState → Option ℕ → Option ℕ
  blocked t ws none = none
  blocked t ws (some b) = cond (held (R.lock b) (set ws t idle)) (some (R.lock b)) none

  -- the lock is taken
  abbrev pub grant : Option ℕ → ℕ → ℕ
  grant none locks = locks
  grant (some b) locks = bit_or locks (2 ^ R.lock b)

  abbrev pub applied : ℕ → Move → Machine → Machine
  applied t m s = record {
    words = written m.write s.words;
    threads = set s.threads t (running (grant m.want (locks_of (thread_at s t))) m.job);
    trees = put t (some m.pending) s.trees;
  }

  -- an ended job's tree, if not empty, on the thread of its oldest signal's block
  abbrev pub requeued : Option (List Signal) → List Tree
  requeued none = []
  requeued (some []) = []
  requeued (some (g ∷ p)) = record { thread = home g; pending = g ∷ p } ∷ []

  -- an end of any sort clears the thread to idle and keeps shared writes and pending signals: the job's tree leaves its place and, if not
  -- empty, goes to the list's end
  abbrev pub finished : ℕ → Machine → Machine
  finished t s = record {
    words = s.words;
    threads = set s.threads t idle;
    trees = put t none s.trees ++ requeued (first t s.trees);
  }

  -- a signal that a job held founds a tree at the list's end, if there is room, and is lost otherwise; the next one finds the list as
  -- this one left it
  abbrev pub admit : Signal → Machine → Machine
  admit g s = cond (admits s.trees g) (grown (founded g) s) s

  unfoldable pub admitted : List Signal → Machine → Machine
  admitted [] s = s
  admitted (g ∷ gs) s = admitted gs (admit g s)

  -- those of them that are lost
  unfoldable pub lost : List Signal → Machine → List Signal
  lost [] s = []
  lost (g ∷ gs) s = cond (admits s.trees g) (lost gs (admit g s)) (g ∷ lost gs (admit g s))

  -- waiting changes nothing
  unfoldable pub attempt : ℕ → Move → Machine → Option ℕ → Reply
  attempt t m s none = record { state = applied t m s; answer = m.answer }
  attempt t m s (some l) = record { state = s; answer = Waiting (Sorts.lock l) }

  unfoldable pub carry : Machine → Plan → Reply
  carry s (stay a) = record { state = s; answer = a }
  carry s (grow x) = record { state = grown x s; answer = Taken }
  carry s (move t m) = attempt t m s (blocked t s.threads m.want)
  carry s (finish t a) = record { state = finished t s; answer = a }
  carry s (exiting t gs) = record { state = admitted gs (finished t s); answer = Exited (length (lost gs (finished t s))) }

  unfoldable pub react : Machine → Event → Reply
  react s e = carry s (plan s e)

  -- ---- a list of events

  unfoldable pub answers : Machine → List Event → List Answer
  answers s [] = []
  answers s (e ∷ l) = (react s e).answer ∷ answers (react s e).state l

  unfoldable pub final : Machine → List Event → Machine
  final s [] = s
  final s (e ∷ l) = final (react s e).state l
