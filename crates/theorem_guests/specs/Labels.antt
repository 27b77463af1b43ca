-- What an event does, with its labels shifted; labels below n; and that what reads and changes threads and trees does so to the shifted
-- ones.
use Rattle.std.specs.Prelude.{◌≡◌, ℕ, zero, suc, ◌<◌, get_or, set}
use Rattle.std.proofs.Math.Path.{refl, ap}
use Rattle.std.proofs.Math.Logic.{ite}
use Rattle.std.proofs.Math.Option.{Option, none, some}
use mathlib.Core.List.{List, [], ◌∷◌, map}
use Rattle.std.proofs.Math.Decide.{ℕ_discrete}
use Rattle.rules.specs.Machine.{Signal, Tree, ThreadState, idle, running, Machine, thread_at, locks_of, first, refit, put, tree_threads}
use Rattle.rules.specs.Events.{Event, arrive, turn}
use Rattle.rules.specs.Steps.{Effect, traps, exits, moves, Move, Plan, stay, grow, move, finish, exiting, Reply, added, pending_of, held}
use Rattle.rules.specs.Link.{shift_signal, shift_job, shift_thread, shift_tree, shift_machine}
use Rattle.bytes_fields.specs.Each.{Each}
use Rattle.lemmas_invariant.specs.Queues.{FirstHas, first-has}

-- ---- what an event does, with its labels shifted

abbrev pub shift_sent : ℕ → Option Signal → Option Signal
shift_sent d none = none
shift_sent d (some g) = some (shift_signal d g)

abbrev pub shift_effect : ℕ → Effect → Effect
shift_effect d (traps r) = traps r
shift_effect d exits = exits
shift_effect d (moves j words g want) = moves (shift_job d j) words (shift_sent d g) want

abbrev pub shift_pending : ℕ → Option (List Signal) → Option (List Signal)
shift_pending d none = none
shift_pending d (some p) = some (map (shift_signal d) p)

abbrev pub shift_move : ℕ → Move → Move
shift_move d m = record {
  job = shift_job d m.job;
  write = m.write;
  pending = map (shift_signal d) m.pending;
  want = m.want;
  answer = m.answer;
}

abbrev pub shift_plan : ℕ → Plan → Plan
shift_plan d (stay a) = stay a
shift_plan d (grow x) = grow (shift_tree d x)
shift_plan d (move t m) = move t (shift_move d m)
shift_plan d (finish t a) = finish t a
shift_plan d (exiting t gs) = exiting t (map (shift_signal d) gs)

abbrev pub shift_reply : ℕ → Reply → Reply
shift_reply d r = record { state = shift_machine d r.state; answer = r.answer }

-- ---- labels below n

module _ (n : ℕ) where
  -- of a running thread its label and the labels of the signals that it holds, of a tree those of its pending signals, of an arrival its
  -- label
  abbrev pub SignalBelow : Signal → Type 0
  SignalBelow g = g.label < n

  abbrev pub ThreadBelow : ThreadState → Type 0
  ThreadBelow idle = Unit {0}
  ThreadBelow (running locks j) = (j.label < n) × Each SignalBelow j.held

  abbrev pub TreeBelow : Tree → Type 0
  TreeBelow x = Each SignalBelow x.pending

  abbrev pub EventBelow : Event → Type 0
  EventBelow (arrive g) = SignalBelow g
  EventBelow (turn k t) = Unit {0}

  -- of a plan those of the signals of an EXIT
  abbrev pub PlanBelow : Plan → Type 0
  PlanBelow (stay a) = Unit {0}
  PlanBelow (grow x) = Unit {0}
  PlanBelow (move t m) = Unit {0}
  PlanBelow (finish t a) = Unit {0}
  PlanBelow (exiting t gs) = Each SignalBelow gs

  pub record Below (s : Machine) : Type 0 where
    pub threads : (t : ℕ) → ThreadBelow (thread_at s t)
    pub trees : Each TreeBelow s.trees

  abbrev pub FirstBelow : Option (List Signal) → Type 0
  FirstBelow o = FirstHas TreeBelow (Each SignalBelow) o

  pub first_below : (t : ℕ) (l : List Tree) → Each TreeBelow l → FirstBelow (first t l)
  first_below = first-has TreeBelow (Each SignalBelow) (λ x h. h)

-- ---- what reads and changes threads and trees does so to the shifted ones

pub map-set : {A B : Type 0} (f : A → B) (l : List A) (i : ℕ) (a : A) → map f (set l i a) ≡ set (map f l) i (f a)
map-set f [] i a = refl
map-set f (x ∷ l) zero a = refl
map-set f (x ∷ l) (suc i) a = ap (λ z. f x ∷ z) (map-set f l i a)

module _ (d : ℕ) where
  pub locks-shift : (w : ThreadState) → locks_of (shift_thread d w) ≡ locks_of w
  locks-shift idle = refl
  locks-shift (running locks j) = refl

  pub thread-shift : (ws : List ThreadState) (t : ℕ) → get_or (map (shift_thread d) ws) t idle ≡ shift_thread d (get_or ws t idle)
  thread-shift [] t = refl
  thread-shift (w ∷ ws) zero = refl
  thread-shift (w ∷ ws) (suc t) = thread-shift ws t

  pub held-shift : (l : ℕ) (ws : List ThreadState) → held l (map (shift_thread d) ws) ≡ held l ws
  unfolding held
  held-shift l [] = refl
  held-shift l (w ∷ ws) = rw (locks-shift w, held-shift l ws) refl

  pub threads-shift : (l : List Tree) → tree_threads (map (shift_tree d) l) ≡ tree_threads l
  threads-shift [] = refl
  threads-shift (x ∷ l) = ap (λ z. x.thread ∷ z) (threads-shift l)

  pub first-shift : (t : ℕ) (l : List Tree) → first t (map (shift_tree d) l) ≡ shift_pending d (first t l)
  unfolding first
  first-shift t [] = refl
  first-shift t (x ∷ l) = case (ℕ_discrete x.thread t) (first-shift t l)
    where
      case : (c : Dec (x.thread ≡ t)) → first t (map (shift_tree d) l) ≡ shift_pending d (first t l)
          → ite c (some (map (shift_signal d) x.pending)) (first t (map (shift_tree d) l))
          ≡ shift_pending d (ite c (some x.pending) (first t l))
      case (yes e) h = refl
      case (no e) h = h

  pub put-shift : (t : ℕ) (o : Option (List Signal)) (l : List Tree)
      → put t (shift_pending d o) (map (shift_tree d) l) ≡ map (shift_tree d) (put t o l)
  unfolding put
  put-shift t o [] = refl
  put-shift t o (x ∷ l) = case o (ℕ_discrete x.thread t) (put-shift t o l)
    where
      case : (q : Option (List Signal)) (c : Dec (x.thread ≡ t))
          → put t (shift_pending d o) (map (shift_tree d) l) ≡ map (shift_tree d) (put t o l)
          → ite c (refit t (shift_pending d q) (map (shift_tree d) l)) (shift_tree d x ∷ put t (shift_pending d o) (map (shift_tree d) l))
          ≡ map (shift_tree d) (ite c (refit t q l) (x ∷ put t o l))
      case none (yes e) h = refl
      case (some p) (yes e) h = refl
      case q (no e) h = ap (λ z. shift_tree d x ∷ z) h

  pub pending-shift : (o : Option (List Signal)) → pending_of (shift_pending d o) ≡ map (shift_signal d) (pending_of o)
  pending-shift none = refl
  pending-shift (some p) = refl

  pub added-shift : (o : Option Signal) → added (shift_sent d o) ≡ map (shift_signal d) (added o)
  added-shift none = refl
  added-shift (some g) = refl
