-- The five things that an event can do, whatever the rules: nothing, found a tree, start a job, move a job on, end a job. Every
-- theorem about events goes by these cases.
use Rattle.std.specs.Prelude.{◌≡◌, Bool, cond, ◌⊎◌, List, [], ◌∷◌, ◌++◌, ℕ, length}
use Rattle.std.proofs.Math.Path.{refl}
use Rattle.std.proofs.Math.Bool.{true, false}
use Rattle.std.proofs.Common.{inl, inr}
use Rattle.std.proofs.Math.Option.{Option, none, some}
use Rattle.rules.specs.Machine.{Signal, Job, ThreadState, idle, running, Machine, thread_at, first, window}
use Rattle.rules.specs.Answers.{out, close, sort}
use Rattle.rules.specs.Events.{Kind, stepping, cutting, Event, arrive, turn, thread_of}
use Rattle.rules.specs.Steps.{Rules, Effect, traps, exits, moves, Move, stay, grow, Reply, begin, added, pending_of, founded, admits}
use Rattle.rules.specs.Steps.{plan_arrive, plan_idle, plan_running, plan_step, plan_cut, plan, blocked, applied, grown, finished, admitted}
use Rattle.rules.specs.Steps.{lost, attempt, carry, react}
use Rattle.rules.specs.declared.answer.Answer.{Answer}
use Rattle.rules.specs.declared.answer.Answer.TheVariants.{Taken, ListFull, NoWork, Waiting, Started, Moved, Exited, Trapped}
use Rattle.rules.specs.declared.answer.Answer.TheVariants.{WasCut, NothingToCut}
use Rattle.bytes_fields.specs.Each.{Each}

-- a job starts with a signal, and these stay pending in its tree
abbrev pub start_of : Rules → Signal → List Signal → Move
start_of R g p = record { job = begin g; write = none; pending = p; want = some (R.block g.label); answer = Started }

-- a job that stood in block b goes on as j, leaving these words there
abbrev pub go_of : ℕ → List Signal → Job → List ℕ → Option Signal → Option ℕ → Move
go_of b p j words g want = record { job = j; write = some (b, words); pending = p ++ added g; want = want; answer = Moved }

-- what is left of an event that is refused, waits, or finds nothing to do: only arrivals get the answer ListFull
abbrev pub Quiet : Event → Answer → Type 0
Quiet e a = (sort a ≡ out) ⊎ ((thread_of e ≡ none) × (a ≡ ListFull))

-- what the statement of a job of thread t does
abbrev pub effect_of : Rules → Machine → ℕ → Job → Effect
effect_of R s t j = R.act t j (window (R.block j.label) s.words) (length (pending_of (first t s.trees)))

-- the signals that found trees when a job ends with an answer: at an EXIT those that it held; after a trap or a cut, none
abbrev pub released : Job → Answer → List Signal
released j Taken = []
released j ListFull = []
released j NoWork = []
released j (Waiting l) = []
released j Started = []
released j Moved = []
released j (Exited n) = j.held
released j (Trapped r) = []
released j WasCut = []
released j NothingToCut = []

-- what holds of all that it held holds of them
pub released-has : (P : Signal → Type 0) (j : Job) (a : Answer) → Each P j.held → Each P (released j a)
released-has P j Taken h = tt
released-has P j ListFull h = tt
released-has P j NoWork h = tt
released-has P j (Waiting l) h = tt
released-has P j Started h = tt
released-has P j Moved h = tt
released-has P j (Exited n) h = h
released-has P j (Trapped r) h = tt
released-has P j WasCut h = tt
released-has P j NothingToCut h = tt

-- which answers end a job of thread t: EXIT's counts the signals lost
abbrev pub EndsWith : Rules → Machine → ℕ → Job → Answer → Type 0
EndsWith R s t j Taken = ⊥
EndsWith R s t j ListFull = ⊥
EndsWith R s t j NoWork = ⊥
EndsWith R s t j (Waiting l) = ⊥
EndsWith R s t j Started = ⊥
EndsWith R s t j Moved = ⊥
EndsWith R s t j (Exited n) = n ≡ length (lost R j.held (finished R t s))
EndsWith R s t j (Trapped r) = Unit {0}
EndsWith R s t j WasCut = Unit {0}
EndsWith R s t j NothingToCut = ⊥

pub ends_close : (R : Rules) (s : Machine) (t : ℕ) (j : Job) (a : Answer) → EndsWith R s t j a → sort a ≡ close
ends_close R s t j Taken h = absurd h
ends_close R s t j ListFull h = absurd h
ends_close R s t j NoWork h = absurd h
ends_close R s t j (Waiting l) h = absurd h
ends_close R s t j Started h = absurd h
ends_close R s t j Moved h = absurd h
ends_close R s t j (Exited n) h = refl
ends_close R s t j (Trapped r) h = refl
ends_close R s t j WasCut h = refl
ends_close R s t j NothingToCut h = absurd h

module _ (R : Rules) (s : Machine) where
  pub data Happens : Event → Reply → Type 0 where
    remains : (e : Event) (a : Answer) → Quiet e a → Happens e (record { state = s; answer = a })
    founds : (g : Signal) → admits R s.trees g ≡ true
        → Happens (arrive g) (record { state = grown (founded R g) s; answer = Taken })
    starts : {k : Kind} (t : ℕ) (g : Signal) (p : List Signal) → thread_at s t ≡ idle → first t s.trees ≡ some (g ∷ p)
        → blocked R t s.threads (some (R.block g.label)) ≡ none
        → Happens (turn k t) (record { state = applied R t (start_of R g p) s; answer = Started })
    goes : {k : Kind} (t locks : ℕ) (j j' : Job) (words : List ℕ) (g : Option Signal) (want : Option ℕ) → thread_at s t ≡ running locks j
        → effect_of R s t j ≡ moves j' words g want
        → blocked R t s.threads want ≡ none
        → Happens (turn k t) (record {
          state = applied R t (go_of (R.block j.label) (pending_of (first t s.trees)) j' words g want) s;
          answer = Moved;
        })
    ends : {k : Kind} (t locks : ℕ) (j : Job) (a : Answer) → thread_at s t ≡ running locks j → EndsWith R s t j a
        → Happens (turn k t) (record { state = admitted R (released j a) (finished R t s); answer = a })

  on-arrival : (g : Signal) → Happens (arrive g) (carry R s (plan_arrive R g s.trees))
  unfolding carry plan_arrive
  on-arrival g = case (admits R s.trees g) refl
    where
      case : (b : Bool) → admits R s.trees g ≡ b
          → Happens (arrive g) (carry R s (cond b (grow (founded R g)) (stay ListFull)))
      case true h = founds g h
      case false h = remains (arrive g) ListFull (inr (refl, refl))

  on-start : {k : Kind} (t : ℕ) (g : Signal) (p : List Signal) (o : Option ℕ) → thread_at s t ≡ idle → first t s.trees ≡ some (g ∷ p)
      → blocked R t s.threads (some (R.block g.label)) ≡ o → Happens (turn k t) (attempt R t (start_of R g p) s o)
  unfolding attempt
  on-start t g p none w f b = starts t g p w f b
  on-start t g p (some l) w f b = remains (turn _ t) _ (inl refl)

  on-idle : {k : Kind} (t : ℕ) (f : Option (List Signal)) → thread_at s t ≡ idle → first t s.trees ≡ f
      → Happens (turn k t) (carry R s (plan_idle R t f))
  unfolding carry plan_idle
  on-idle t none w f = remains (turn _ t) _ (inl refl)
  on-idle t (some []) w f = remains (turn _ t) _ (inl refl)
  on-idle t (some (g ∷ p)) w f = on-start t g p _ w f refl

  module _ (t locks : ℕ) (j : Job) (w : thread_at s t ≡ running locks j) where
    on-move : {k : Kind} (j' : Job) (words : List ℕ) (g : Option Signal) (want o : Option ℕ) → effect_of R s t j ≡ moves j' words g want
        → blocked R t s.threads want ≡ o
        → Happens (turn k t) (attempt R t (go_of (R.block j.label) (pending_of (first t s.trees)) j' words g want) s o)
    unfolding attempt
    on-move j' words g want none a b = goes t locks j j' words g want w a b
    on-move j' words g want (some l) a b = remains (turn _ t) _ (inl refl)

    on-running : {k : Kind} (e : Effect) → effect_of R s t j ≡ e
        → Happens (turn k t) (carry R s (plan_running t (R.block j.label) (pending_of (first t s.trees)) j.held e))
    unfolding carry plan_running admitted
    on-running (traps r) a = ends t locks j (Trapped r) w tt
    on-running exits a = ends t locks j (Exited _) w refl
    on-running (moves j' words g want) a = on-move j' words g want _ a refl

  on_step : {k : Kind} (t : ℕ) (w : ThreadState) → thread_at s t ≡ w
      → Happens (turn k t) (carry R s (plan_step R t w (first t s.trees) s.words))
  unfolding plan_step
  on_step t idle w = on-idle t _ w refl
  on_step t (running locks j) w = on-running t locks j w _ refl

  on-cut : {k : Kind} (t : ℕ) (w : ThreadState) → thread_at s t ≡ w → Happens (turn k t) (carry R s (plan_cut t w))
  unfolding carry plan_cut admitted
  on-cut t idle w = remains (turn _ t) _ (inl refl)
  on-cut t (running locks j) w = ends t locks j WasCut w tt

  pub happens : (e : Event) → Happens e (react R s e)
  unfolding react plan
  happens (arrive g) = on-arrival g
  happens (turn stepping t) = on_step t (thread_at s t) refl
  happens (turn cutting t) = on-cut t (thread_at s t) refl
