-- That a row is one job: `one-job-a-row`, at the end.
use Rattle.std.specs.Prelude.{◌≡◌, Bool, cond, ℕ, ◌<◌, length, get_or, set}
use Rattle.std.proofs.Math.Path.{refl}
use Rattle.std.proofs.Common.{◌∙◌, get_or-set_same}
use Rattle.std.proofs.Math.Logic.{inl, inr}
use Rattle.std.proofs.Math.Bool.{true, false}
use Rattle.std.proofs.Math.Option.{Option, none, some}
use mathlib.Core.List.{List, [], ◌∷◌, ◌++◌}
use Rattle.std.proofs.Math.Decide.{ℕ_discrete}
use Rattle.std.proofs.Math.ListN.{length-set}
use Rattle.std.proofs.Math.Seq.{get_or-set_other}
use Rattle.rules.specs.Sizes.{thread_count}
use Rattle.rules.specs.Machine.{Signal, ThreadState, idle, running, Machine, thread_at, fresh, first}
use Rattle.rules.specs.Events.{Kind, stepping, cutting, Event, arrive, turn, thread_of, Valid}
use Rattle.rules.specs.Answers.{Sort, out, now, join, close, sort}
use Rattle.rules.specs.Steps.{Rules, Effect, traps, exits, moves, Move, Plan, stay, grow, move, finish, exiting, founded, admits, finished}
use Rattle.rules.specs.Steps.{plan_arrive, plan_idle, plan_running, plan_step, plan_cut, plan_turn, plan, attempt, carry, react, final}
use Rattle.rules.specs.Order.{Sheet, note_as, notes_by, blank, Entry, row_of, log, lost_by}
use Rattle.rules.specs.declared.answer.Answer.TheVariants.{ListFull, Moved}
use Rattle.lemmas_rules.specs.Logic.{get_d-same}
use Rattle.lemmas_invariant.specs.Laws.{Laws}
use Rattle.lemmas_rules.specs.Locks.{get_d-set-idle}
use Rattle.lemmas_rules.specs.Admitted.{admitted-threads}
use Rattle.lemmas_invariant.specs.Invariant.{Invariant, Good}
use Rattle.lemmas_invariant.proofs.Invariant.{good, at-mover, at_other, invariant-fresh, invariant-react}
use Rattle.theorem_serial.specs.Reading.{AllValid, by_sort, by_row, row_is}
use Rattle.theorem_serial.specs.Jobs.{AllMoved, Open, nothing, arrival, job, Row, JobRows, Running, Continues, Others, Turn}

-- ---- rows that grow

moved-snoc : (t : ℕ) (r : List Entry) (n : Entry) → AllMoved t r → n.answer ≡ Moved → thread_of n.event ≡ some t
    → AllMoved t (r ++ n ∷ [])
moved-snoc t [] n a h k = (h, k, tt)
moved-snoc t (m ∷ r) n a h k = (a.0, a.1, moved-snoc t r n a.2 h k)

open_snoc : (t : ℕ) (r : List Entry) (n : Entry) → Open t r → n.answer ≡ Moved → thread_of n.event ≡ some t → Open t (r ++ n ∷ [])
open_snoc t [] n o h k = absurd o
open_snoc t (m ∷ r) n o h k = (o.0, o.1, moved-snoc t r n o.2 h k)

row_open : (t : ℕ) (w : ThreadState) (r : List Entry) → Running w → Row t w r → Open t r
row_open t idle r h o = absurd h
row_open t (running locks j) r h o = o

open_row : (t : ℕ) (w : ThreadState) (r : List Entry) → Running w → Open t r → Row t w r
open_row t idle r h o = absurd h
open_row t (running locks j) r h o = o

-- ---- what an event's plan says of its thread before it

module _ (R : Rules) where
  abbrev Before : Machine → Plan → Type 0
  Before s (stay a) = Unit {0}
  Before s (grow x) = Unit {0}
  Before s (move t m) = Continues m.answer (thread_at s t)
  Before s (finish t a) = Running (thread_at s t)
  Before s (exiting t gs) = Running (thread_at s t)

  before-idle : (s : Machine) (t : ℕ) (f : Option (List Signal)) → thread_at s t ≡ idle → Before s (plan_idle R t f)
  unfolding plan_idle
  before-idle s t none h = tt
  before-idle s t (some []) h = tt
  before-idle s t (some (g ∷ p)) h = inl (refl, h)

  before-running : (s : Machine) (t b : ℕ) (p gs : List Signal) (e : Effect) → Running (thread_at s t) → Before s (plan_running t b p gs e)
  unfolding plan_running
  before-running s t b p gs (traps r) h = h
  before-running s t b p gs exits h = h
  before-running s t b p gs (moves j words g want) h = inr (refl, h)

  before-turn : (k : Kind) (s : Machine) (t : ℕ) (w : ThreadState) → thread_at s t ≡ w
      → Before s (plan_turn R k t w (first t s.trees) s.words)
  unfolding plan_step plan_cut
  before-turn stepping s t idle w = before-idle s t (first t s.trees) w
  before-turn stepping s t (running locks j) w = before-running s t _ _ _ _ (rw w tt)
  before-turn cutting s t idle w = tt
  before-turn cutting s t (running locks j) w = rw w tt

  before : (s : Machine) (e : Event) → Before s (plan R s e)
  unfolding plan plan_arrive
  before s (arrive g) = case (admits R s.trees g)
    where
      case : (d : Bool) → Before s (cond d (grow (founded R g)) (stay ListFull))
      case true = tt
      case false = tt
  before s (turn k t) = before-turn k s t (thread_at s t) refl

-- ---- what an answer says of the threads before and after

module _ (R : Rules) (L : Laws R) where
  turn-attempt : (s : Machine) (e : Event) (t : ℕ) (m : Move) (o : Option ℕ) → Invariant R s → Valid e → Good R s (thread_of e) (move t m)
      → Before R s (move t m)
      → Turn s e t (attempt R t m s o).state (attempt R t m s o).answer (sort (attempt R t m s o).answer)
  unfolding attempt
  turn-attempt s e t m (some b) i v g h = λ k. refl
  turn-attempt s e t m none i v g h = rw g.2 (h, rw (at-mover R L s t m i (v t g.1)) tt, at_other R L s t m, g.1)

  turn-carry : (s : Machine) (e : Event) (q : Plan) → Invariant R s → Valid e → Good R s (thread_of e) q → Before R s q
      → Turn s e (row_of e) (carry R s q).state (carry R s q).answer (sort (carry R s q).answer)
  unfolding carry
  turn-carry s e (stay a) i v (inl g) h = rw g (λ k. refl)
  turn-carry s e (stay a) i v (inr g) h = rw g.0 ((λ k. refl), g.1)
  turn-carry s e (grow x) i v g h = ((λ k. refl), g)
  turn-carry s e (move t m) i v g h = rw (row_is e t g.1) (turn-attempt s e t m _ i v g h)
  turn-carry s e (finish t a) i v g h =
      rw (row_is e t g.0, g.1) (h, get_d-set-idle s.threads t, (λ k n. get_or-set_other s.threads t k idle idle n), g.0)
  turn-carry s e (exiting t gs) i v g h =
      rw (row_is e t g, admitted-threads R gs (finished R t s))
      (h, get_d-set-idle s.threads t, (λ k n. get_or-set_other s.threads t k idle idle n), g)

  turn-of : (s : Machine) (e : Event) → Invariant R s → Valid e
      → Turn s e (row_of e) (react R s e).state (react R s e).answer (sort (react R s e).answer)
  unfolding react
  turn-of s e i v = turn-carry s e (plan R s e) i v (good R L s e i) (before R s e)

  -- ---- the sheet, event by event

  blank-rows : (words : List ℕ) → JobRows blank (fresh words)
  unfolding fresh
  blank-rows words =
      record {
        written = nothing;
        eight = refl;
        rows = λ t. rw (get_d-same idle thread_count t) (get_d-same {A = List Entry} [] thread_count t);
      }

  module _ (h : Sheet Entry) (s : Machine) (e : Event) (v : Valid e) (k : JobRows h s) where
    abbrev s' : Machine
    s' = (react R s e).state

    abbrev n : Entry
    n = record { event = e; answer = (react R s e).answer; lost = lost_by R s e }

    abbrev r : List Entry
    r = get_or h.rows (row_of e) []

    set-rows : (q : List Entry) → thread_of e ≡ some (row_of e) → Others s (row_of e) s' → Row (row_of e) (thread_at s' (row_of e)) q
        → (t : ℕ) → Row t (thread_at s' t) (get_or (set h.rows (row_of e) q) t [])
    set-rows q z o x t = case (ℕ_discrete t (row_of e))
      where
        inside : row_of e < length h.rows
        inside = rw k.eight (v (row_of e) z)

        case : Dec (t ≡ row_of e) → Row t (thread_at s' t) (get_or (set h.rows (row_of e) q) t [])
        case (yes p) = rw (p, get_or-set_same h.rows (row_of e) q [] inside) x
        case (no p) = rw (o t p, get_or-set_other h.rows (row_of e) t q [] p) (k.rows t)

    joins : Continues n.answer (thread_at s (row_of e)) → thread_of e ≡ some (row_of e) → Open (row_of e) (r ++ n ∷ [])
    joins (inl x) z = let p : r ≡ [] = rw x.1 at (k.rows (row_of e)) in rw p (x.0, z, tt)
    joins (inr x) z = open_snoc (row_of e) r n (row_open (row_of e) (thread_at s (row_of e)) r x.1 (k.rows (row_of e))) x.0 z

    note-rows : (q : Sort) → sort n.answer ≡ q → Turn s e (row_of e) s' n.answer q → JobRows (note_as q (row_of e) h n) s'
    unfolding note_as
    note-rows out z t = record { written = k.written; eight = k.eight; rows = λ j. rw (t j) (k.rows j) }
    note-rows now z t = record {
      written = arrival h.written n k.written z t.1;
      eight = k.eight;
      rows = λ j. rw (t.0 j) (k.rows j);
    }
    note-rows join z t = record {
      written = k.written;
      eight = length-set h.rows (row_of e) _ ∙ k.eight;
      rows = set-rows (r ++ n ∷ []) t.3 t.2 (open_row (row_of e) (thread_at s' (row_of e)) (r ++ n ∷ []) t.1 (joins t.0 t.3));
    }
    note-rows close z t = record {
      written =
          job (row_of e) h.written r n k.written (row_open (row_of e) (thread_at s (row_of e)) r t.0 (k.rows (row_of e))) z t.3;
      eight = length-set h.rows (row_of e) _ ∙ k.eight;
      rows = set-rows [] t.3 t.2 (rw t.1 refl);
    }

  notes-rows : (h : Sheet Entry) (s : Machine) (l : List Event) → Invariant R s → AllValid l → JobRows h s
      → JobRows (notes_by by_sort by_row h (log R s l)) (final R s l)
  unfolding notes_by log final
  notes-rows h s [] i v k = k
  notes-rows h s (e ∷ l) i v k =
      let n : Entry = record { event = e; answer = (react R s e).answer; lost = lost_by R s e } in
      notes-rows (note_as (sort n.answer) (row_of e) h n)
      (react R s e).state l (invariant-react R L s e i v.0) v.1
      (note-rows h s e v.0 k _ refl (turn-of s e i v.0))

  -- A ROW IS ONE JOB: all that is written out is arrivals and whole jobs, and a row that is left is a job that runs
  pub one-job-a-row : (words : List ℕ) (l : List Event) → AllValid l
      → JobRows (notes_by by_sort by_row blank (log R (fresh words) l)) (final R (fresh words) l)
  one-job-a-row words l v = notes-rows blank (fresh words) l (invariant-fresh R L words) v (blank-rows words)
