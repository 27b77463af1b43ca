-- Trees keep their places: an event of thread t changes or removes t's first tree alone, and adds trees at the list's end alone: at most
-- that first one and, at an EXIT, one for each signal that t's job held and that was not lost.
use Rattle.std.specs.Prelude.{◌≡◌, List, [], ◌∷◌, ◌++◌, ℕ, suc, ◌+◌, ◌-◌, ◌≤◌, length}
use Rattle.std.proofs.Math.Path.{refl}
use Rattle.std.proofs.Common.{sym, ap, ◌∙◌, append-nil}
use Rattle.std.proofs.Math.Option.{Option, none}
use Rattle.std.proofs.Math.Decide.{ℕ_discrete}
use native.Mathlib.Omega.{arith}
use Rattle.rules.specs.Machine.{Signal, Tree, ThreadState, idle, Machine, thread_at, held_of, queue, first, put}
use Rattle.rules.specs.Events.{Event, arrive, turn}
use Rattle.rules.specs.declared.answer.Answer.{Answer}
use Rattle.rules.specs.declared.answer.Answer.TheVariants.{Taken, ListFull, NoWork, Waiting, Started, Moved, Exited, Trapped}
use Rattle.rules.specs.declared.answer.Answer.TheVariants.{WasCut, NothingToCut}
use Rattle.lemmas_rules.specs.Trees.{first-there, put-there, first-here}
use Rattle.lemmas_rules.specs.Logic.{never}
use Rattle.lemmas_invariant.specs.Queues.{queue-here, queue-there}

-- at most one tree, and it is t's
pub record OneOf (t : ℕ) (l : List Tree) : Type 0 where
  pub one : length l ≤ 1
  pub mine : queue t l ≡ l

-- the list l and the list l' that an event of thread t makes of it: the trees before and after t's first keep their places; that first
-- one may be changed or leave; and at most so many trees come to the end
pub record InPlace (t most : ℕ) (l l' : List Tree) : Type 0 where
  pub before : List Tree
  pub own : List Tree
  pub own' : List Tree
  pub after : List Tree
  pub last : List Tree
  pub old : l ≡ before ++ (own ++ after)
  pub new : l' ≡ before ++ (own' ++ (after ++ last))
  pub first : queue t before ≡ []
  pub was : OneOf t own
  pub is : OneOf t own'
  pub added : length last ≤ most

pub none_of : (t : ℕ) → OneOf t []
none_of t = unfold queue in record { one = omega arith; mine = refl }

pub one_of : (t : ℕ) (x : Tree) → x.thread ≡ t → OneOf t (x ∷ [])
one_of t x e = record { one = omega arith; mine = queue-here t x [] e ∙ unfold queue in refl }

-- a list without a tree of the thread
pub put-missing : (t : ℕ) (o : Option (List Signal)) (l : List Tree) → first t l ≡ none → (put t o l ≡ l) × (queue t l ≡ [])
put-missing t o [] f = unfold put queue in (refl, refl)
put-missing t o (x ∷ l) f = case (ℕ_discrete x.thread t) (put-missing t o l)
  where
    case : Dec (x.thread ≡ t) → (first t l ≡ none → (put t o l ≡ l) × (queue t l ≡ []))
        → (put t o (x ∷ l) ≡ x ∷ l) × (queue t (x ∷ l) ≡ [])
    case (yes e) ih = never (cc (first-here t x l e))
    case (no e) ih =
        let r = ih (sym (first-there t x l e) ∙ f) in
        (put-there t x l o e ∙ ap (λ (z : List Tree). x ∷ z) r.0, queue-there t x l e ∙ r.1)

-- another thread's queue may only become longer, at its end, by at most so many trees
pub record Longer (most : ℕ) (q q' : List Tree) : Type 0 where
  pub more : List Tree
  pub whole : q' ≡ q ++ more
  pub few : length more ≤ most

pub unchanged : (most : ℕ) (q : List Tree) → Longer most q q
unchanged most q = record { more = []; whole = sym (append-nil q); few = omega arith }

pub queue-short : (u : ℕ) (l : List Tree) → length (queue u l) ≤ length l
queue-short u [] = unfold queue in omega arith
queue-short u (x ∷ l) = case (ℕ_discrete x.thread u) (queue-short u l)
  where
    case : Dec (x.thread ≡ u) → length (queue u l) ≤ length l → length (queue u (x ∷ l)) ≤ suc (length l)
    case (yes e) ih = rw (queue-here u x l e) (omega arith)
    case (no e) ih = rw (queue-there u x l e) (omega arith)

-- how many trees an event of a thread in this state may add, by its answer: its first tree, and at an EXIT one for each signal that its
-- job held and that was not lost
abbrev pub new_trees : ThreadState → Answer → ℕ
new_trees w Taken = 1
new_trees w ListFull = 1
new_trees w NoWork = 1
new_trees w (Waiting l) = 1
new_trees w Started = 1
new_trees w Moved = 1
new_trees w (Exited n) = 1 + (length (held_of w) - n)
new_trees w (Trapped r) = 1
new_trees w WasCut = 1
new_trees w NothingToCut = 1

-- the state of the thread that an event names; an arrival names none
abbrev pub acting : Machine → Event → ThreadState
acting s (arrive g) = idle
acting s (turn k t) = thread_at s t
