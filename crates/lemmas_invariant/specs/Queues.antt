-- A thread's queue and the list of trees: what becomes of each when a thread's first tree is given other signals or leaves the list,
-- and when a tree goes to the list's end.
use Rattle.std.specs.Prelude.{◌≡◌, ◌≢◌, ℕ}
use Rattle.std.proofs.Math.Path.{refl, ap}
use Rattle.std.proofs.Common.{sym, ◌∙◌}
use Rattle.std.proofs.Math.Logic.{ite, if_pos, if_neg}
use Rattle.std.proofs.Math.Option.{Option, none, some}
use mathlib.Core.List.{List, [], ◌∷◌, ◌++◌}
use Rattle.std.proofs.Math.Decide.{ℕ_discrete}
use Rattle.rules.specs.Machine.{Signal, Tree, queue, first, refit, put}
use Rattle.bytes_fields.specs.Each.{Each}
use Rattle.lemmas_rules.specs.Trees.{first-there, put-here, put-there}
use Rattle.lemmas_rules.specs.Logic.{never}

module _ (t : ℕ) (x : Tree) (l : List Tree) where
  pub queue-here : x.thread ≡ t → queue t (x ∷ l) ≡ x ∷ queue t l
  unfolding queue
  queue-here e = if_pos (ℕ_discrete x.thread t) e _ _

  pub queue-there : x.thread ≢ t → queue t (x ∷ l) ≡ queue t l
  unfolding queue
  queue-there e = if_neg (ℕ_discrete x.thread t) e _ _

-- the first of a thread's trees is the head of its queue
abbrev pub head_pending : List Tree → Option (List Signal)
head_pending [] = none
head_pending (x ∷ q) = some x.pending

pub first-queue : (t : ℕ) (l : List Tree) → first t l ≡ head_pending (queue t l)
unfolding first queue
first-queue t [] = refl
first-queue t (x ∷ l) = case (ℕ_discrete x.thread t) (first-queue t l)
  where
    case : (d : Dec (x.thread ≡ t)) → first t l ≡ head_pending (queue t l)
        → ite d (some x.pending) (first t l) ≡ head_pending (ite d (x ∷ queue t l) (queue t l))
    case (yes e) ih = refl
    case (no e) ih = ih

pub queue-append : (t : ℕ) (l r : List Tree) → queue t (l ++ r) ≡ queue t l ++ queue t r
queue-append t [] r = unfold queue in refl
queue-append t (x ∷ l) r = case (ℕ_discrete x.thread t) (queue-append t l r)
  where
    case : Dec (x.thread ≡ t) → queue t (l ++ r) ≡ queue t l ++ queue t r → queue t (x ∷ (l ++ r)) ≡ queue t (x ∷ l) ++ queue t r
    case (yes e) ih = rw (queue-here t x (l ++ r) e, queue-here t x l e, ih) refl
    case (no e) ih = rw (queue-there t x (l ++ r) e, queue-there t x l e) ih

-- a queue whose first tree is changed
abbrev pub refitted : ℕ → Option (List Signal) → List Tree → List Tree
refitted t o [] = []
refitted t o (x ∷ q) = refit t o q

pub queue-put : (t : ℕ) (o : Option (List Signal)) (l : List Tree) → queue t (put t o l) ≡ refitted t o (queue t l)
queue-put t o [] = unfold queue put in refl
queue-put t o (x ∷ l) = case (ℕ_discrete x.thread t) o (queue-put t o l)
  where
    case : Dec (x.thread ≡ t) → (o : Option (List Signal)) → queue t (put t o l) ≡ refitted t o (queue t l)
        → queue t (put t o (x ∷ l)) ≡ refitted t o (queue t (x ∷ l))
    case (yes e) none ih = rw (put-here t x l none e, queue-here t x l e) refl
    case (yes e) (some p) ih =
        rw (put-here t x l (some p) e, queue-here t x l e, queue-here t (record { thread = t; pending = p }) l refl) refl
    case (no e) o ih = rw (put-there t x l o e, queue-there t x (put t o l) e, queue-there t x l e) ih

pub queue-put-other : (t u : ℕ) (o : Option (List Signal)) (l : List Tree) → t ≢ u → queue t (put u o l) ≡ queue t l
queue-put-other t u o [] n = unfold queue put in refl
queue-put-other t u o (x ∷ l) n = case (ℕ_discrete x.thread u) o (ℕ_discrete x.thread t) (queue-put-other t u o l n)
  where
    case : Dec (x.thread ≡ u) → (o : Option (List Signal)) → Dec (x.thread ≡ t) → queue t (put u o l) ≡ queue t l
        → queue t (put u o (x ∷ l)) ≡ queue t (x ∷ l)
    case (yes e) none d ih = rw (put-here u x l none e, queue-there t x l (λ k. n (sym k ∙ e))) refl
    case (yes e) (some p) d ih =
        rw (
          put-here u x l (some p) e,
          queue-there t x l (λ k. n (sym k ∙ e)),
          queue-there t (record { thread = u; pending = p }) l
              (λ k. n (sym k)),
        ) refl
    case (no e) o (yes k) ih = rw (put-there u x l o e, queue-here t x (put u o l) k, queue-here t x l k, ih) refl
    case (no e) o (no k) ih = rw (put-there u x l o e, queue-there t x (put u o l) k, queue-there t x l k) ih

-- the place of a thread's first tree: none of the trees before it is the thread's, and changing it changes nothing before or after it
pub record Place (t : ℕ) (l : List Tree) : Type 0 where
  pub before : List Tree
  pub own : Tree
  pub after : List Tree
  pub whole : l ≡ before ++ own ∷ after
  pub mine : own.thread ≡ t
  pub earliest : queue t before ≡ []
  pub changed : (o : Option (List Signal)) → put t o l ≡ before ++ refit t o after

pub place : (t : ℕ) (l : List Tree) (p : List Signal) → first t l ≡ some p → Place t l
place t [] p f = unfold first in never (cc)
place t (x ∷ l) p f = case (ℕ_discrete x.thread t) (place t l p)
  where
    case : Dec (x.thread ≡ t) → (first t l ≡ some p → Place t l) → Place t (x ∷ l)
    case (yes e) ih = record {
      before = [];
      own = x;
      after = l;
      whole = refl;
      mine = e;
      earliest = unfold queue in refl;
      changed = λ o. put-here t x l o e;
    }
    case (no e) ih =
        let r = ih (sym (first-there t x l e) ∙ f) in
        record {
          before = x ∷ r.before;
          own = r.own;
          after = r.after;
          whole = ap (λ (z : List Tree). x ∷ z) r.whole;
          mine = r.mine;
          earliest = queue-there t x r.before e ∙ r.earliest;
          changed = λ o. put-there t x l o e ∙ ap (λ (z : List Tree). x ∷ z) (r.changed o);
        }

-- a fact X of trees that gives a fact P of their pending signals: of a thread's first tree, and of other signals put in its place
module _ (X : Tree → Type 0) (P : List Signal → Type 0) where
  abbrev pub FirstHas : Option (List Signal) → Type 0
  FirstHas none = Unit {0}
  FirstHas (some p) = P p

  pub first-has : ((x : Tree) → X x → P x.pending) → (t : ℕ) (l : List Tree) → Each X l → FirstHas (first t l)
  unfolding first
  first-has out t [] h = tt
  first-has out t (x ∷ l) h = case (ℕ_discrete x.thread t) (first-has out t l h.1)
    where
      case : (d : Dec (x.thread ≡ t)) → FirstHas (first t l) → FirstHas (ite d (some x.pending) (first t l))
      case (yes e) ih = out x h.0
      case (no e) ih = ih

  pub put-each : (t : ℕ) → ((p : List Signal) → P p → X (record { thread = t; pending = p })) → (o : Option (List Signal)) (l : List Tree)
      → FirstHas o → Each X l → Each X (put t o l)
  unfolding put
  put-each t made o [] k h = tt
  put-each t made o (x ∷ l) k h = case (ℕ_discrete x.thread t) o k (put-each t made o l k h.1)
    where
      case : (d : Dec (x.thread ≡ t)) (q : Option (List Signal)) → FirstHas q → Each X (put t o l)
          → Each X (ite d (refit t q l) (x ∷ put t o l))
      case (yes e) none z ih = h.1
      case (yes e) (some p) z ih = (made p z, h.1)
      case (no e) q z ih = (h.0, ih)
