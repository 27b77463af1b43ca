-- The trees keep their places, and the queues of other threads stay, but for trees at the end of the list.
use Rattle.std.specs.Prelude.{◌≡◌, ◌≢◌, List, [], ◌∷◌, ◌++◌, ℕ, ◌+◌, ◌-◌, ◌≤◌, length}
use Rattle.std.proofs.Math.Path.{refl}
use Rattle.std.proofs.Common.{sym, ap, ◌∙◌, append-nil, append_assoc, length-append}
use Rattle.std.proofs.Math.Option.{Option, none, some}
use native.Mathlib.Omega.{arith}
use Rattle.rules.specs.Machine.{Signal, Tree, Job, running, Machine, thread_at, held_of, queue, first, put}
use Rattle.rules.specs.Events.{Event, thread_of}
use Rattle.rules.specs.Steps.{Rules, Reply, founded, requeued, finished, admitted, lost, react}
use Rattle.rules.specs.declared.answer.Answer.{Answer}
use Rattle.rules.specs.declared.answer.Answer.TheVariants.{Taken, ListFull, NoWork, Waiting, Started, Moved, Exited, Trapped}
use Rattle.rules.specs.declared.answer.Answer.TheVariants.{WasCut, NothingToCut}
use Rattle.lemmas_rules.specs.Admitted.{admitted-trees}
use Rattle.lemmas_invariant.specs.Happens.{released, EndsWith, Happens, remains, founds, starts, goes, ends, happens}
use Rattle.lemmas_invariant.specs.Queues.{queue-append, queue-put-other, Place, place}
use Rattle.lemmas_invariant.specs.Untouched.{Changed, same, given, taken, only-the-first-tree-changes}
use Rattle.lemmas_invariant.specs.Places.{OneOf, InPlace, Longer, new_trees, acting, none_of, one_of, put-missing, unchanged, queue-short}

module _ (R : Rules) where
  pub requeued-one : (o : Option (List Signal)) → length (requeued R o) ≤ 1
  requeued-one none = omega arith
  requeued-one (some []) = omega arith
  requeued-one (some (g ∷ p)) = omega arith

  -- the trees that come to the list's end when a job of thread t ends
  record Last (s : Machine) (t : ℕ) (gs : List Signal) : Type 0 where
    last : List Tree
    trees : (admitted R gs (finished R t s)).trees ≡ put t none s.trees ++ last
    few : length last ≤ 1 + (length gs - length (lost R gs (finished R t s)))

  ended : (s : Machine) (t : ℕ) (gs : List Signal) → Last s t gs
  ended s t gs =
      let k = admitted-trees R gs (finished R t s) in
      record {
        last = requeued R (first t s.trees) ++ k.more;
        trees = k.trees ∙ append_assoc (put t none s.trees) (requeued R (first t s.trees)) k.more;
        few = rw (length-append (requeued R (first t s.trees)) k.more)
            (omega (arith, requeued-one (first t s.trees), k.count));
      }

  module _ (s : Machine) where
    few-last : (t locks : ℕ) (j : Job) (a : Answer) → thread_at s t ≡ running locks j → EndsWith R s t j a
        → length (ended s t (released j a)).last ≤ new_trees (thread_at s t) a
    few-last t locks j Taken w f = absurd f
    few-last t locks j ListFull w f = absurd f
    few-last t locks j NoWork w f = absurd f
    few-last t locks j (Waiting l) w f = absurd f
    few-last t locks j Started w f = absurd f
    few-last t locks j Moved w f = absurd f
    few-last t locks j (Exited n) w f =
        let held : length (held_of (thread_at s t)) ≡ length j.held = ap (λ x. length (held_of x)) w in
        omega (arith, f, held, (ended s t j.held).few)
    few-last t locks j (Trapped r) w f = omega (arith, (ended s t []).few)
    few-last t locks j WasCut w f = omega (arith, (ended s t []).few)
    few-last t locks j NothingToCut w f = absurd f

    -- t has no tree in the list: the others keep their places
    module _ (t : ℕ) (a : Answer) (f : first t s.trees ≡ none) where
      behind : (l' last : List Tree) → l' ≡ s.trees ++ last → length last ≤ new_trees (thread_at s t) a
          → InPlace t (new_trees (thread_at s t) a) s.trees l'
      behind l' last e n = record {
        before = s.trees;
        own = [];
        own' = [];
        after = [];
        last = last;
        old = sym (append-nil s.trees);
        new = e;
        first = (put-missing t none s.trees f).1;
        was = none_of t;
        is = none_of t;
        added = n;
      }

      absent : (l' : List Tree) → Changed R s t a l' → InPlace t (new_trees (thread_at s t) a) s.trees l'
      absent l' same = behind _ [] (sym (append-nil s.trees)) (omega arith)
      absent l' (given p) = behind _ [] ((put-missing t (some p) s.trees f).0 ∙ sym (append-nil s.trees)) (omega arith)
      absent l' (taken locks j w e) =
          behind _ (ended s t (released j a)).last
          ((ended s t (released j a)).trees
          ∙ ap (λ (z : List Tree). z ++ (ended s t (released j a)).last) (put-missing t none s.trees f).0)
          (few-last t locks j a w e)

    module _ (t : ℕ) (a : Answer) (p : Place t s.trees) where
      inside : (l' own' last : List Tree) → l' ≡ p.before ++ (own' ++ (p.after ++ last)) → OneOf t own'
          → length last ≤ new_trees (thread_at s t) a
          → InPlace t (new_trees (thread_at s t) a) s.trees l'
      inside l' own' last e o n = record {
        before = p.before;
        own = p.own ∷ [];
        own' = own';
        after = p.after;
        last = last;
        old = p.whole;
        new = e;
        first = p.earliest;
        was = one_of t p.own p.mine;
        is = o;
        added = n;
      }

      present : (l' : List Tree) → Changed R s t a l' → InPlace t (new_trees (thread_at s t) a) s.trees l'
      present l' same = inside _ (p.own ∷ []) [] (rw (append-nil p.after) p.whole) (one_of t p.own p.mine) (omega arith)
      present l' (given q) =
          inside _ (record { thread = t; pending = q } ∷ []) [] (rw (append-nil p.after) (p.changed (some q))) (one_of t _ refl)
          (omega arith)
      present l' (taken locks j w e) =
          inside _ [] (ended s t (released j a)).last
          ((ended s t (released j a)).trees ∙ ap (λ (z : List Tree). z ++ (ended s t (released j a)).last) (p.changed none)
          ∙ append_assoc p.before p.after (ended s t (released j a)).last)
          (none_of t) (few-last t locks j a w e)

    pub trees-keep-their-places : (e : Event) (t : ℕ) → thread_of e ≡ some t
        → InPlace t (new_trees (thread_at s t) (react R s e).answer) s.trees (react R s e).state.trees
    trees-keep-their-places e t h = case (first t s.trees) refl
      where
        case : (o : Option (List Signal)) → first t s.trees ≡ o
            → InPlace t (new_trees (thread_at s t) (react R s e).answer) s.trees (react R s e).state.trees
        case none f = absent t _ f _ (only-the-first-tree-changes R s e t h)
        case (some q) f = present t _ (place t s.trees q f) _ (only-the-first-tree-changes R s e t h)

    -- ---- as each thread sees its queue

    longer : (u : ℕ) (e : Event) (r : Reply) → Happens R s e r → thread_of e ≢ some u
        → Longer (new_trees (acting s e) r.answer) (queue u s.trees) (queue u r.state.trees)
    longer u e r (remains f a q) n = unchanged _ _
    longer u e r (founds g room) n = record {
      more = queue u (founded R g ∷ []);
      whole = queue-append u s.trees _;
      few = queue-short u (founded R g ∷ []);
    }
    longer u e r (starts t g p w f b) n = rw (queue-put-other u t (some p) s.trees (λ k. n (ap some (sym k)))) (unchanged _ _)
    longer u e r (goes t l j j' words g want w a b) n =
        rw (queue-put-other u t (some _) s.trees (λ k. n (ap some (sym k)))) (unchanged _ _)
    longer u e r (ends t l j a w f) n =
        let k = ended s t (released j a) in
        record {
          more = queue u k.last;
          whole =
              ap (queue u) k.trees ∙ queue-append u (put t none s.trees) k.last
              ∙ ap (λ (z : List Tree). z ++ queue u k.last) (queue-put-other u t none s.trees (λ q. n (ap some (sym q))));
          few = omega (arith, queue-short u k.last, few-last t l j a w f);
        }

    pub queues-of-others-stay : (e : Event) (u : ℕ) → thread_of e ≢ some u
        → Longer (new_trees (acting s e) (react R s e).answer) (queue u s.trees) (queue u (react R s e).state.trees)
    queues-of-others-stay e u n = longer u e (react R s e) (happens R s e) n
