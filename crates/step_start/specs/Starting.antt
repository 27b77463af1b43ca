-- What a step of an idle thread comes to.
use Rattle.std.specs.Prelude.{◌≡◌, refl, true, false, List, [], ◌∷◌, ℕ, ◌≤◌, ◌<◌, ◌^◌, length, get_or, drop, set}
use Rattle.std.specs.Prelude.{Option, Some, None, option_map}
use Rattle.std.proofs.Common.{sym, ap, ◌∙◌, subst, arith, drop-cons, lt-ltb, le-ltb}
use Rattle.std.proofs.Math.Option.{none, some}
use Rattle.std.specs.Int.Bits.{bit_or}
use Rattle.rules.specs.Sorts
use Rattle.rules.specs.Sizes.{lock_count, thread_count, idle_label}
use Rattle.rules.specs.Image.{row_at}
use Rattle.rules.specs.Machine as law
use Rattle.rules.specs.Machine.{Signal, Tree, Machine, idle, thread_at, first, queue}
use Rattle.rules.specs.Encoding.{no_signal, machine_from}
use Rattle.rules.specs.WellFormed.{homed, homed_as}
use Rattle.rules.specs.Events.{step}
use Rattle.rules.specs.Steps.{rules_by, block_at, begin, held}
use Rattle.rules.specs.Walk.{holder}
use Rattle.rules.specs.declared.sorts.Lock.{Lock}
use Rattle.rules.specs.declared.sorts.Thread.{Thread}
use Rattle.rules.specs.declared.answer.Answer.TheVariants.{NoWork, Waiting, Started}
use Rattle.bytes_fields.specs.Each.{Each}
use Rattle.bytes_fields.specs.Found.{found_below, found-is, found-as}
use Rattle.lemmas_encoding.specs.Encoded.{Encodes, Canonical, encoded-machine, encoded-canonical}
use Rattle.lemmas_encoding.specs.FirstTree.{first_tree, first_some}
use Rattle.lemmas_rules.specs.Passed.{passed}
use Rattle.lemmas_rules.specs.Logic.{never}
use Rattle.lemmas_invariant.specs.Sound.{QueueIn}
use Rattle.lemmas_invariant.specs.Queues.{head_pending, first-queue}
use Rattle.lemmas_invariant.specs.Destinations.{lock-below}
use Rattle.lemmas_step.specs.Events.{reply, no-tree, start-waits, start-runs}
use Rattle.image_record.specs.Records.{labels-small}
use Rattle.state_thread.specs.Threads.{Idle, Runs, with_job}
use Rattle.state_thread.specs.declared.thread.ThreadState.{ThreadState}
use Rattle.state_shared.specs.Locks.{HeldBy, held-by-other}
use Rattle.state_pending.specs.Canon.{pending_at}
use Rattle.state_pending.specs.Changes.{taken}
use Rattle.step_contract.specs.Ready.{Ready, Recorded, reply_to, Stepped, done, says}
use Rattle.step_end.specs.Home.{oldest-below}
use Rattle.step_hold.specs.Holding.{holding, holding-as}
use Rattle.step_start.specs.declared.First.{First}
use Rattle.step_start.specs.declared.First.TheVariants.{Wait, Go}

-- the oldest signal of tree i
abbrev pub oldest_at : Machine → ℕ → Signal
oldest_at s i = get_or (pending_at s i) 0 no_signal

-- thread t's first tree has the place i, and a signal pending; l is the lock of its oldest signal's block
pub record FirstIs (image table : List ℕ) (s : Machine) (t i : ℕ) (l : Lock) : Type 0 where
  pub place : i ≡ first_tree t s.trees
  pub inside : i < length s.trees
  pub some : 0 < length (pending_at s i)
  pub lock : l ≡ Sorts.lock (row_at table (block_at image (oldest_at s i).label)).lock
  pub small : l.0 < lock_count

abbrev pub FirstOf : List ℕ → List ℕ → Machine → ℕ → Option First → Type 0
FirstOf image table s t None = first t s.trees ≡ none
FirstOf image table s t (Some (Wait l u)) = (i : ℕ) × FirstIs image table s t i l × HeldBy l.0 (set s.threads t idle) u
FirstOf image table s t (Some (Go i l)) = FirstIs image table s t i l × (held l.0 (set s.threads t idle) ≡ false)

-- an idle thread, which is w, can take the oldest signal of tree i of the bytes b
pub record CanTake (b : List ℕ) (w : ThreadState) (i : ℕ) : Type 0 where
  pub canonical : Canonical b
  pub rests : Idle w
  pub inside : i < length (machine_from b).trees
  pub some : 0 < length (pending_at (machine_from b) i)
  pub label : (oldest_at (machine_from b) i).label < idle_label

-- the tree is the first of thread t, which is w, and l is one of the 16 locks
pub record CanBegin (b : List ℕ) (t : ℕ) (w : ThreadState) (i : ℕ) (l : Lock) : Type 0 where
  pub signal : CanTake b w i
  pub thread : t < thread_count
  pub place : i ≡ first_tree t (machine_from b).trees
  pub lock : l.0 < lock_count

-- the thread has taken the signal and holds the lock
abbrev taking : Machine → ℕ → ℕ → Lock → Machine
taking s t i l = with_job s t (bit_or 0 (2 ^ l.0)) (begin (oldest_at s i))

-- and the signal has left its tree
abbrev pub begun : Machine → ℕ → ℕ → Lock → Machine
begun s t i l = taken t i (taking s t i l)

-- a tree of an idle thread has a signal pending
homed-some : (image table : List ℕ) (x : Tree) → homed image table x ≡ true → 0 < length x.pending
unfolding homed
homed-some image table x h = case x.pending h
  where
    case : (p : List Signal) → homed_as image table x.thread p ≡ true → 0 < length p
    case [] k = never (cc)
    case (g ∷ p) k = omega arith

module _ {image table b : List ℕ} (h : Ready image table b) (t : ℕ) (rests : thread_at (machine_from b) t ≡ idle) where
  abbrev s : Machine
  s = machine_from b

  pub idle-pending : (i : ℕ) → i ≡ first_tree t s.trees → i < length s.trees → 0 < length (pending_at s i)
  idle-pending i e l =
      let f : first t s.trees ≡ some (pending_at s i) = rw e (first_some t s.trees (rw e at l)) in
      let q : Each (λ x. homed image table x ≡ true) (queue t s.trees) =
      subst (λ (w : law.ThreadState). QueueIn image table w (queue t s.trees)) rests (h.sound.queues t) in
      case (queue t s.trees) q (sym (first-queue t s.trees) ∙ f)
    where
      case : (q : List Tree) → Each (λ x. homed image table x ≡ true) q → head_pending q ≡ some (pending_at s i)
          → 0 < length (pending_at s i)
      case [] k f = never (cc)
      case (x ∷ q) k f =
          let e : x.pending ≡ pending_at s i = cc in
          rw e at (homed-some image table x k.0)

  -- the place that the search for the first tree answers
  pub found-pending : (i : ℕ) → Some i ≡ found_below (length s.trees) (first_tree t s.trees)
      → (i ≡ first_tree t s.trees) × (i < length s.trees) × (0 < length (pending_at s i))
  found-pending i e = let p = found-is _ _ e in (p.0, p.1, idle-pending i p.0 p.1)

  -- the first tree, by its place and the label of its oldest signal
  pub first-is : (i : ℕ) (l : Lock) → i ≡ first_tree t s.trees → i < length s.trees
      → l ≡ Sorts.lock (row_at table (block_at image (oldest_at s i).label)).lock → FirstIs image table s t i l
  first-is i l e k f =
      let some = idle-pending i e k in
      record {
        place = e;
        inside = k;
        some = some;
        lock = f;
        small =
            rw f (lock-below image table (passed image table [] h.checked).0 _ (oldest-below h i k some));
      }

  -- by the search for another thread that holds the lock: it finds u, or none
  module _ {i : ℕ} {l : Lock} (k : FirstIs image table s t i l) (x : ℕ) (e : x ≡ holder l.0 (set s.threads t idle)) where
    pub first-waits : (u : Thread) → x < thread_count → u ≡ Sorts.thread x → FirstOf image table s t (Some (Wait l u))
    first-waits u z f = (
      i,
      k,
      (held-by-other s h.canonical.sized.threads l.0 t ∙ lt-ltb _ thread_count (rw e at z), f ∙ ap Sorts.thread e),
    )

    pub first_goes : thread_count ≤ x → FirstOf image table s t (Some (Go i l))
    first_goes z = (k, held-by-other s h.canonical.sized.threads l.0 t ∙ le-ltb _ thread_count (rw e at z))

  -- by the answers of both searches: the first tree, and another thread that holds the lock
  pub found_waits : {i : ℕ} {l : Lock} {u : Thread} → Some i ≡ found_below (length s.trees) (first_tree t s.trees)
      → l ≡ Sorts.lock (row_at table (block_at image (oldest_at s i).label)).lock
      → Some u ≡ option_map Sorts.thread (found_below thread_count (holder l.0 (set s.threads t idle)))
      → FirstOf image table s t (Some (Wait l u))
  found_waits {i} {l} {u} e f z =
      let p = found-pending i e in
      let q = found-as Sorts.thread thread_count _ z in
      first-waits (first-is i l p.0 p.1 f) _ refl u q.1 q.0

  -- ---- what its step comes to

  module _ {i : ℕ} {l : Lock} (k : FirstIs image table s t i l) where
    first-oldest : first t s.trees ≡ some (oldest_at s i ∷ drop 1 (pending_at s i))
    first-oldest =
        let e : first t s.trees ≡ some (pending_at s i) = rw k.place (first_some t s.trees (rw k.place at k.inside)) in
        e ∙ ap some (drop-cons (pending_at s i) 0 no_signal k.some)

    -- another thread holds the lock
    pub start-waiting : held l.0 (set s.threads t idle) ≡ true → reply_to image table b (step t) ≡ reply s (Waiting l)
    start-waiting e = rw k.lock (start-waits (rules_by image table) s t (oldest_at s i) (drop 1 (pending_at s i)) rests first-oldest
        (rw k.lock at e))

    -- no other does
    pub start-running : held l.0 (set s.threads t idle) ≡ false → reply_to image table b (step t) ≡ reply (begun s t i l) Started
    start-running e = rw k.lock (start-runs (rules_by image table) s t (oldest_at s i) (drop 1 (pending_at s i)) rests first-oldest
        (rw k.lock at e))

  -- by the first signal that is found
  module _ {f : Option First} (k : FirstOf image table s t f) where
    found_as : (g : Option First) → f ≡ g → FirstOf image table s t g
    found_as g e = subst (FirstOf image table s t) e k

    pub rests-on : f ≡ None → Stepped image table b t b NoWork
    rests-on e = done s NoWork (no-tree (rules_by image table) s t rests (found_as None e)) refl h.canonical

    pub waits-on : (l : Lock) (u : Thread) → f ≡ Some (Wait l u) → Stepped image table b t b (Waiting l)
    waits-on l u e = let q = found_as (Some (Wait l u)) e in done s (Waiting l) (start-waiting q.1 q.2.0) refl h.canonical

    pub begins-on : (i : ℕ) (l : Lock) {b' : List ℕ} → f ≡ Some (Go i l) → Encodes b' (begun s t i l) → Stepped image table b t b' Started
    begins-on i l e z = let q = found_as (Some (Go i l)) e in done (begun s t i l) Started (start-running q.0 q.1) refl z

    pub can-begin : (i : ℕ) (l : Lock) {w : ThreadState} → f ≡ Some (Go i l) → t < thread_count → Recorded b t w → CanBegin b t w i l
    can-begin i l e inside read =
        let q = (found_as (Some (Go i l)) e).0 in
        record {
          signal = record {
            canonical = h.canonical;
            rests = rw rests at (says h t inside read);
            inside = q.inside;
            some = q.some;
            label = omega (arith, oldest-below h i q.inside q.some, labels-small image);
          };
          thread = inside;
          place = q.place;
          lock = q.small;
        }

-- ---- the job begun

module _ {b b' : List ℕ} {t : ℕ} {w x : ThreadState} {i : ℕ} {l : Lock} (k : CanBegin b t w i l)
    (m : Runs x 0 (begin (oldest_at (machine_from b) i))) (z : Encodes b' (holding (machine_from b) t x l)) where
  written : Encodes b' (taking (machine_from b) t i l)
  written = holding-as (machine_from b) t l m z

  same : machine_from b' ≡ taking (machine_from b) t i l
  same = encoded-machine b' (taking (machine_from b) t i l) written

  -- its tree is there still, and the signal leaves it
  pub tree-stays : Canonical b' × (i < length (machine_from b').trees) × (0 < length (pending_at (machine_from b') i))
  tree-stays = (encoded-canonical b' (taking (machine_from b) t i l) written, rw same k.signal.inside, rw same k.signal.some)

  pub signal-leaves : {b'' : List ℕ} → Canonical b''
      → ((u : ℕ) → i ≡ first_tree u (machine_from b').trees → machine_from b'' ≡ taken u i (machine_from b'))
      → Encodes b'' (begun (machine_from b) t i l)
  signal-leaves {b''} c f = subst (λ (q : Machine). Encodes b'' q) (f t (rw same k.place) ∙ ap (taken t i) same) c
