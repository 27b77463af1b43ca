-- Well formed machines: the test of docs/MACHINE.md's sentences, and the facts that it says, one for the other.
use Rattle.std.specs.Prelude.{◌≡◌, ◌&&◌, ltb, length, get_or}
use Rattle.std.proofs.Math.Path.{refl, ap}
use Rattle.std.proofs.Common.{sym, ◌∙◌, add-zero, arith}
use Rattle.std.proofs.Math.Bool.{Bool, true}
use Rattle.std.proofs.Math.Option.{some}
use mathlib.Core.List.{List, [], ◌∷◌}
use Prim.Native.Nat.{ℕ, zero, suc, ◌+◌, ◌≤◌, ◌<◌}
use Rattle.std.proofs.Math.Decide.{dec_lt}
use Rattle.std.proofs.Math.Nat.{zero-add}
use Rattle.std.proofs.Math.ListN.{get_or-eq_default}
use borrow.Author.Tests.{ltb-true, lt-ltb}
use Rattle.rules.specs.Sizes.{thread_count}
use Rattle.rules.specs.Bytes.{has, every}
use Rattle.rules.specs.Image.{labels, row_at}
use Rattle.rules.specs.Machine.{Signal, Tree, Job, ThreadState, idle, running, Machine, thread_at, locks_of, job_of, queue, first}
use Rattle.rules.specs.Steps.{rules_by, block_at}
use Rattle.rules.specs.WellFormed.{open_to, place_ok, held_ok, thread_ok, threads_ok, pending_ok, tree_ok, homed}
use Rattle.rules.specs.WellFormed.{queue_ok, queues_ok, apart}
use Rattle.rules.specs.WellFormed.{machine_ok}
use Rattle.bytes_fields.specs.Each.{Each}
use Rattle.lemmas_rules.specs.Logic.{never, and_both, both_hold}
use Rattle.lemmas_invariant.specs.Laws.{Needs}
use Rattle.lemmas_invariant.specs.Invariant.{Invariant}
use Rattle.lemmas_invariant.specs.Queues.{queue-there, head_pending, first-queue}
use Rattle.lemmas_invariant.specs.Disjoint.{apart-disjoint, disjoint-apart}
use Rattle.lemmas_invariant.specs.Members.{each_member, member-each, every-each, each-every, member-map, map-member}

module _ (image table : List ℕ) where
  -- a label of thread t's job: it is below n, and its block is CMX or t's own
  pub record PlaceIn (t l : ℕ) : Type 0 where
    pub below : l < labels image
    pub allowed : open_to (row_at table (block_at image l)) t ≡ true

  -- a held signal has entry 2
  abbrev pub HeldIn : Signal → Type 0
  HeldIn g = held_ok image table g ≡ true

  pub record JobIn (t : ℕ) (j : Job) : Type 0 where
    pub places : Each (PlaceIn t) (j.label ∷ j.returns)
    pub held : Each HeldIn j.held

  abbrev pub ThreadIn : ℕ → ThreadState → Type 0
  ThreadIn t idle = Unit {0}
  ThreadIn t (running locks j) = JobIn t j

  -- a tree's thread is within limits; its pending signals have entry 2 or 3
  abbrev pub PendingIn : Signal → Type 0
  PendingIn g = pending_ok image table g ≡ true

  pub record TreeIn (x : Tree) : Type 0 where
    pub thread : x.thread < thread_count
    pub pending : Each PendingIn x.pending

  -- a tree that is not a running thread's first has a signal pending, and belongs to the thread of the first one's block
  abbrev pub Homed : Tree → Type 0
  Homed x = homed image table x ≡ true

  abbrev pub QueueIn : ThreadState → List Tree → Type 0
  QueueIn idle q = Each Homed q
  QueueIn (running locks j) [] = ⊥
  QueueIn (running locks j) (x ∷ q) = Each Homed q

  -- the sentences of "well formed" that speak of threads and trees
  pub record Sound (s : Machine) : Type 0 where
    pub invariant : Invariant (rules_by image table) s
    pub threads : (t : ℕ) → ThreadIn t (thread_at s t)
    pub trees : Each TreeIn s.trees
    pub queues : (t : ℕ) → QueueIn (thread_at s t) (queue t s.trees)

  -- ---- the test's parts

  place-parts : (t locks l : ℕ) → place_ok image table t locks l ≡ true
      → PlaceIn t l × (has (row_at table (block_at image l)).lock locks ≡ true)
  unfolding place_ok
  place-parts t locks l h =
      let all =
      and_both (ltb l (labels image) && has (row_at table (block_at image l)).lock locks) (open_to (row_at table (block_at image l)) t) h
      in
      let front = and_both (ltb l (labels image)) (has (row_at table (block_at image l)).lock locks) all.0 in
      (record { below = ltb-true l (labels image) front.0; allowed = all.1 }, front.1)

  place-whole : (t locks l : ℕ) → PlaceIn t l → has (row_at table (block_at image l)).lock locks ≡ true
      → place_ok image table t locks l ≡ true
  unfolding place_ok
  place-whole t locks l p h =
      both_hold (ltb l (labels image) && has (row_at table (block_at image l)).lock locks) (open_to (row_at table (block_at image l)) t)
      (both_hold (ltb l (labels image)) (has (row_at table (block_at image l)).lock locks) (lt-ltb l (labels image) p.below) h)
      p.allowed

  tree-parts : (x : Tree) → tree_ok image table x ≡ true → TreeIn x
  unfolding tree_ok
  tree-parts x h =
      let k = and_both (ltb x.thread thread_count) (every (pending_ok image table) x.pending) h in
      record { thread = ltb-true x.thread thread_count k.0; pending = every-each (pending_ok image table) x.pending k.1 }

  tree-whole : (x : Tree) → TreeIn x → tree_ok image table x ≡ true
  unfolding tree_ok
  tree-whole x p =
      both_hold (ltb x.thread thread_count) (every (pending_ok image table) x.pending) (lt-ltb x.thread thread_count p.thread)
      (each-every (pending_ok image table) x.pending p.pending)

  queue-parts : (w : ThreadState) (q : List Tree) → queue_ok image table w q ≡ true → QueueIn w q
  queue-parts idle q h = every-each (homed image table) q h
  queue-parts (running locks j) [] h = never (cc)
  queue-parts (running locks j) (x ∷ q) h = every-each (homed image table) q h

  queue-whole : (w : ThreadState) (q : List Tree) → QueueIn w q → queue_ok image table w q ≡ true
  queue-whole idle q h = each-every (homed image table) q h
  queue-whole (running locks j) [] h = absurd h
  queue-whole (running locks j) (x ∷ q) h = each-every (homed image table) q h

  -- ---- over the threads, from thread t on

  next : (t k : ℕ) → t + 1 + k ≡ t + suc k
  next t k = omega arith

  threads-at : (t : ℕ) (ws : List ThreadState) → threads_ok image table t ws ≡ true → (k : ℕ)
      → thread_ok image table (t + k) (get_or ws k idle) ≡ true
  unfolding threads_ok thread_ok
  threads-at t [] h k = refl
  threads-at t (w ∷ ws) h zero = rw (add-zero t) (and_both (thread_ok image table t w) (threads_ok image table (t + 1) ws) h).0
  threads-at t (w ∷ ws) h (suc k) =
      ap (λ n. thread_ok image table n (get_or ws k idle)) (sym (next t k))
      ∙ threads-at (t + 1) ws (and_both (thread_ok image table t w) (threads_ok image table (t + 1) ws) h).1 k

  threads-whole : (t : ℕ) (ws : List ThreadState) → ((k : ℕ) → thread_ok image table (t + k) (get_or ws k idle) ≡ true)
      → threads_ok image table t ws ≡ true
  unfolding threads_ok
  threads-whole t [] h = refl
  threads-whole t (w ∷ ws) h =
      both_hold (thread_ok image table t w) (threads_ok image table (t + 1) ws) (rw (add-zero t) at (h 0))
      (threads-whole (t + 1) ws (λ k. ap (λ n. thread_ok image table n (get_or ws k idle)) (next t k) ∙ h (suc k)))

  queues-at : (t : ℕ) (ws : List ThreadState) (l : List Tree) → queues_ok image table t ws l ≡ true → (k : ℕ) → k < length ws
      → queue_ok image table (get_or ws k idle) (queue (t + k) l) ≡ true
  unfolding queues_ok
  queues-at t [] l h k n = absurd (omega arith)
  queues-at t (w ∷ ws) l h zero n = rw (add-zero t) (and_both (queue_ok image table w (queue t l)) (queues_ok image table (t + 1) ws l) h).0
  queues-at t (w ∷ ws) l h (suc k) n =
      ap (λ m. queue_ok image table (get_or ws k idle) (queue m l)) (sym (next t k))
      ∙ queues-at (t + 1) ws l (and_both (queue_ok image table w (queue t l)) (queues_ok image table (t + 1) ws l) h).1 k (omega arith)

  queues-whole : (t : ℕ) (ws : List ThreadState) (l : List Tree)
      → ((k : ℕ) → queue_ok image table (get_or ws k idle) (queue (t + k) l) ≡ true) → queues_ok image table t ws l ≡ true
  unfolding queues_ok
  queues-whole t [] l h = refl
  queues-whole t (w ∷ ws) l h =
      both_hold (queue_ok image table w (queue t l)) (queues_ok image table (t + 1) ws l) (rw (add-zero t) at (h 0))
      (queues-whole (t + 1) ws l (λ k. ap (λ m. queue_ok image table (get_or ws k idle) (queue m l)) (next t k) ∙ h (suc k)))

  -- a thread past the eighth has no tree
  no-queue : (t : ℕ) (l : List Tree) → thread_count ≤ t → Each TreeIn l → queue t l ≡ []
  no-queue t [] h e = unfold queue in refl
  no-queue t (x ∷ l) h e = queue-there t x l (λ p. absurd (omega (arith, e.0.thread))) ∙ no-queue t l h e.1

  -- ---- one for the other

  job-tests : (t locks : ℕ) (j : Job) → thread_ok image table t (running locks j) ≡ true
      → Each (λ l. place_ok image table t locks l ≡ true) (j.label ∷ j.returns) × Each HeldIn j.held
  unfolding thread_ok
  job-tests t locks j h =
      let k = and_both (every (place_ok image table t locks) (j.label ∷ j.returns)) (every (held_ok image table) j.held) h in
      (every-each (place_ok image table t locks) (j.label ∷ j.returns) k.0, every-each (held_ok image table) j.held k.1)

  thread-parts : (t : ℕ) (w : ThreadState) → thread_ok image table t w ≡ true → ThreadIn t w
  thread-parts t idle h = tt
  thread-parts t (running locks j) h =
      let e = job-tests t locks j h in
      record {
        places =
            member-each (PlaceIn t) (j.label ∷ j.returns)
            (λ l m. (place-parts t locks l (each_member _ (j.label ∷ j.returns) e.0 l m)).0);
        held = e.1;
      }

  thread-locks : (t : ℕ) (w : ThreadState) → thread_ok image table t w ≡ true → (j : Job) → job_of w ≡ some j → (b : ℕ)
      → Needs (rules_by image table) j b
      → has (row_at table b).lock (locks_of w) ≡ true
  thread-locks t idle h j q b m = never (cc)
  thread-locks t (running locks k) h j q b m =
      let e : k ≡ j = cc in
      let f = (job-tests t locks k h).0 in
      let n = map-member (block_at image) b (j.label ∷ j.returns) m in
      rw n.2 (place-parts t locks n.0 (each_member _ (k.label ∷ k.returns) f n.0 (rw e n.1))).1

  thread-whole : (t : ℕ) (w : ThreadState) → ThreadIn t w
      → ((j : Job) → job_of w ≡ some j → (b : ℕ) → Needs (rules_by image table) j b → has (row_at table b).lock (locks_of w) ≡ true)
      → thread_ok image table t w ≡ true
  unfolding thread_ok
  thread-whole t idle p k = refl
  thread-whole t (running locks j) p k =
      both_hold (every (place_ok image table t locks) (j.label ∷ j.returns)) (every (held_ok image table) j.held)
      (each-every (place_ok image table t locks) (j.label ∷ j.returns) (member-each _ (j.label ∷ j.returns) (λ l m.
      place-whole t locks l (each_member (PlaceIn t) (j.label ∷ j.returns) p.places l m)
      (k j refl (block_at image l) (member-map (block_at image) l (j.label ∷ j.returns) m)))))
      (each-every (held_ok image table) j.held p.held)

  -- a running thread has a tree
  root : (t : ℕ) (w : ThreadState) (l : List Tree) → QueueIn w (queue t l) → (j : Job) → job_of w ≡ some j
      → (p : List Signal) × (first t l ≡ some p)
  root t idle l h j e = never (cc)
  root t (running locks k) l h j e = case (queue t l) h (first-queue t l)
    where
      case : (q : List Tree) → QueueIn (running locks k) q → first t l ≡ head_pending q → (p : List Signal) × (first t l ≡ some p)
      case [] a f = absurd a
      case (x ∷ q) a f = (x.pending, f)

  pub record Tests (s : Machine) : Type 0 where
    pub threads : threads_ok image table 0 s.threads ≡ true
    pub apart : apart s.threads ≡ true
    pub trees : every (tree_ok image table) s.trees ≡ true
    pub queues : queues_ok image table 0 s.threads s.trees ≡ true

  tests : (s : Machine) → machine_ok image table s ≡ true → Tests s
  unfolding machine_ok
  tests s h =
      let a : Bool = threads_ok image table 0 s.threads in
      let b : Bool = apart s.threads in
      let c : Bool = every (tree_ok image table) s.trees in
      let d : Bool = queues_ok image table 0 s.threads s.trees in
      let abc = and_both (a && b && c) d h in
      let ab = and_both (a && b) c abc.0 in
      let x = and_both a b ab.0 in
      record { threads = x.0; apart = x.1; trees = ab.1; queues = abc.1 }

  pub sound-of : (s : Machine) → length s.threads ≡ thread_count → machine_ok image table s ≡ true → Sound s
  sound-of s size h =
      let k = tests s h in
      let trees : Each TreeIn s.trees =
      member-each TreeIn s.trees
      (λ x m. tree-parts x (each_member _ s.trees (every-each (tree_ok image table) s.trees k.trees) x m))
      in
      let threads_ok' : (t : ℕ) → thread_ok image table t (thread_at s t) ≡ true =
      λ t. rw zero-add at (threads-at 0 s.threads k.threads t)
      in
      let queues : (t : ℕ) → QueueIn (thread_at s t) (queue t s.trees) = λ t. queue-of t (dec_lt t thread_count) trees k.queues in
      record {
        invariant = record {
          size = size;
          apart = apart-disjoint s.threads k.apart;
          keeps = λ t. thread-locks t (thread_at s t) (threads_ok' t);
          rooted = λ t. root t (thread_at s t) s.trees (queues t);
        };
        threads = λ t. thread-parts t (thread_at s t) (threads_ok' t);
        trees = trees;
        queues = queues;
      }
    where
      queue-of : (t : ℕ) → Dec (t < thread_count) → Each TreeIn s.trees → queues_ok image table 0 s.threads s.trees ≡ true
          → QueueIn (thread_at s t) (queue t s.trees)
      queue-of t (yes n) e q =
          queue-parts (thread_at s t) (queue t s.trees) (rw zero-add at (queues-at 0 s.threads s.trees q t (rw size n)))
      queue-of t (no n) e q =
          rw (get_or-eq_default s.threads idle {n = t} (rw size (omega arith)), no-queue t s.trees (omega arith) e) tt

  pub sound-ok : (s : Machine) → Sound s → machine_ok image table s ≡ true
  unfolding machine_ok
  sound-ok s k =
      let a : threads_ok image table 0 s.threads ≡ true =
      threads-whole 0 s.threads (λ t. rw zero-add (thread-whole t (thread_at s t) (k.threads t) (k.invariant.keeps t)))
      in
      let b : apart s.threads ≡ true = disjoint-apart s.threads k.invariant.apart in
      let c : every (tree_ok image table) s.trees ≡ true =
      each-every (tree_ok image table) s.trees
      (member-each _ s.trees (λ x m. tree-whole x (each_member TreeIn s.trees k.trees x m)))
      in
      let d : queues_ok image table 0 s.threads s.trees ≡ true =
      queues-whole 0 s.threads s.trees (λ t. rw zero-add (queue-whole (thread_at s t) (queue t s.trees) (k.queues t)))
      in
      rw (a, b, c, d) refl
