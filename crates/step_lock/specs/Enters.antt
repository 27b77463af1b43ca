-- What a direct SEND and a CALL come to, by their passage.
use Rattle.std.specs.Prelude.{◌≡◌, Bool, cond, List, [], ◌∷◌, ◌++◌, ℕ, ◌+◌, ◌≤◌, ◌<◌, ◌^◌, ltb, length, take, set, replicate}
use Rattle.std.specs.Prelude.{Result, Ok, Err, IsOk}
use Rattle.std.proofs.Math.Path.{refl}
use Rattle.std.proofs.Common.{sym, ap, ◌∙◌, subst, arith, length-append, true≢false, le-leb}
use Rattle.std.proofs.Math.Bool.{true, false}
use Rattle.std.proofs.Math.Option.{some}
use Rattle.std.specs.Int.Bits.{bit_or}
use Rattle.std.proofs.Math.Dec.{leb}
use borrow.Author.Tests.{le-ltb, lt-leb}
use Rattle.rules.specs.Sorts.{lock, thread}
use Rattle.rules.specs.Sizes.{lock_count, thread_count, return_count, operand_count}
use Rattle.rules.specs.Codes.{foreign_fd_block_code}
use Rattle.rules.specs.Bytes.{has}
use Rattle.rules.specs.Image.{labels, record_at, label_a, label_b, operands, Row, row_at}
use Rattle.rules.specs.Statements.{statement_of, data_of}
use Rattle.rules.specs.Effects.{trap, read_all}
use Rattle.rules.specs.Machine.{Signal, Job, Machine, idle, running, thread_at, locks_of, first, fill, job}
use Rattle.rules.specs.Machine as law
use Rattle.rules.specs.Encoding.{machine_from}
use Rattle.rules.specs.Events.{step}
use Rattle.rules.specs.Steps.{Reply, rules_by, block_at, alien, held, finished, react}
use Rattle.rules.specs.Traps.{reason}
use Rattle.rules.specs.Walk.{holder}
use Rattle.rules.specs.declared.answer.Answer.TheVariants.{Waiting, Moved, Trapped}
use Rattle.rules.specs.declared.statement.Statement.{Statement}
use Rattle.rules.specs.declared.statement.Statement.TheVariants.{SendDirect, Call}
use Rattle.rules.specs.declared.trap.Trap.{Trap}
use Rattle.rules.specs.declared.trap.Trap.TheVariants.{ReturnsFull, ForeignFdBlock}
use Rattle.lemmas_rules.specs.Passed.{passed}
use Rattle.lemmas_rules.specs.Sets.{has-again}
use Rattle.lemmas_invariant.specs.Destinations.{lock-below}
use Rattle.lemmas_step.specs.Events.{reply}
use Rattle.lemmas_step.specs.Statements.{unread, send-alien, send-waits, send-enters, call-deep, call-alien, call-waits, call_enters}
use Rattle.state_registers.specs.Filling.{ZerosAfter}
use Rattle.state_thread.specs.Threads.{returns_of, with_job, job_of, keeping}
use Rattle.state_thread.specs.declared.thread.ThreadState.{ThreadState}
use Rattle.state_shared.specs.Locks.{Alone, held-by-other, nobody-else}
use Rattle.step_operands.specs.Readings.{Reads}
use Rattle.step_operands.specs.Cells.{cells_of}
use Rattle.step_operands.specs.Gathered.{zeros-stay}
use Rattle.step_contract.specs.At.{At, tree, statement-here, reads_here, label-A, depth_is}
use Rattle.step_lock.specs.Passages.{other_holder, by_lock, passage_to}
use Rattle.step_lock.specs.declared.Passage.{Passage}
use Rattle.step_lock.specs.declared.Passage.TheVariants.{Wait, Go, Own}

-- a direct SEND, or a CALL
abbrev pub entering : Bool → Statement
entering call = cond call Call SendDirect

-- the return labels with which a thread goes in: a CALL adds its own
abbrev pub returns_with : Bool → ThreadState → List ℕ → List ℕ
returns_with call w r = cond call (returns_of w ++ label_b r ∷ []) (returns_of w)

-- what the reply to a step of thread t is, by its passage: the thread goes in with the job k
abbrev pub Passes : List ℕ → List ℕ → Machine → ℕ → ℕ → Job → Result Passage Trap → Type 0
Passes image table s t locks k (Err x) =
    react (rules_by image table) s (step t) ≡ reply (finished (rules_by image table) t s) (Trapped (reason x))
Passes image table s t locks k (Ok (Wait l u)) =
    (react (rules_by image table) s (step t) ≡ reply s (Waiting l)) × (u ≡ thread (holder l.0 (set s.threads t idle)))
Passes image table s t locks k (Ok (Go l)) =
    (l.0 < lock_count) × (react (rules_by image table) s (step t) ≡ reply (with_job s t (bit_or locks (2 ^ l.0)) k) Moved)
Passes image table s t locks k (Ok Own) = react (rules_by image table) s (step t) ≡ reply (with_job s t locks k) Moved

-- the passage of the statement in the record r, with the return labels and the values with which the thread goes in
pub record Enters (image table b : List ℕ) (t : ℕ) (w : ThreadState) (r returns vs : List ℕ) (p : Result Passage Trap) : Type 0 where
  pub passes : Passes image table (machine_from b) t w.locks (keeping w (job (label_a r) returns (fill (take (operands r) vs)))) p
  pub zeros : IsOk p → ZerosAfter (operands r) vs
  pub room : IsOk p → length returns ≤ return_count

module _ (image table : List ℕ) (s : Machine) (t locks : ℕ) (k : Job) (row : Row) where
  abbrev stepped : Reply
  stepped = react (rules_by image table) s (step t)

  abbrev taken : Bool
  taken = held row.lock (set s.threads t idle)

  by_tests : length s.threads ≡ thread_count → Alone s t locks → row.lock < lock_count
      → (alien row t ≡ true → stepped ≡ reply (finished (rules_by image table) t s) (Trapped foreign_fd_block_code))
      → (alien row t ≡ false → taken ≡ true → stepped ≡ reply s (Waiting (lock row.lock)))
      → (alien row t ≡ false → taken ≡ false → stepped ≡ reply (with_job s t (bit_or locks (2 ^ row.lock)) k) Moved)
      → Passes image table s t locks k (passage_to s row t locks)
  unfolding passage_to
  by_tests sized alone inside f g h =
      case (alien row t) (has row.lock locks) (ltb (other_holder s row t) thread_count) refl refl (held-by-other s sized row.lock t)
    where
      -- nobody else holds a lock that the thread has
      free : has row.lock locks ≡ true → taken ≡ false
      free o = held-by-other s sized row.lock t
          ∙ le-ltb (other_holder s row t) thread_count (omega (arith, nobody-else s t locks row.lock sized alone o))

      case : (a o b : Bool) → alien row t ≡ a → has row.lock locks ≡ o → taken ≡ b
          → Passes image table s t locks k
          (cond a (Err ForeignFdBlock) (Ok (by_lock o b (lock row.lock) (other_holder s row t))))
      case true o b e p q = f e
      case false true b e p q =
          subst (λ (x : ℕ). stepped ≡ reply (with_job s t x k) Moved) (has-again row.lock locks p) (h e (free p))
      case false false true e p q = (g e q, refl)
      case false false false e p q = (inside, h e q)

-- the record at the label of a running thread, and the data that it reads
module _ (image table b : List ℕ) (t : ℕ) (w : ThreadState) (p : List Signal)
    (runs : thread_at (machine_from b) t ≡ running w.locks (job_of w)) (own : first t (machine_from b).trees ≡ some p)
    (sized : length (machine_from b).threads ≡ thread_count) (alone : Alone (machine_from b) t w.locks) where
  abbrev r : List ℕ
  r = record_at image w.label.0

  abbrev into : Row
  into = row_at table (block_at image (label_a r))

  module _ {n : ℕ} {before vs : List ℕ} (g : Reads (read_all (cells_of b w r) (data_of r)) (Ok tt) n before vs)
      (inside : into.lock < lock_count) where
    passes : (call : Bool) → statement_of r ≡ entering call → (call ≡ true → leb return_count (length (returns_of w)) ≡ false)
        → Passes image table (machine_from b) t w.locks (keeping w (job (label_a r) (returns_with call w r) (fill (take n vs))))
        (passage_to (machine_from b) into t w.locks)
    unfolding machine_from
    passes false e f =
        by_tests image table (machine_from b) t w.locks _ into sized alone inside
        (send-alien image table (machine_from b) t w.locks (job_of w) p runs own (take n vs) e g.gives)
        (send-waits image table (machine_from b) t w.locks (job_of w) p runs own (take n vs) e g.gives)
        (send-enters image table (machine_from b) t w.locks (job_of w) p runs own (take n vs) e g.gives)
    passes true e f =
        by_tests image table (machine_from b) t w.locks _ into sized alone inside
        (call-alien image table (machine_from b) t w.locks (job_of w) p runs own (take n vs) e g.gives (f refl))
        (call-waits image table (machine_from b) t w.locks (job_of w) p runs own (take n vs) e g.gives (f refl))
        (call_enters image table (machine_from b) t w.locks (job_of w) p runs own (take n vs) e g.gives (f refl))

module _ {image table b : List ℕ} {t : ℕ} {w : ThreadState} {r : List ℕ} (h : At image table b t w r) where
  -- the signal of a direct SEND or a CALL is below n, and its lock is one of the 16
  pub entering-below : (call : Bool) → statement_of r ≡ entering call → label_a r < labels image
  entering-below false e = label-A h SendDirect e
  entering-below true e = label-A h Call e

  lock-inside : (q : List ℕ) → label_a q < labels image → (row_at table (block_at image (label_a q))).lock < lock_count
  lock-inside q l = lock-below image table (passed image table [] h.ready.checked).0 (label_a q) l

  -- no other thread holds one of its locks
  pub alone : Alone (machine_from b) t w.locks
  alone u l n e =
      h.ready.sound.invariant.apart t u l (λ q. n (sym q)) (ap (λ (x : law.ThreadState). has l (locks_of x)) h.runs ∙ e)

  eight : length (machine_from b).threads ≡ thread_count
  eight = h.ready.canonical.sized.threads

  -- a trap before the block is looked at
  trap-enters : {x : Trap} {returns vs : List ℕ}
      → react (rules_by image table) (machine_from b) (step t)
      ≡ reply (finished (rules_by image table) t (machine_from b)) (Trapped (reason x))
      → Enters image table b t w r returns vs (Err x)
  trap-enters k = record {
    passes = k;
    zeros = λ z. absurd (true≢false (sym z));
    room = λ z. absurd (true≢false (sym z));
  }

  -- an operand cannot be read
  pub unread-enters : (call : Bool) (x : Trap) {returns vs : List ℕ} → statement_of r ≡ entering call
      → read_all (cells_of b w r) (data_of r) ≡ trap (reason x) → Enters image table b t w r returns vs (Err x)
  unread-enters false x e g =
      trap-enters (unread image table (machine_from b) t w.locks (job_of w) (tree h).0 h.runs (tree h).1 SendDirect (reason x)
      (statement-here h SendDirect e) (reads_here h SendDirect g))
  unread-enters true x e g =
      trap-enters (unread image table (machine_from b) t w.locks (job_of w) (tree h).0 h.runs (tree h).1 Call (reason x)
      (statement-here h Call e) (reads_here h Call g))

  module _ {vs : List ℕ} (g : Reads (read_all (cells_of b w r) (data_of r)) (Ok tt) (operands r) (replicate operand_count 0) vs) where
    -- there are 8 return labels already
    pub deep-enters : (call : Bool) {returns : List ℕ} → call ≡ true → statement_of r ≡ entering call → return_count ≤ w.depth
        → Enters image table b t w r returns vs (Err ReturnsFull)
    deep-enters call i e l =
        trap-enters (call-deep image table (machine_from b) t w.locks (job_of w) (tree h).0 h.runs (tree h).1 (take (operands r) vs)
        (statement-here h Call (rw i at e)) (reads_here h Call g.gives) (le-leb return_count _ (omega (arith, depth_is h))))

    pub enters-as : (call : Bool) (q : Result Passage Trap) → statement_of r ≡ entering call → (call ≡ true → w.depth < return_count)
        → q ≡ passage_to (machine_from b) (row_at table (block_at image (label_a r))) t w.locks
        → Enters image table b t w r (returns_with call w r) vs q
    enters-as call q e k f = record {
      passes = rw f (go r h.here g e (lock-inside r (entering-below call e)));
      zeros = λ z. zeros-stay g;
      room = λ z. room call k;
    }
      where
        go : (q : List ℕ) → q ≡ record_at image w.label.0
            → Reads (read_all (cells_of b w q) (data_of q)) (Ok tt) (operands q) (replicate operand_count 0) vs
            → statement_of q ≡ entering call → (row_at table (block_at image (label_a q))).lock < lock_count
            → Passes image table (machine_from b) t w.locks
            (keeping w (job (label_a q) (returns_with call w q) (fill (take (operands q) vs))))
            (passage_to (machine_from b) (row_at table (block_at image (label_a q))) t w.locks)
        go q i = rw i (λ g e l. passes image table b t w (tree h).0 h.runs (tree h).1 eight alone g l call e
            (λ c. lt-leb return_count _ (omega (arith, k c, depth_is h))))

        room : (c : Bool) → (c ≡ true → w.depth < return_count) → length (returns_with c w r) ≤ return_count
        room false m = omega (arith, depth_is h, h.thread.tidy.returns.within)
        room true m = simp length-append (omega (arith, m refl, depth_is h))
