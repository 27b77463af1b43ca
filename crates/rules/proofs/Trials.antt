-- The marked trials of docs/PROMISES.md as one table. What is common to all threads, locks and widths is said over the number: of any image
-- and block table, and of any machine s, thread t of it, lock set, job j and values.
-- Numbers are docs/MACHINE.md's own, not the law's names of them, so that a wrong size in the law fails here. The trials are computed on
-- bytes besides, in crate byte_trials.
use mathlib.Core.Path.{◌≡◌, refl, ap, ◌∙◌}
use mathlib.Core.Logic.{◌≢◌}
use mathlib.Core.Bool.{true, false, cond}
use mathlib.Core.Option.{Option, none, some}
use mathlib.Core.List.{List, [], ◌∷◌, ◌++◌, map}
use Prim.Native.Nat.{ℕ, ◌+◌, ◌*◌, ◌-◌, ◌^◌, ◌<◌, ◌≤◌}
use native.Mathlib.Omega.{arith}
use lib.Bits.{bit_or}
use lib.ListN.{length, get_or, set, take, drop, length-map, length-drop}
use lib.Dec.{eqb}
use borrow.Author.Tests.{lt-ltb, le-ltb, eq-eqb, ne_eqb}
use Rattle.rules.specs.Bytes.{num16, num32, first_bad, blocks, pad, chunks, has}
use Rattle.rules.specs.Image.{row_at}
use Rattle.rules.specs.Codes.{add_code, subtract_code, multiply_code}
use Rattle.rules.specs.Check.{first_refusal, image_faults}
use Rattle.rules.specs.Machine.{Signal, Tree, Job, job, with_held, ThreadState, idle, running, Machine, thread_at, locks_of, job_of, fill}
use Rattle.rules.specs.Machine.{first, put}
use Rattle.rules.specs.Encoding.{thread_raw, thread_bytes, encode, machine_from}
use Rattle.rules.specs.Answers.{code, detail, close, sort}
use Rattle.rules.specs.Events.{Event, arrive, step, cut, thread_of, events_from}
use Rattle.rules.specs.Sorts
use Rattle.rules.specs.Steps.{Rules, Move, move, rules_by, newest, older, block_at, held, blocked}
use Rattle.rules.specs.Steps.{plan_arrive, plan, exiting, carry, react, final, grown, founded, requeued, finished, admitted, lost}
use Rattle.rules.specs.Walk.{walk, met_count}
use Rattle.rules.specs.Calls.{state_length_fault, state_fault, events_length_fault, event_fault}
use Rattle.rules.specs.Calls.{answers_length_fault, run_return, run_state}
use Rattle.rules.specs.declared.statement.Operand.{Operand}
use Rattle.rules.specs.declared.statement.Relation.TheVariants.{Equal, Less}
use Rattle.rules.specs.declared.statement.Condition.{Condition}
use Rattle.rules.specs.declared.statement.Statement.TheVariants.{If, SendDirect, SendBuffered, Call, Return, Transfer, Exit}
use Rattle.rules.specs.declared.statement.Statement.TheVariants.{SendTree}
use Rattle.rules.specs.declared.answer.Answer.TheVariants.{Taken, ListFull, Waiting, Started, Exited, Trapped, WasCut}
use Rattle.rules.proofs.Running.{Runs, Answered, answered, MovesOn}
use Rattle.rules.proofs.Opcodes as opcodes
use Rattle.rules.proofs.Opcodes.{step_of, Open, A, B, register}
use Rattle.rules.proofs.Ends.{ends, locks-kept, starts-nothing, trap-state, cut-answer, cut-state, cut-idle}
use Rattle.rules.proofs.Assigning as assigning
use Rattle.rules.proofs.Assigning.{Assigns, ReadsAbsent, Stores, TrapsWith}
use Rattle.rules.proofs.Waits as waits
use Rattle.rules.proofs.Founding.{founds, two-appended, one-appended}

-- in the bytes of a thread the lock set, the return count, the presence set and the held count are 0
pub record Cleared (w : ThreadState) : Type 0 where
  pub locks : num16 (drop 2 (thread_bytes w)) ≡ 0
  pub returns : get_or (thread_bytes w) 4 0 ≡ 0
  pub presence : num32 (drop 21 (thread_bytes w)) ≡ 0
  pub held : get_or (thread_bytes w) 75 0 ≡ 0

cleared-idle : (w : ThreadState) → w ≡ idle → Cleared w
unfolding num16 num32 blocks pad thread_raw thread_bytes
cleared-idle w e = rw e (record { locks = refl; returns = refl; presence = refl; held = refl })

-- an arrival beside fewer than 16 trees, and beside more
module _ (image table : List ℕ) (s : Machine) (g : Signal) where
  taken : length s.trees < 16
      → react (rules_by image table) s (arrive g) ≡ record { state = grown (founded (rules_by image table) g) s; answer = Taken }
  unfolding react plan plan_arrive carry
  taken h = rw (length-map, lt-ltb (length s.trees) 16 h)

  refused : 16 ≤ length s.trees → react (rules_by image table) s (arrive g) ≡ record { state = s; answer = ListFull }
  unfolding react plan plan_arrive carry
  refused h = rw (length-map, le-ltb (length s.trees) 16 h)

-- the thread of a signal's block, and a tree with this signal on it
abbrev home_by : List ℕ → List ℕ → Signal → ℕ
home_by image table g = (row_at table (block_at image g.label)).thread

abbrev founded_by : List ℕ → List ℕ → Signal → Tree
founded_by image table g = record { thread = home_by image table g; pending = g ∷ [] }

-- thread t idle, and the tree of its job gone, or at the list's end on the thread of its oldest signal's block
abbrev settled_by : Rules → Machine → ℕ → Machine
settled_by R s t = record {
  words = s.words;
  threads = set s.threads t idle;
  trees = put t none s.trees ++ requeued R (first t s.trees);
}

-- EXIT by a job that holds these signals
left_by : (image table : List ℕ) (s : Machine) (t : ℕ) (gs : List Signal)
    → Answered (carry (rules_by image table) s (exiting t gs)) 7 (length gs - (16 - length (finished (rules_by image table) t s).trees))
    × ((carry (rules_by image table) s (exiting t gs)).state.trees
    ≡ (finished (rules_by image table) t s).trees
    ++ map (founded_by image table) (take (16 - length (finished (rules_by image table) t s).trees) gs))
unfolding carry code detail
left_by image table s t gs =
    let k = founds image table gs (finished (rules_by image table) t s) in
    let room = 16 - length (finished (rules_by image table) t s).trees in (
      answered (carry (rules_by image table) s (exiting t gs)) (Exited (length gs - room))
          (ap (λ l. Exited (length l)) k.lost-ones ∙ ap Exited (length-drop room gs)),
      k.trees,
    )

-- refusals that do not apply, after others
last_none : (faults : List ℕ) → first_refusal (faults ++ 0 ∷ 0 ∷ 0 ∷ []) ≡ first_refusal faults
unfolding first_refusal
last_none [] = refl
last_none (x ∷ faults) = ap (λ n. cond (eqb x 0) n x) (last_none faults)

module _ (image table state : List ℕ)
    (passes : first_refusal (image_faults image table (state_length_fault state ∷ state_fault image table state ∷ [])) ≡ 0) where
  no-events-return : run_return image table state [] [] ≡ 0
  unfolding first_bad events_length_fault event_fault answers_length_fault run_return
  no-events-return = last_none (image_faults image table (state_length_fault state ∷ state_fault image table state ∷ [])) ∙ passes

  no-events-state : run_state image table state [] [] ≡ encode (machine_from state)
  unfolding chunks events_from final run_state
  no-events-state = rw no-events-return

pub record Trials (image table : List ℕ) (s : Machine) (t locks : ℕ) (j : Job) (values : List ℕ) : Type 0 where
  -- "65,535 + 1 is 0": a step at a record of ASSIGN, operator 2, of this p and q stores this; and of any p and q their sum modulo 65,536
  pub sum_wraps : Stores image table s t locks j add_code 65535 1 0
  pub sums : (p q v m : ℕ) → v < 65536 → p + q ≡ v + 65536 * m → Stores image table s t locks j add_code p q v
  -- "0 - 1: 8, 7": operator 3, whatever the destination: no word changes, and the thread is idle; and the same of any p below q. For q up
  -- to p the difference is stored, 0 where they are equal. An absent register is found first: 8, 1
  pub zero-minus-one : (d : Operand) → Assigns image s t locks j subtract_code d 0 1 → TrapsWith (step_of image table s t) s t 7
  pub below-zero : (p q : ℕ) → p < q → (d : Operand) → Assigns image s t locks j subtract_code d p q
      → TrapsWith (step_of image table s t) s t 7
  pub differences : (p q v : ℕ) → v + q ≡ p → Stores image table s t locks j subtract_code p q v
  pub no_difference : (p : ℕ) → Stores image table s t locks j subtract_code p p 0
  pub absent-first : (i r : ℕ) → ReadsAbsent image s t locks j subtract_code i r → TrapsWith (step_of image table s t) s t 1
  -- "RETURN in a job with no call: 8, 2"
  pub return-without-call : Runs image s t locks j Return values → j.returns ≡ [] → Answered (step_of image table s t) 8 2
  -- "The eighth CALL moves on; the ninth: 8, 3"
  pub eighth-call : Runs image s t locks j Call values → length j.returns < 8 → Open image table s t (A image j)
      → MovesOn (step_of image table s t) t (bit_or locks (2 ^ (row_at table (block_at image (A image j))).lock))
      (with_held j.held (job (A image j) (j.returns ++ B image j ∷ []) (fill values)))
  pub ninth-call : Runs image s t locks j Call values → 8 ≤ length j.returns → Answered (step_of image table s t) 8 3
  -- "The eighth pending signal is kept; the ninth: 8, 4"
  pub eighth-signal : Runs image s t locks j SendBuffered values → (p : List Signal) → first t s.trees ≡ some p → length p < 8
      → (step_of image table s t).state.trees ≡ put t (some (p ++ record { label = A image j; values = values } ∷ [])) s.trees
  pub ninth-signal : Runs image s t locks j SendBuffered values → (p : List Signal) → first t s.trees ≡ some p → 8 ≤ length p
      → Answered (step_of image table s t) 8 4
  -- "The sixteenth arrival gets 1; the next 2"
  pub sixteenth-arrival : (g : Signal) → length s.trees < 16 → Answered (react (rules_by image table) s (arrive g)) 1 0
  pub next-arrival : (g : Signal) → 16 ≤ length s.trees → Answered (react (rules_by image table) s (arrive g)) 2 0
  pub no_change : (g : Signal) → 16 ≤ length s.trees → (react (rules_by image table) s (arrive g)).state ≡ s
  -- "EXIT two calls deep: lock set, return count, presence all 0": with any return labels and locks, and at every end
  pub exit : Runs image s t locks j Exit values → j.held ≡ [] → Answered (step_of image table s t) 7 0
  pub exit-clears : Runs image s t locks j Exit values → Cleared (thread_at (step_of image table s t).state t)
  pub end-clears : (R : Rules) (e : Event) → thread_of e ≡ some t → sort (react R s e).answer ≡ close
      → Cleared (thread_at (react R s e).state t)
  -- "TRANSFER with one value keeps register 1; direct SEND with one makes it absent": with k values, every register from k on
  pub transfer-keeps : Runs image s t locks j Transfer values → (r : ℕ) → length values ≤ r
      → register (thread_at (step_of image table s t).state t) r ≡ get_or j.registers r none
  pub direct-clears : Runs image s t locks j SendDirect values → Open image table s t (A image j) → (r : ℕ) → length values ≤ r
      → register (thread_at (step_of image table s t).state t) r ≡ none
  -- "The fourth held signal is kept; the fifth: 8, 6"
  pub fourth-held : Runs image s t locks j SendTree values → length j.held < 4
      → MovesOn (step_of image table s t) t locks
      (with_held (j.held ++ record { label = A image j; values = values } ∷ []) (job (B image j) j.returns j.registers))
  pub fifth-held : Runs image s t locks j SendTree values → 4 ≤ length j.held → Answered (step_of image table s t) 8 6
  -- "EXIT with three held signals, its own tree empty and 14 others live: two are appended, one is lost; its own tree not empty: one is
  -- appended, two are lost"
  pub exit-empty : Runs image s t locks j Exit values → (a b c : Signal) → j.held ≡ a ∷ b ∷ c ∷ [] → length s.trees ≡ 15
      → first t s.trees ≡ some [] → Answered (step_of image table s t) 7 1
      × ((step_of image table s t).state.trees ≡ put t none s.trees ++ founded_by image table a ∷ founded_by image table b ∷ [])
  pub exit-pending : Runs image s t locks j Exit values → (a b c : Signal) → j.held ≡ a ∷ b ∷ c ∷ [] → length s.trees ≡ 15
      → (g : Signal) (p : List Signal) → first t s.trees ≡ some (g ∷ p) → Answered (step_of image table s t) 7 2
      × ((step_of image table s t).state.trees
      ≡ (put t none s.trees ++ record { thread = home_by image table g; pending = g ∷ p } ∷ []) ++ founded_by image table a ∷ [])
  -- and of any number of them, after the own tree is settled: as many trees as there is room for beside 16, in order, the others lost
  pub exit-held : Runs image s t locks j Exit values
      → Answered (step_of image table s t) 7 (length j.held - (16 - length (settled_by (rules_by image table) s t).trees))
      × ((step_of image table s t).state.trees ≡ (settled_by (rules_by image table) s t).trees
      ++ map (founded_by image table) (take (16 - length (settled_by (rules_by image table) s t).trees) j.held))
  -- also: a trap and a cut drop all of them: the own tree is settled, and nothing else changes but the thread
  pub trap-drops : (R : Rules) (r : ℕ) → thread_at s t ≡ running locks j → (react R s (step t)).answer ≡ Trapped r
      → (react R s (step t)).state ≡ settled_by R s t
  pub cut-drops : (R : Rules) → thread_at s t ≡ running locks j → (react R s (cut t)).state ≡ settled_by R s t
  -- "No events: return 0, state unchanged": of a state that passes 1 to 6
  pub no-events : (R : Rules) → final R s [] ≡ s
  pub no-events-return : (state : List ℕ)
      → first_refusal (image_faults image table (state_length_fault state ∷ state_fault image table state ∷ [])) ≡ 0
      → run_return image table state [] [] ≡ 0
  pub no-events-state : (state : List ℕ)
      → first_refusal (image_faults image table (state_length_fault state ∷ state_fault image table state ∷ [])) ≡ 0
      → run_state image table state [] [] ≡ encode (machine_from state)
  -- also: 256 × 256 is 0
  pub product-wraps : Stores image table s t locks j multiply_code 256 256 0
  pub products : (p q v m : ℕ) → v < 65536 → p * q ≡ v + 65536 * m → Stores image table s t locks j multiply_code p q v
  -- also: IF goes on to A if p is less than q, or equal to it, and else to B
  pub less : (c : Condition) → c.relation ≡ Less → (p q : ℕ) → Runs image s t locks j (If c) (p ∷ q ∷ []) → p < q
      → MovesOn (step_of image table s t) t locks (with_held j.held (job (A image j) j.returns j.registers))
  pub not-less : (c : Condition) → c.relation ≡ Less → (p q : ℕ) → Runs image s t locks j (If c) (p ∷ q ∷ []) → q ≤ p
      → MovesOn (step_of image table s t) t locks (with_held j.held (job (B image j) j.returns j.registers))
  pub equal : (c : Condition) → c.relation ≡ Equal → (p : ℕ) → Runs image s t locks j (If c) (p ∷ p ∷ [])
      → MovesOn (step_of image table s t) t locks (with_held j.held (job (A image j) j.returns j.registers))
  pub not_equal : (c : Condition) → c.relation ≡ Equal → (p q : ℕ) → Runs image s t locks j (If c) (p ∷ q ∷ []) → p ≢ q
      → MovesOn (step_of image table s t) t locks (with_held j.held (job (B image j) j.returns j.registers))
  -- also: a direct SEND to an FD block (kind 0) of another thread traps, reason 5; to a CMX block (kind 1), or a block of its own, it goes
  pub foreign-FD : Runs image s t locks j SendDirect values → (row_at table (block_at image (A image j))).kind ≡ 0
      → (row_at table (block_at image (A image j))).thread ≢ t → Answered (step_of image table s t) 8 5
  pub CMX : Runs image s t locks j SendDirect values → (row_at table (block_at image (A image j))).kind ≡ 1
      → blocked (rules_by image table) t s.threads (some (block_at image (A image j))) ≡ none → Answered (step_of image table s t) 6 0
  pub own-FD : Runs image s t locks j SendDirect values → (row_at table (block_at image (A image j))).thread ≡ t
      → blocked (rules_by image table) t s.threads (some (block_at image (A image j))) ≡ none → Answered (step_of image table s t) 6 0
  -- also: an arrival goes to the list's end
  pub arrival-last : (g : Signal) → length s.trees < 16 → (react (rules_by image table) s (arrive g)).state.trees
      ≡ s.trees ++ founded_by image table g ∷ []
  -- also: RETURN releases no lock, and no answer but that of an end releases one
  pub return-keeps-locks : Runs image s t locks j Return values → (a : ℕ) (l : List ℕ) → j.returns ≡ a ∷ l
      → MovesOn (step_of image table s t) t locks (with_held j.held (job (newest a l) (older a l) (fill values)))
  pub locks-kept : (R : Rules) (e : Event) → (sort (react R s e).answer ≡ close → ⊥)
      → (u l : ℕ) → has l (locks_of (thread_at s u)) ≡ true → has l (locks_of (thread_at (react R s e).state u)) ≡ true
  -- also: a cut leaves no return labels
  pub cut-answer : (R : Rules) → thread_at s t ≡ running locks j → Answered (react R s (cut t)) 9 0
  pub cut-job : (R : Rules) → thread_at s t ≡ running locks j → job_of (thread_at (react R s (cut t)).state t) ≡ none
  -- also: a buffered SEND keeps all registers
  pub buffered-keeps : Runs image s t locks j SendBuffered values → (p : List Signal) → first t s.trees ≡ some p → length p < 8
      → MovesOn (step_of image table s t) t locks (with_held j.held (job (B image j) j.returns j.registers))
  -- also: while a job runs, its tree's next signal is not started
  pub starts-nothing : (R : Rules) → thread_at s t ≡ running locks j → (react R s (step t)).answer ≡ Started → ⊥
  -- also: a lock hinders a thread only where another holds it
  pub own-lock : (R : Rules) (b : ℕ) (before after : List ThreadState) → held (R.lock b) before ≡ false → held (R.lock b) after ≡ false
      → blocked R (length before) (before ++ running locks j ∷ after) (some b) ≡ none
  -- also: a wait has the lock of the wanted block as its detail
  pub waits-for-the-lock : (R : Rules) (b : ℕ) (m : Move) → m.want ≡ some b → held (R.lock b) (set s.threads t idle) ≡ true
      → Answered (carry R s (move t m)) 4 (R.lock b)
  -- also: two threads that wait for each other: the walk writes both once and reports the ring; one that does not wait is written alone
  pub walk-ring : (next : ℕ → Option ℕ) → next 1 ≡ some 0 → next 0 ≡ some 1
      → ((walk next 8 1).threads ≡ 1 ∷ 0 ∷ []) × (met_count (walk next 8 1) ≡ 258)
  pub walk-alone : (next : ℕ → Option ℕ) → next 2 ≡ none → ((walk next 8 2).threads ≡ 2 ∷ []) × (met_count (walk next 8 2) ≡ 1)

pub trials : (image table : List ℕ) (s : Machine) (t locks : ℕ) (j : Job) (values : List ℕ) → Trials image table s t locks j values
unfolding code detail final met_count carry admitted lost
trials image table s t locks j values = record {
  sum_wraps = assigning.sum image table s t locks j 65535 1 0 1 (omega arith) refl;
  sums = assigning.sum image table s t locks j;
  zero-minus-one = assigning.below-zero image table s t locks j 0 1 (omega arith);
  below-zero = assigning.below-zero image table s t locks j;
  differences = assigning.difference image table s t locks j;
  no_difference = λ p. assigning.difference image table s t locks j p p 0 (omega arith);
  absent-first = assigning.absent-first image table s t locks j;
  return-without-call = λ r e. answered (step_of image table s t) (Trapped 2) (opcodes.return-trap image table r e);
  eighth-call = opcodes.call image table;
  ninth-call = λ r h. answered (step_of image table s t) (Trapped 3) (opcodes.call-trap image table r h);
  eighth-signal = opcodes.send-kept image table;
  ninth-signal = λ r p e h. answered (step_of image table s t) (Trapped 4) (opcodes.send-trap image table r p e h);
  sixteenth-arrival = λ g h. answered (react (rules_by image table) s (arrive g)) Taken (rw (taken image table s g h));
  next-arrival = λ g h. answered (react (rules_by image table) s (arrive g)) ListFull (rw (refused image table s g h));
  no_change = λ g h. rw (refused image table s g h);
  exit = λ r e. answered (step_of image table s t) (Exited 0) (rw (opcodes.exit image table r, e));
  exit-clears =
      λ r. cleared-idle (thread_at (step_of image table s t).state t)
      (ends (rules_by image table) s (step t) t refl (rw (opcodes.exit image table r)));
  end-clears = λ R e h c. cleared-idle (thread_at (react R s e).state t) (ends R s e t h c);
  fourth-held = opcodes.hold image table;
  fifth-held = λ r h. answered (step_of image table s t) (Trapped 6) (opcodes.hold-trap image table r h);
  exit-empty = λ r a b c e f h.
      let k = two-appended image table s t a b c f h in
      rw (opcodes.exit image table r, e) (answered (carry (rules_by image table) s (exiting t (a ∷ b ∷ c ∷ []))) (Exited 1) k.0, k.1);
  exit-pending = λ r a b c e f g p h.
      let k = one-appended image table s t a b c f g p h in
      rw (opcodes.exit image table r, e) (answered (carry (rules_by image table) s (exiting t (a ∷ b ∷ c ∷ []))) (Exited 2) k.0, k.1);
  exit-held = λ r. rw (opcodes.exit image table r) (left_by image table s t j.held);
  trap-drops = λ R r. trap-state R s t locks r j;
  cut-drops = λ R. cut-state R s t locks j;
  transfer-keeps = opcodes.transfer-keeps image table;
  direct-clears = opcodes.direct-clears image table;
  no-events = λ R. refl;
  no-events-return = no-events-return image table;
  no-events-state = no-events-state image table;
  product-wraps = assigning.product image table s t locks j 256 256 0 1 (omega arith) refl;
  products = assigning.product image table s t locks j;
  less = λ c e p q r h. opcodes.branch image table c true r (rw e (lt-ltb p q h));
  not-less = λ c e p q r h. opcodes.branch image table c false r (rw e (le-ltb p q h));
  equal = λ c e p r. opcodes.branch image table c true r (rw e (eq-eqb p p refl));
  not_equal = λ c e p q r h. opcodes.branch image table c false r (rw e (ne_eqb p q h));
  foreign-FD = λ r k h.
      let alien-row = opcodes.foreign (row_at table (block_at image (A image j))) t k h in
      answered (step_of image table s t) (Trapped 5) (opcodes.direct-trap image table r alien-row);
  CMX = λ r k h.
      (opcodes.direct image table r (record { own = opcodes.cmx (row_at table (block_at image (A image j))) t k; free = h })).answer;
  own-FD = λ r k h.
      (opcodes.direct image table r (record { own = opcodes.own (row_at table (block_at image (A image j))) t k; free = h })).answer;
  arrival-last = λ g h. rw (taken image table s g h);
  return-keeps-locks = opcodes.return image table;
  locks-kept = λ R. locks-kept R s;
  cut-answer = λ R h. answered (react R s (cut t)) WasCut (cut-answer R s t locks j h);
  cut-job = λ R h. rw (cut-idle R s t locks j h);
  buffered-keeps = opcodes.send image table;
  starts-nothing = λ R. starts-nothing R s t locks j;
  own-lock = λ R b. waits.own-lock R b locks j;
  waits-for-the-lock = λ R b m e h. answered (carry R s (move t m)) (Waiting (Sorts.lock (R.lock b))) (rw (waits.waits R s t b m e h));
  walk-ring = λ next e f. rw (waits.ring next e f) (refl, refl);
  walk-alone = λ next e. rw (waits.alone next e) (refl, refl);
}
