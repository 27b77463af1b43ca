-- What a step of a running thread comes to, statement by statement, from the values that the statement read.
use Rattle.std.specs.Prelude.{◌≡◌, Bool, true, cond, List, [], ◌∷◌, ◌++◌, ℕ, ◌+◌, ◌^◌, leb, length, get_or, set}
use Rattle.std.proofs.Math.Path.{refl}
use Rattle.std.proofs.Common.{◌∙◌, append-nil}
use Rattle.std.proofs.Math.Bool.{false}
use Rattle.std.proofs.Math.Option.{none, some}
use Rattle.std.specs.Int.Bits.{bit_or}
use Rattle.rules.specs.Sorts
use Rattle.rules.specs.Sizes.{return_count, held_count, pending_count}
use Rattle.rules.specs.Image.{record_at, label_a, label_b, row_at}
use Rattle.rules.specs.Statements.{following, statement_of, data_of, reads}
use Rattle.rules.specs.Effects.{Got, trap, got, then, Cells, read_all, Results, compute, holds, assigned, overlaid, View, Outcome, leave}
use Rattle.rules.specs.Effects.{perform, outcome}
use Rattle.rules.specs.Machine.{Signal, Job, job, with_held, idle, running, Machine, thread_at, fill, first, put, window, keep, with_thread}
use Rattle.rules.specs.Events.{step}
use Rattle.rules.specs.Steps.{Rules, Effect, moves, newest, older, alien, block_at, act_by, rules_by, held, finished, admitted, lost}
use Rattle.rules.specs.Steps.{react}
use Rattle.rules.specs.declared.statement.Assignment.{Assignment}
use Rattle.rules.specs.declared.statement.Condition.{Condition}
use Rattle.rules.specs.declared.statement.Operand.{Operand}
use Rattle.rules.specs.declared.statement.Statement.{Statement}
use Rattle.rules.specs.declared.statement.Statement.TheVariants.{Skip, Assign, If, SendDirect, SendBuffered, Call, Return, Transfer, Exit}
use Rattle.rules.specs.declared.statement.Statement.TheVariants.{SendTree}
use Rattle.rules.specs.declared.answer.Answer.TheVariants.{Waiting, Moved, Exited, Trapped}
use Rattle.lemmas_step.specs.Same.{keep-window, put_same}
use Rattle.lemmas_step.specs.Events.{reply}
use Rattle.lemmas_step.specs.Running.{traps-by, exits_by, moves-by, moves-on, waits-for, enters}

-- the registers of a job, and the words of the block that it is in
abbrev pub job_cells : List ℕ → Machine → Job → Cells
job_cells image s j = record { registers = j.registers; words = window (block_at image j.label) s.words }

-- what an assignment works out: its sources are read left to right, and its operation goes by their values
abbrev pub results : Cells → Assignment → Got Results
results c a = then (read_all c (a.left ∷ a.right ∷ [])) (λ vs. compute a.operation (get_or vs 0 0) (get_or vs 1 0))

assign-outcome : (v : View) (a : Assignment) (given : List Operand)
    → outcome v (Assign a) given ≡ then (results v.cells a) (λ z. got (leave following true [] (assigned a z v.cells)))
unfolding outcome perform
assign-outcome v a given = read (read_all v.cells (a.left ∷ a.right ∷ []))
  where
    stored : Results → Got Outcome
    stored z = got (leave following true [] (assigned a z v.cells))

    computed : (g : Got Results) → then (then g (λ x. got (assigned a x v.cells))) (λ c. got (leave following true [] c)) ≡ then g stored
    computed (trap r) = refl
    computed (got z) = refl

    read : (g : Got (List ℕ)) → then g (λ vs. perform v (Assign a) vs)
        ≡ then (then g (λ vs. compute a.operation (get_or vs 0 0) (get_or vs 1 0))) stored
    read (trap r) = refl
    read (got vs) = computed (compute a.operation (get_or vs 0 0) (get_or vs 1 0))

module _ (image table : List ℕ) (s : Machine) (t l : ℕ) (j : Job) (p : List Signal) (runs : thread_at s t ≡ running l j)
    (tree : first t s.trees ≡ some p) where
  abbrev R : Rules
  R = rules_by image table

  abbrev r : List ℕ
  r = record_at image j.label

  abbrev own : ℕ
  own = block_at image j.label

  abbrev cells_of : Cells
  cells_of = job_cells image s j

  abbrev effect : Effect
  effect = act_by image table t j (window own s.words) (length p)

  -- a job that holds what this one held
  abbrev kept : Job → Job
  kept k = with_held j.held k

  -- an operand that cannot be read
  pub unread : (S : Statement) (k : ℕ) → statement_of r ≡ S → read_all cells_of (reads S (data_of r)) ≡ trap k
      → react R s (step t) ≡ reply (finished R t s) (Trapped k)
  unread S k e h = traps-by R s t l j p runs tree k (unfold act_by outcome in rw (e, h) refl)

  pub skips : statement_of r ≡ Skip
      → react R s (step t) ≡ reply (with_thread s t (running l (kept (job (label_a r) j.returns j.registers)))) Moved
  skips e = moves-on R s t l j p runs tree _ (unfold act_by outcome read_all perform in rw e refl)

  pub leaves : statement_of r ≡ Exit
      → react R s (step t) ≡ reply (admitted R j.held (finished R t s)) (Exited (length (lost R j.held (finished R t s))))
  leaves e = exits_by R s t l j p runs tree (unfold act_by outcome read_all perform in rw e refl)

  -- ---- ASSIGN

  module _ (a : Assignment) (e : statement_of r ≡ Assign a) where
    pub unworked : (k : ℕ) → results cells_of a ≡ trap k → react R s (step t) ≡ reply (finished R t s) (Trapped k)
    unworked k h = traps-by R s t l j p runs tree k (unfold act_by in rw (e, assign-outcome, h) refl)

    pub assigns : (z : Results) → results cells_of a ≡ got z
        → react R s (step t)
        ≡ reply
        (record {
          words = keep own (assigned a z cells_of).words s.words;
          threads = set s.threads t (running l (kept (job (label_a r) j.returns (assigned a z cells_of).registers)));
          trees = s.trees;
        }) Moved
    assigns z h =
        moves-by R s t l j p runs tree (kept (job (label_a r) j.returns (assigned a z cells_of).registers))
        (assigned a z cells_of).words none (unfold act_by in rw (e, assign-outcome, h) refl)
        ∙ rw (append-nil p, put_same t p s.trees tree) refl

  -- the values that the statement read
  module _ (vs : List ℕ) where
    abbrev x : ℕ
    x = get_or vs 0 0

    abbrev y : ℕ
    y = get_or vs 1 0

    -- ---- IF

    pub branches : (c : Condition) → statement_of r ≡ If c → read_all cells_of (reads (If c) (data_of r)) ≡ got vs
        → react R s (step t) ≡ reply
        (with_thread s t (running l (kept (job (cond (holds c.relation x y) (label_a r) (label_b r)) j.returns j.registers)))) Moved
    branches c e h = case (holds c.relation x y) refl
      where
        case : (b : Bool) → holds c.relation x y ≡ b
            → react R s (step t) ≡ reply
            (with_thread s t (running l (kept (job (cond b (label_a r) (label_b r)) j.returns j.registers)))) Moved
        case true q = moves-on R s t l j p runs tree _ (unfold act_by outcome perform in rw (e, h, q) refl)
        case false q = moves-on R s t l j p runs tree _ (unfold act_by outcome perform in rw (e, h, q) refl)

    -- ---- SEND direct: an FD block of another thread, then the lock

    abbrev into : ℕ
    into = block_at image (label_a r)

    abbrev lock : ℕ
    lock = (row_at table into).lock

    module _ (e : statement_of r ≡ SendDirect) (h : read_all cells_of (data_of r) ≡ got vs) where
      pub send-alien : alien (row_at table into) t ≡ true → react R s (step t) ≡ reply (finished R t s) (Trapped 5)
      send-alien q = traps-by R s t l j p runs tree 5 (unfold act_by outcome perform in rw (e, h, q) refl)

      module _ (q : alien (row_at table into) t ≡ false) where
        sends : effect ≡ moves (kept (job (label_a r) j.returns (fill vs))) (window own s.words) none (some into)
        sends = unfold act_by outcome perform in rw (e, h, q) refl

        pub send-waits : held lock (set s.threads t idle) ≡ true → react R s (step t) ≡ reply s (Waiting (Sorts.lock lock))
        send-waits w = waits-for R s t l j p runs tree _ into sends w

        pub send-enters : held lock (set s.threads t idle) ≡ false
            → react R s (step t) ≡ reply
            (with_thread s t (running (bit_or l (2 ^ lock)) (kept (job (label_a r) j.returns (fill vs))))) Moved
        send-enters w = enters R s t l j p runs tree _ into sends w

    -- ---- SEND buffered

    module _ (e : statement_of r ≡ SendBuffered) (h : read_all cells_of (data_of r) ≡ got vs) where
      pub buffer-full : leb pending_count (length p) ≡ true → react R s (step t) ≡ reply (finished R t s) (Trapped 4)
      buffer-full q = traps-by R s t l j p runs tree 4 (unfold act_by outcome perform in rw (e, h, q) refl)

      pub buffers : leb pending_count (length p) ≡ false
          → react R s (step t)
          ≡ reply (record {
            words = s.words;
            threads = set s.threads t (running l (kept (job (label_b r) j.returns j.registers)));
            trees = put t (some (p ++ record { label = label_a r; values = vs } ∷ [])) s.trees;
          }) Moved
      buffers q =
          moves-by R s t l j p runs tree (kept (job (label_b r) j.returns j.registers)) (window own s.words)
          (some (record { label = label_a r; values = vs })) (unfold act_by outcome perform in rw (e, h, q) refl)
          ∙ rw (keep-window own s.words) refl

    -- ---- SEND JOBTREE

    module _ (e : statement_of r ≡ SendTree) (h : read_all cells_of (data_of r) ≡ got vs) where
      pub hold-full : leb held_count (length j.held) ≡ true → react R s (step t) ≡ reply (finished R t s) (Trapped 6)
      hold-full q = traps-by R s t l j p runs tree 6 (unfold act_by outcome perform in rw (e, h, q) refl)

      pub holds_on : leb held_count (length j.held) ≡ false
          → react R s (step t) ≡ reply (with_thread s t (running l
          (with_held (j.held ++ record { label = label_a r; values = vs } ∷ []) (job (label_b r) j.returns j.registers)))) Moved
      holds_on q = moves-on R s t l j p runs tree _ (unfold act_by outcome perform in rw (e, h, q) refl)

    -- ---- CALL: 8 return labels, an FD block of another thread, then the lock

    module _ (e : statement_of r ≡ Call) (h : read_all cells_of (data_of r) ≡ got vs) where
      pub call-deep : leb return_count (length j.returns) ≡ true → react R s (step t) ≡ reply (finished R t s) (Trapped 3)
      call-deep q = traps-by R s t l j p runs tree 3 (unfold act_by outcome perform in rw (e, h, q) refl)

      module _ (d : leb return_count (length j.returns) ≡ false) where
        pub call-alien : alien (row_at table into) t ≡ true → react R s (step t) ≡ reply (finished R t s) (Trapped 5)
        call-alien q = traps-by R s t l j p runs tree 5 (unfold act_by outcome perform in rw (e, h, d, q) refl)

        module _ (q : alien (row_at table into) t ≡ false) where
          calls : effect ≡ moves (kept (job (label_a r) (j.returns ++ label_b r ∷ []) (fill vs))) (window own s.words) none (some into)
          calls = unfold act_by outcome perform in rw (e, h, d, q) refl

          pub call-waits : held lock (set s.threads t idle) ≡ true → react R s (step t) ≡ reply s (Waiting (Sorts.lock lock))
          call-waits w = waits-for R s t l j p runs tree _ into calls w

          pub call_enters : held lock (set s.threads t idle) ≡ false
              → react R s (step t) ≡ reply
              (with_thread s t (running (bit_or l (2 ^ lock)) (kept (job (label_a r) (j.returns ++ label_b r ∷ []) (fill vs))))) Moved
          call_enters w = enters R s t l j p runs tree _ into calls w

    -- ---- RETURN

    module _ (e : statement_of r ≡ Return) (h : read_all cells_of (data_of r) ≡ got vs) where
      pub return-none : j.returns ≡ [] → react R s (step t) ≡ reply (finished R t s) (Trapped 2)
      return-none q = traps-by R s t l j p runs tree 2 (unfold act_by outcome perform in rw (e, h, q) refl)

      pub returns_to : (a : ℕ) (more : List ℕ) → j.returns ≡ a ∷ more
          → react R s (step t) ≡ reply (with_thread s t (running l (kept (job (newest a more) (older a more) (fill vs))))) Moved
      returns_to a more q = moves-on R s t l j p runs tree _ (unfold act_by outcome perform in rw (e, h, q) refl)

    -- ---- TRANSFER

    pub transfers : statement_of r ≡ Transfer → read_all cells_of (data_of r) ≡ got vs
        → react R s (step t) ≡ reply
        (with_thread s t (running l (kept (job (label_a r) j.returns (overlaid vs cells_of).registers)))) Moved
    transfers e h = moves-on R s t l j p runs tree _ (unfold act_by outcome perform in rw (e, h) refl)
