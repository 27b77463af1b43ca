-- The destinations of a statement of ASSIGN's kind: values stored in a thread's registers, and in the words of a block.
use Rattle.std.specs.Prelude.{◌≡◌, refl, List, ℕ, ◌+◌, ◌*◌, ◌<◌, length, get_or, set}
use Rattle.std.proofs.Common.{sym, ap, ◌∙◌, subst, length-set, get_or-set_same, set-set}
use Rattle.std.proofs.Math.Option.{Option, some}
use Rattle.rules.specs.Sizes.{word_count}
use Rattle.rules.specs.Image.{block_field, label_a}
use Rattle.rules.specs.Machine.{Machine, ThreadState, Tree, Job, idle, running, window, keep, job, with_held, thread_at}
use Rattle.rules.specs.Encoding.{machine_from}
use Rattle.rules.specs.Effects.{Cells, store, assigned}
use Rattle.rules.specs.Storing.{length-window}
use Rattle.rules.specs.declared.statement.Assignment.{Assignment}
use Rattle.rules.specs.declared.statement.Operand.{Operand}
use Rattle.rules.specs.declared.statement.Operand.TheVariants.{Number, Register, Word}
use Rattle.lemmas_encoding.specs.Encoded.{Encodes, encoded-machine, encoded-canonical}
use Rattle.lemmas_encoding.specs.Stores.{with_word}
use Rattle.lemmas_step.specs.Same.{keep-window, keep-more}
use Rattle.state_thread.specs.Threads.{Runs, job_of, returns_of, registers_of, runs-fields, runs_then, with_job, keeping}
use Rattle.state_thread.specs.declared.thread.ThreadState as code
use Rattle.step_operands.specs.Legal.{Fits}

-- a value stored, in registers, in the words of a block, and in a machine's word of a block
abbrev pub registers_after : Operand → ℕ → List (Option ℕ) → List (Option ℕ)
registers_after (Number n) v l = l
registers_after (Register k) v l = set l k (some v)
registers_after (Word k) v l = l

abbrev words_after : Operand → ℕ → List ℕ → List ℕ
words_after (Number n) v ws = ws
words_after (Register k) v ws = ws
words_after (Word k) v ws = set ws k v

abbrev pub with_word_at : Machine → ℕ → Operand → ℕ → Machine
with_word_at s block (Number n) v = s
with_word_at s block (Register k) v = s
with_word_at s block (Word k) v = with_word s (word_count * block + k) v

-- the machine s where thread t has become w, which has the first value if that goes to a register, and else the block's word has it
abbrev pub with_first : Machine → ℕ → ℕ → code.ThreadState → Operand → ℕ → Machine
with_first s t block w d u = with_word_at (with_job s t w.locks (job_of w)) block d u

-- the thread is written, and then the word
pub first-written : (s : Machine) (t block : ℕ) (w : code.ThreadState) (d : Operand) (u : ℕ) {b c : List ℕ}
    → Encodes b (with_job s t w.locks (job_of w)) → Encodes c (with_word_at (machine_from b) block d u)
    → Encodes c (with_first s t block w d u)
first-written s t block w d u {b} {c} e f =
    subst (Encodes c) (ap (λ (z : Machine). with_word_at z block d u) (encoded-machine b _ e)) f

-- the machine s, in which thread t is w, with the second value in a register of that thread or in a word of the block
abbrev pub with_second : Machine → ℕ → ℕ → code.ThreadState → Operand → ℕ → Machine
with_second s t block w (Number n) v = s
with_second s t block w (Register k) v =
    with_job s t w.locks (keeping w (job w.label.0 (returns_of w) (registers_after (Register k) v (registers_of w))))
with_second s t block w (Word k) v = with_word s (word_count * block + k) v

-- a thread that has the value, after a change of it
pub register-stored : {x y : code.ThreadState} {locks : ℕ} {j : Job} (d : Operand) (u : ℕ) → Runs x locks j
    → Runs y x.locks (keeping x (job x.label.0 (returns_of x) (registers_after d u (registers_of x))))
    → Runs y locks (with_held j.held (job j.label j.returns (registers_after d u j.registers)))
register-stored d u h k =
    runs_then (λ l. l) (λ j. with_held j.held (job j.label j.returns (registers_after d u j.registers))) h k

-- the law's store is both
store_is : (d : Operand) (v : ℕ) (c : Cells)
    → store d v c ≡ record { registers = registers_after d v c.registers; words = words_after d v c.words }
store_is (Number n) v c = refl
store_is (Register k) v c = refl
store_is (Word k) v c = refl

length-words : (d : Operand) (v : ℕ) (ws : List ℕ) → length (words_after d v ws) ≡ length ws
length-words (Number n) v ws = refl
length-words (Register k) v ws = refl
length-words (Word k) v ws = length-set ws k v

module _ (block : ℕ) (ws : List ℕ) (threads : List ThreadState) (trees : List Tree) where
  -- the machine with these words in the block
  abbrev kept : List ℕ → Machine
  kept vs = record { words = keep block vs ws; threads = threads; trees = trees }

  one_kept : (d : Operand) (v : ℕ) (vs : List ℕ) → Fits d → length vs ≡ word_count
      → with_word_at (kept vs) block d v ≡ kept (words_after d v vs)
  one_kept (Number n) v vs h l = refl
  one_kept (Register k) v vs h l = refl
  one_kept (Word k) v vs h l = rw (keep-more block k v vs ws h l) refl

  both-kept : (d e : Operand) (u v : ℕ) → Fits d → Fits e
      → with_word_at (with_word_at (record { words = ws; threads = threads; trees = trees }) block d u) block e v
      ≡ kept (words_after e v (words_after d u (window block ws)))
  both-kept d e u v h k =
      let z = length-window block ws in
      ap (λ (q : List ℕ). with_word_at (with_word_at (record { words = q; threads = threads; trees = trees }) block d u) block e v)
      (sym (keep-window block ws))
      ∙ ap (λ (q : Machine). with_word_at q block e v) (one_kept d u (window block ws) h z)
      ∙ one_kept e v (words_after d u (window block ws)) k (length-words d u (window block ws) ∙ z)

-- what is stored, and the thread on to A
abbrev pub cells_after : Machine → code.ThreadState → List ℕ → Assignment → ℕ → ℕ → Cells
cells_after s w r a u v =
    assigned a (record { first = u; second = v })
    (record { registers = registers_of w; words = window (block_field r) s.words })

abbrev pub landed : Machine → ℕ → code.ThreadState → List ℕ → Assignment → ℕ → ℕ → Machine
landed s t w r a u v = record {
  words = keep (block_field r) (cells_after s w r a u v).words s.words;
  threads = (with_job s t w.locks (keeping w (job (label_a r) (returns_of w) (cells_after s w r a u v).registers))).threads;
  trees = s.trees;
}

-- the cells in which both values are stored
both-cells : (a : Assignment) (u v : ℕ) (c : Cells) → assigned a (record { first = u; second = v }) c
    ≡ record {
      registers = registers_after a.second v (registers_after a.first u c.registers);
      words = words_after a.second v (words_after a.first u c.words);
    }
both-cells a u v c =
    store_is a.second v (store a.first u c)
    ∙ ap (λ (q : Cells). record { registers = registers_after a.second v q.registers; words = words_after a.second v q.words })
    (store_is a.first u c)

-- the thread with the first value is written, the first word is, and then the second value is stored
module _ (s : Machine) (t : ℕ) (inside : t < length s.threads) (block locks : ℕ) where
  again : (j k : Job) (words : List ℕ)
      → with_job (record { words = words; threads = set s.threads t (running locks j); trees = s.trees }) t locks k
      ≡ record { words = words; threads = set s.threads t (running locks k); trees = s.trees }
  again j k words =
      ap (λ (z : List ThreadState). record { words = words; threads = z; trees = s.trees })
      (set-set s.threads t (running locks j) (running locks k))

  threads-stay : (d : Operand) (u : ℕ) (j : Job) → (with_word_at (with_job s t locks j) block d u).threads ≡ set s.threads t
      (running locks j)
  threads-stay (Number n) u j = refl
  threads-stay (Register k) u j = refl
  threads-stay (Word k) u j = refl

  -- so it stands there before the second value is stored
  pub standing : (d : Operand) (u : ℕ) (j : Job) → thread_at (with_word_at (with_job s t locks j) block d u) t ≡ running locks j
  standing d u j =
      ap (λ (z : List ThreadState). get_or z t idle) (threads-stay d u j) ∙ get_or-set_same s.threads t (running locks j) idle inside

  -- a second register is stored to before the words or after them
  register-last : (d : Operand) (u : ℕ) (j k : Job)
      → with_job (with_word_at (with_job s t locks j) block d u) t locks k ≡ with_word_at (with_job s t locks k) block d u
  register-last (Number n) u j k = again j k s.words
  register-last (Register i) u j k = again j k s.words
  register-last (Word i) u j k = again j k _

module _ (s : Machine) (t : ℕ) (inside : t < length s.threads) (w : code.ThreadState) (r : List ℕ) (a : Assignment) (u v : ℕ) where
  abbrev block : ℕ
  block = block_field r

  abbrev after_both : ℕ → Job → ThreadState
  after_both locks j =
      running locks (with_held j.held (job j.label j.returns (registers_after a.second v j.registers)))

  abbrev machine_with : Cells → Machine
  machine_with c = record {
    words = keep block c.words s.words;
    threads = (with_job s t w.locks (keeping w (job (label_a r) (returns_of w) c.registers))).threads;
    trees = s.trees;
  }

  second-last : (x : code.ThreadState) (d e : Operand)
      → with_second (with_word_at (with_job s t x.locks (job_of x)) block d u) t block x e v
      ≡ with_word_at
      (with_word_at (with_job s t x.locks (keeping x (job x.label.0 (returns_of x) (registers_after e v
      (registers_of x))))) block d u) block e v
  second-last x d (Number n) = refl
  second-last x d (Register k) = register-last s t inside block x.locks d u (job_of x) (keeping x (job _ _ _))
  second-last x d (Word k) = refl

  module _ (x : code.ThreadState) {b : List ℕ} (h : Fits a.first) (k : Fits a.second)
      (q : Runs x w.locks (keeping w (job (label_a r) (returns_of w) (registers_after a.first u (registers_of w)))))
      (e : Encodes b (with_first s t block x a.first u)) where
    pub both_stored : {c : List ℕ} → Encodes c (with_second (machine_from b) t block x a.second v) → Encodes c (landed s t w r a u v)
    both_stored {c} f =
        let words = ap (λ (z : Machine). with_second z t block x a.second v) (encoded-machine b _ e)
        ∙ second-last x a.first a.second
        ∙ both-kept block s.words (set s.threads t (after_both x.locks (job_of x))) s.trees a.first a.second u v h k in
        let thread = ap (λ l. after_both l (job_of x)) (runs-fields q).0 ∙ ap (after_both w.locks) (runs-fields q).1 in
        let stored = words_after a.second v (words_after a.first u (window block s.words)) in
        subst (Encodes c)
        (words
        ∙ ap (λ (z : ThreadState). record { words = keep block stored s.words; threads = set s.threads t z; trees = s.trees }) thread
        ∙ ap machine_with (sym (both-cells a u v (record { registers = registers_of w; words = window block s.words })))) f

    -- an operation with one destination has stored all that it has
    pub one-stored : (n : ℕ) → a.second ≡ Number n → Encodes b (landed s t w r a u v)
    one-stored n f =
        both_stored (subst (λ (d : Operand). Encodes b (with_second (machine_from b) t block x d v)) (sym f) (encoded-canonical b _ e))
