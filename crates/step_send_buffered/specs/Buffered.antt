-- What a buffered SEND leaves on the bytes, from what the calls that carry it out leave.
use Rattle.std.specs.Prelude.{◌≡◌, List, ℕ, ◌≤◌, ◌<◌, length, take}
use Rattle.std.proofs.Common.{ap, ◌∙◌, subst, le-leb}
use Rattle.std.proofs.Math.Option.{some}
use Rattle.std.proofs.lemmas.Bool.{lt-leb}
use Rattle.rules.specs.Sizes.{pending_count}
use Rattle.rules.specs.Codes.{pending_full_code}
use Rattle.rules.specs.Image.{record_at, operands, label_a, label_b}
use Rattle.rules.specs.Statements.{statement_of}
use Rattle.rules.specs.Machine.{Machine, first, job}
use Rattle.rules.specs.Encoding.{machine_from}
use Rattle.rules.specs.Steps.{rules_by, finished}
use Rattle.rules.specs.declared.answer.Answer.{Answer}
use Rattle.rules.specs.declared.answer.Answer.TheVariants.{Moved, Trapped}
use Rattle.rules.specs.declared.statement.Statement.TheVariants.{SendBuffered}
use Rattle.lemmas_encoding.specs.Encoded.{Encodes, Canonical, encoded-machine}
use Rattle.lemmas_encoding.specs.FirstTree.{first_tree, first_some}
use Rattle.state_thread.specs.Threads.{returns_of, registers_of, with_job, job_of, keeping}
use Rattle.state_thread.specs.declared.thread.ThreadState.{ThreadState}
use Rattle.state_pending.specs.Canon.{pending_at}
use Rattle.state_pending.specs.Changes.{sent}
use Rattle.step_operands.specs.Readings.{Given}
use Rattle.lemmas_step.specs.Statements.{buffer-full, buffers}
use Rattle.step_contract.specs.Ready.{Stepped, Ended, done}
use Rattle.step_contract.specs.At.{At, tree, statement-here, reads_here}
use Rattle.step_end.specs.Home.{first-inside}

module _ {image table b : List ℕ} {t : ℕ} {w : ThreadState} {r : List ℕ} (h : At image table b t w r) where
  -- a running thread's first tree is in the list
  pub own-tree : (i : ℕ) → i ≡ first_tree t (machine_from b).trees → i < length (machine_from b).trees
  own-tree i e = rw e (first-inside t (tree h).0 (machine_from b).trees (tree h).1)

  -- all values could be read, and tree i is the job's own
  module _ (e : statement_of r ≡ SendBuffered) (values : List ℕ) (g : Given b w r values) (i : ℕ)
      (at : i ≡ first_tree t (machine_from b).trees) where
    abbrev here : List ℕ
    here = record_at image w.label.0

    abbrev m : Machine
    m = machine_from b

    abbrev vs : List ℕ
    vs = take (operands r) values

    own : first t m.trees ≡ some (pending_at m i)
    own = rw at (first_some t m.trees (rw at at (own-tree i at)))

    pub full-stepped : {b' : List ℕ} {a : Answer} → pending_count ≤ length (pending_at m i) → a ≡ Trapped pending_full_code
        → Ended image table b t b' → Stepped image table b t b' a
    full-stepped l f k =
        done (finished (rules_by image table) t m) (Trapped pending_full_code)
        (buffer-full image table m t w.locks (job_of w) (pending_at m i) h.runs own vs
        (statement-here h SendBuffered e) (reads_here h SendBuffered g.gives) (le-leb pending_count _ l)) f k

    -- the machine with the thread at label B, and then with the signal in the tree
    abbrev moved : List ℕ → Machine
    moved q = with_job m t w.locks (keeping w (job (label_b q) (returns_of w) (registers_of w)))

    abbrev buffered : List ℕ → Machine → Machine
    buffered q s = sent t i (record { label = label_a q; values = vs }) s

    pub buffered-stepped : {b₁ b₂ : List ℕ} {a : Answer} → length (pending_at m i) < pending_count → Encodes b₁ (moved r)
        → Canonical b₂ → machine_from b₂ ≡ buffered r (machine_from b₁) → a ≡ Moved → Stepped image table b t b₂ a
    buffered-stepped {b₁} {b₂} l k z n f =
        let both : machine_from b₂ ≡ buffered r (moved r) = n ∙ ap (buffered r) (encoded-machine b₁ (moved r) k) in
        done (buffered here (moved here)) Moved
        (buffers image table m t w.locks (job_of w) (pending_at m i) h.runs own vs
        (statement-here h SendBuffered e) (reads_here h SendBuffered g.gives) (lt-leb pending_count _ l)) f
        (subst (λ (q : List ℕ). Encodes b₂ (buffered q (moved q))) h.here (subst (Encodes b₂) both z))
