-- What a step comes to that goes on to a label with its registers.
use Rattle.std.specs.Prelude.{◌≡◌, List, ℕ}
use Rattle.std.proofs.Common.{ap, ◌∙◌}
use Rattle.rules.specs.Image.{record_at, label_a}
use Rattle.rules.specs.Statements.{statement_of}
use Rattle.rules.specs.Machine.{Machine, job}
use Rattle.rules.specs.Encoding.{machine_from}
use Rattle.rules.specs.declared.answer.Answer.{Answer}
use Rattle.rules.specs.declared.answer.Answer.TheVariants.{Moved}
use Rattle.rules.specs.declared.statement.Statement.TheVariants.{Skip}
use Rattle.lemmas_encoding.specs.Encoded.{Encodes}
use Rattle.lemmas_step.specs.Statements as law
use Rattle.state_thread.specs.Threads.{returns_of, registers_of, with_job, job_of, keeping}
use Rattle.state_thread.specs.declared.thread.ThreadState.{ThreadState}
use Rattle.step_contract.specs.Ready.{Stepped, done}
use Rattle.step_contract.specs.At.{At, tree, statement-here}

module _ {image table b : List ℕ} {t : ℕ} {w : ThreadState} {r : List ℕ} (h : At image table b t w r) where
  abbrev m : Machine
  m = machine_from b

  abbrev here : List ℕ
  here = record_at image w.label.0

  -- the thread at a label, with its registers
  abbrev pub moved_to : ℕ → Machine
  moved_to l = with_job m t w.locks (keeping w (job l (returns_of w) (registers_of w)))

  pub skipped : {l : ℕ} {b' : List ℕ} {a : Answer} → statement_of r ≡ Skip → l ≡ label_a r → a ≡ Moved → Encodes b' (moved_to l)
      → Stepped image table b t b' a
  skipped e q f k =
      done (moved_to (label_a here)) Moved
      (law.skips image table m t w.locks (job_of w) (tree h).0 h.runs (tree h).1 (statement-here h Skip e)) f
      (rw (q ∙ ap label_a h.here) at k)
