-- A statement of ASSIGN's kind, where a running thread comes to it.
use Rattle.std.specs.Prelude.{◌≡◌, refl, List, ℕ}
use Rattle.std.proofs.Common.{subst}
use Rattle.rules.specs.Image.{record_at}
use Rattle.rules.specs.Statements.{statement_of}
use Rattle.rules.specs.Effects.{Got, trap, got, Cells, Results}
use Rattle.rules.specs.Encoding.{machine_from}
use Rattle.rules.specs.Steps.{rules_by, finished}
use Rattle.rules.specs.declared.answer.Answer.{Answer}
use Rattle.rules.specs.declared.answer.Answer.TheVariants.{Moved, Trapped}
use Rattle.rules.specs.declared.statement.Assignment.{Assignment}
use Rattle.rules.specs.declared.statement.Statement.TheVariants.{Assign}
use Rattle.lemmas_encoding.specs.Encoded.{Encodes}
use Rattle.lemmas_step.specs.Statements as law
use Rattle.state_thread.specs.Threads.{job_of}
use Rattle.state_thread.specs.declared.thread.ThreadState.{ThreadState}
use Rattle.step_operands.specs.Cells.{cells_of}
use Rattle.step_contract.specs.Ready.{Stepped, Ended, done}
use Rattle.step_contract.specs.At.{At, tree, statement-here, law_cells, cells-here}
use Rattle.step_store.specs.Destinations.{landed}

module _ {image table b : List ℕ} {t : ℕ} {w : ThreadState} {r : List ℕ} (h : At image table b t w r) (a : Assignment)
    (e : statement_of r ≡ Assign a) where
  -- what the assignment works out, from the law's cells
  results-here : (g : Got Results) → law.results (cells_of b w r) a ≡ g → law.results (law_cells h) a ≡ g
  results-here g c = subst (λ (q : Cells). law.results q a ≡ g) (cells-here h) c

  pub unworked : {reason : ℕ} {b' : List ℕ} {z : Answer} → law.results (cells_of b w r) a ≡ trap reason → z ≡ Trapped reason
      → Ended image table b t b' → Stepped image table b t b' z
  unworked {reason} c f k =
      done (finished (rules_by image table) t (machine_from b)) (Trapped reason)
      (law.unworked image table (machine_from b) t w.locks (job_of w) (tree h).0 h.runs (tree h).1 a
      (statement-here h (Assign a) e) reason (results-here _ c)) f k

  pub assigned-stepped : (u v : ℕ) {b' : List ℕ} → law.results (cells_of b w r) a ≡ got (record { first = u; second = v })
      → Encodes b' (landed (machine_from b) t w r a u v) → Stepped image table b t b' Moved
  assigned-stepped u v {b'} c k =
      done (landed (machine_from b) t w (record_at image w.label.0) a u v) Moved
      (law.assigns image table (machine_from b) t w.locks (job_of w) (tree h).0 h.runs (tree h).1 a
      (statement-here h (Assign a) e) (record { first = u; second = v }) (results-here _ c)) refl
      (subst (λ (q : List ℕ). Encodes b' (landed (machine_from b) t w q a u v)) h.here k)
