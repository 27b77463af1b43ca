-- What a statement of a checked image leaves is within the limits.
use Rattle.std.specs.Prelude.{List, ℕ}
use Rattle.std.specs.Prelude.{◌<◌, length}
use Rattle.rules.specs.Sizes.{held_count, pending_count}
use Rattle.rules.specs.Image.{labels, record_at, label_a, label_b, operands, Row, row_at}
use Rattle.rules.specs.Statements.{statement_of, data_of}
use Rattle.rules.specs.Machine.{Job}
use Rattle.rules.specs.Effects.{Got, trap, got}
use Rattle.rules.specs.Effects.{Outcome, ends, goes, outcome}
use Rattle.rules.specs.Steps.{signal_to, resolve}
use Rattle.rules.specs.Steps.{block_at, act_by, view}
use Rattle.lemmas_rules.specs.Passed.{Passed}
use Rattle.lemmas_encoding.specs.Sized.{SizedJob}
use Rattle.lemmas_invariant.specs.StatementLimits.{OutcomeSized, EffectSized, operands-limit, length-operands, outcome-sized, sent-sized}
use Rattle.lemmas_invariant.specs.StatementLimits.{hold-sized, steer-sized}

module _ (pending : ℕ) where
  resolve-sized : (block : ℕ → ℕ) (row : ℕ → Row) (t a b : ℕ) (j : Job) (words : List ℕ) (o : Got Outcome) → SizedJob j
      → OutcomeSized (view j words pending) o
      → EffectSized pending (resolve block row t j.returns j.held a b o)
  resolve-sized block row t a b j words (trap r) z h = tt
  resolve-sized block row t a b j words (got ends) z h = tt
  resolve-sized block row t a b j words (got (goes g)) z h =
      steer-sized pending block row t a b j.held g h.0
      (hold-sized j.held (signal_to a g.held) z.held (sent-sized held_count (length j.held) a g.held h.3))
      (sent-sized pending_count pending a g.sent h.2) g.next j.returns h.1 z.returns

pub act-sized : (image table : List ℕ) → Passed image table → (t : ℕ) (j : Job) (words : List ℕ) (n : ℕ) → j.label < labels image
    → SizedJob j → EffectSized n (act_by image table t j words n)
unfolding act_by
act-sized image table ok t j words n l z =
    let r = record_at image j.label in
    resolve-sized n (block_at image) (row_at table) t (label_a r) (label_b r) j words
    (outcome (view j words n) (statement_of r) (data_of r)) z
    (outcome-sized (view j words n) (statement_of r) (data_of r) z.registers
    (rw (length-operands r 0 (operands r)) (operands-limit image table ok j.label l)))
