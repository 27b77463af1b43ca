-- A step of ASSIGN's kind in a list of calls: what it works out is stored, and the job goes on to A; or it traps, and nothing is stored.
use Rattle.std.specs.Prelude.{ℕ, set}
use mathlib.Core.List.{List, [], ◌∷◌}
use Rattle.rules.specs.Image.{record_at, label_a}
use Rattle.rules.specs.Statements.{operand_at}
use Rattle.rules.specs.Machine.{Job, job, with_held, running, Machine, keep}
use Rattle.rules.specs.Effects.{Got, Cells, read_all}
use Rattle.rules.specs.Steps.{block_at}
use Rattle.rules.specs.declared.statement.Operand.{Operand}
use Rattle.lemmas_step.specs.Statements.{job_cells}

-- operand i of the record at a job's label
abbrev pub operand : List ℕ → Job → ℕ → Operand
operand image j i = operand_at (record_at image j.label) i

-- operands i and k of that record, read left to right
abbrev pub sources : List ℕ → Machine → Job → ℕ → ℕ → Got (List ℕ)
sources image s j i k = read_all (job_cells image s j) (operand image j i ∷ operand image j k ∷ [])

-- the machine s where that job has left these cells and gone on to A
abbrev pub leaving : List ℕ → Machine → ℕ → ℕ → Job → Cells → Machine
leaving image s t locks j c = record {
  words = keep (block_at image j.label) c.words s.words;
  threads =
      set s.threads t (running locks (with_held j.held (job (label_a (record_at image j.label)) j.returns c.registers)));
  trees = s.trees;
}
