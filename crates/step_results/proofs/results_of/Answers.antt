use mathlib.Core.Path.{◌≡◌, refl, ◌∙◌}
use mathlib.Core.List.{List}
use Prim.Native.Nat.{ℕ, ◌+◌, ◌<◌}
use native.Mathlib.Omega.{arith}
use lib.ListN.{length}
use Rattle.rules.specs.Sizes.{thread_count, operand_count, state_size}
use Rattle.rules.specs.Statements.{operand_at, optional, shape, destinations, assignment_of}
use Rattle.rules.specs.declared.statement.Operation.{Operation}
use Rattle.rules.specs.declared.statement.Assignment.{Assignment}
use Rattle.state_thread.specs.declared.thread.ThreadState.{ThreadState}
use Rattle.rules.specs.declared.statement.Operation.TheVariants.{Copy, Add, Subtract, Multiply, Divide, Pack, Unpack, DecimalAdd}
use Rattle.lemmas_encoding.specs.Slots.{registers_in}
use Rattle.step_operands.specs.Legal.{Fits, Readable}
use Rattle.step_operands.specs.Cells.{cells_of}
use Rattle.step_results.specs.Reading.{sources-fit, worked-out}
use Rattle.step_results.proofs.results_of.Goals as goal

-- what an arm asks of its sources, which stand from place k on
asked : (state r : List ℕ) (t : ℕ) (w : ThreadState) (a : Assignment) (o : Operation) (k : ℕ) → a.operation ≡ o → destinations (shape o) ≡ k
    → (length state ≡ state_size) × Readable r × Fits a.left × Fits a.right × (t < thread_count)
    × (w.registers ≡ registers_in state t) × (a ≡ assignment_of a.operation r)
    → k + 1 < operand_count
    → (length state ≡ state_size) × Readable r × (k + 1 < operand_count)
    × Fits (operand_at r k) × Fits (optional (shape o).right r (k + 1)) × (t < thread_count)
    × (w.registers ≡ registers_in state t)
asked state r t w a o k by n p l =
    let f = sources-fit a r o k p.6 by n p.2 p.3 in
    (p.0, p.1, l, f.0, f.1, p.4, p.5)

pub work_out-requires : goal.work_out-requires
work_out-requires c =
    asked c.args.state.now c.args.r.now c.args.t.0 c.args.w c.args.a Copy 1 c.in-Copy.is refl c.requires (omega arith)

pub work_out-requires-in-Add : goal.work_out-requires-in-Add
work_out-requires-in-Add c =
    asked c.args.state.now c.args.r.now c.args.t.0 c.args.w c.args.a Add 1 c.in-Add.is refl c.requires (omega arith)

pub work_out-requires-in-Subtract : goal.work_out-requires-in-Subtract
work_out-requires-in-Subtract c =
    asked c.args.state.now c.args.r.now c.args.t.0 c.args.w c.args.a Subtract 1 c.in-Subtract.is refl c.requires (omega arith)

pub work_out-requires-in-Multiply : goal.work_out-requires-in-Multiply
work_out-requires-in-Multiply c =
    asked c.args.state.now c.args.r.now c.args.t.0 c.args.w c.args.a Multiply 1 c.in-Multiply.is refl c.requires (omega arith)

pub work_out-requires-in-Divide : goal.work_out-requires-in-Divide
work_out-requires-in-Divide c =
    asked c.args.state.now c.args.r.now c.args.t.0 c.args.w c.args.a Divide 2 c.in-Divide.is refl c.requires (omega arith)

pub work_out-requires-in-Pack : goal.work_out-requires-in-Pack
work_out-requires-in-Pack c =
    asked c.args.state.now c.args.r.now c.args.t.0 c.args.w c.args.a Pack 1 c.in-Pack.is refl c.requires (omega arith)

pub work_out-requires-in-Unpack : goal.work_out-requires-in-Unpack
work_out-requires-in-Unpack c =
    asked c.args.state.now c.args.r.now c.args.t.0 c.args.w c.args.a Unpack 1 c.in-Unpack.is refl c.requires (omega arith)

pub work_out-requires-in-DecimalAdd : goal.work_out-requires-in-DecimalAdd
work_out-requires-in-DecimalAdd c =
    asked c.args.state.now c.args.r.now c.args.t.0 c.args.w c.args.a DecimalAdd 1 c.in-DecimalAdd.is refl c.requires (omega arith)

pub returns-in-Copy : goal.returns-in-Copy
returns-in-Copy c =
    c.work_out.ensures ∙ worked-out c.args.a c.args.r.now Copy 1 c.requires.6 c.in-Copy.is refl
    (cells_of c.args.state.now c.args.w c.args.r.now)

pub returns-in-Add : goal.returns-in-Add
returns-in-Add c =
    c.work_out-in-Add.ensures ∙ worked-out c.args.a c.args.r.now Add 1 c.requires.6 c.in-Add.is refl
    (cells_of c.args.state.now c.args.w c.args.r.now)

pub returns-in-Subtract : goal.returns-in-Subtract
returns-in-Subtract c =
    c.work_out-in-Subtract.ensures ∙ worked-out c.args.a c.args.r.now Subtract 1 c.requires.6 c.in-Subtract.is refl
    (cells_of c.args.state.now c.args.w c.args.r.now)

pub returns-in-Multiply : goal.returns-in-Multiply
returns-in-Multiply c =
    c.work_out-in-Multiply.ensures ∙ worked-out c.args.a c.args.r.now Multiply 1 c.requires.6 c.in-Multiply.is refl
    (cells_of c.args.state.now c.args.w c.args.r.now)

pub returns-in-Divide : goal.returns-in-Divide
returns-in-Divide c =
    c.work_out-in-Divide.ensures ∙ worked-out c.args.a c.args.r.now Divide 2 c.requires.6 c.in-Divide.is refl
    (cells_of c.args.state.now c.args.w c.args.r.now)

pub returns-in-Pack : goal.returns-in-Pack
returns-in-Pack c =
    c.work_out-in-Pack.ensures ∙ worked-out c.args.a c.args.r.now Pack 1 c.requires.6 c.in-Pack.is refl
    (cells_of c.args.state.now c.args.w c.args.r.now)

pub returns-in-Unpack : goal.returns-in-Unpack
returns-in-Unpack c =
    c.work_out-in-Unpack.ensures ∙ worked-out c.args.a c.args.r.now Unpack 1 c.requires.6 c.in-Unpack.is refl
    (cells_of c.args.state.now c.args.w c.args.r.now)

pub returns-in-DecimalAdd : goal.returns-in-DecimalAdd
returns-in-DecimalAdd c =
    c.work_out-in-DecimalAdd.ensures ∙ worked-out c.args.a c.args.r.now DecimalAdd 1 c.requires.6 c.in-DecimalAdd.is refl
    (cells_of c.args.state.now c.args.w c.args.r.now)
