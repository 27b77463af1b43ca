use mathlib.Core.Path.{◌≡◌, refl, sym, ap, ◌∙◌}
use mathlib.Core.Bool.{Bool, true, false}
use mathlib.Core.List.{List}
use Prim.Native.Nat.{ℕ, ◌+◌}
use native.Mathlib.Omega.{arith}
use Rattle.rules.specs.Statements.{operand_at, optional}
use Rattle.rules.specs.declared.statement.Operand.TheVariants.{Number}
use Rattle.lemmas_step.specs.Got.{as_got, handed-on}
use Rattle.lemmas_step.specs.Reading.{pair-trap, pair-second, pair-both}
use Rattle.step_operands.specs.Readings.{both}
use Rattle.step_operands.specs.Cells.{cells_of, read-here}
use Rattle.step_operands.proofs.read_pair.Goals as goal

-- the right operand, where the statement has one and where it has none
there : (has : Bool) (r : List ℕ) (k : ℕ) → has ≡ true → optional has r k ≡ operand_at r k
unfolding optional
there has r k e = rw e refl

nowhere : (has : Bool) (r : List ℕ) (k : ℕ) → has ≡ false → optional has r k ≡ Number 0
unfolding optional
nowhere has r k e = rw e refl

pub read_place-requires : goal.read_place-requires
read_place-requires c =
    let p = c.requires in
    (p.0, rw c.block_field-block.ensures p.1.block, p.1.long, omega arith, p.3, p.5)

pub read_place-requires-2 : goal.read_place-requires-2
read_place-requires-2 c =
    let p = c.requires in
    let right = there c.args.right c.args.r.now (c.args.k + 1) c.if-not-right.false in
    (p.0, rw c.block_field-block.ensures p.1.block, p.1.long, p.2, rw right at p.4, p.5)

pub returns-in_err-left : goal.returns-in_err-left
returns-in_err-left c =
    let first = read-here c.args.state.now c.args.w c.args.r.now c.args.t.0 _ (ap (λ b. b.0) c.block_field-block.ensures) c.requires.6
    c.read_place.ensures (ap (as_got (λ v. v)) c.in_err-left.was) in
    handed-on both _ _ c.from_residual.ensures.1 ∙ sym (pair-trap _ _ _ _ first)

pub returns-then-not-right : goal.returns-then-not-right
returns-then-not-right c =
    let first = read-here c.args.state.now c.args.w c.args.r.now c.args.t.0 _ (ap (λ b. b.0) c.block_field-block.ensures) c.requires.6
    c.read_place.ensures (ap (as_got (λ v. v)) c.in_ok-left.was) in
    rw (nowhere c.args.right c.args.r.now (c.args.k + 1) c.if-not-right.true) (sym (pair-both _ _ _ _ 0 first refl))

pub returns-in_err-right : goal.returns-in_err-right
returns-in_err-right c =
    let first = read-here c.args.state.now c.args.w c.args.r.now c.args.t.0 _ (ap (λ b. b.0) c.block_field-block.ensures) c.requires.6
    c.read_place.ensures (ap (as_got (λ v. v)) c.in_ok-left.was) in
    let second = read-here c.args.state.now c.args.w c.args.r.now c.args.t.0 _ (ap (λ b. b.0) c.block_field-block.ensures) c.requires.6
    c.read_place-2.ensures (ap (as_got (λ v. v)) c.in_err-right.was) in
    rw (there c.args.right c.args.r.now (c.args.k + 1) c.if-not-right.false)
    (handed-on both _ _ c.from_residual-in_err-right.ensures.1 ∙ sym (pair-second _ _ _ _ _ first second))

pub returns : goal.returns
returns c =
    let first = read-here c.args.state.now c.args.w c.args.r.now c.args.t.0 _ (ap (λ b. b.0) c.block_field-block.ensures) c.requires.6
    c.read_place.ensures (ap (as_got (λ v. v)) c.in_ok-left.was) in
    let second = read-here c.args.state.now c.args.w c.args.r.now c.args.t.0 _ (ap (λ b. b.0) c.block_field-block.ensures) c.requires.6
    c.read_place-2.ensures (ap (as_got (λ v. v)) c.in_ok-right.was) in
    rw (there c.args.right c.args.r.now (c.args.k + 1) c.if-not-right.false) (sym (pair-both _ _ _ _ _ first second))
