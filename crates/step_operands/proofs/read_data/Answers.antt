use borrow.Author.Rules.{rules}
use mathlib.Core.Path.{◌≡◌, refl, sym, ap, ◌∙◌}
use Prim.Native.Nat.{ℕ, ◌≤◌, ◌<◌}
use native.Mathlib.Omega.{arith}
use lib.ListN.{length, length-set, take}
use Rattle.rules.specs.Sizes.{operand_count}
use Rattle.rules.specs.Image.{operands}
use Rattle.lemmas_step.specs.Got.{as_got, handed-on}
use Rattle.step_operands.specs.Legal.{slot-fits}
use Rattle.step_operands.specs.Gathered.{reads_none, reads_more, reads-trap, reads_all, stored_more}
use Rattle.step_operands.specs.Cells.{cells_of, read-here}
use Rattle.step_operands.proofs.read_data.Goals as goal

pub operand_count-requires : goal.operand_count-requires
operand_count-requires c = c.requires.1.long

pub block_field-block-requires : goal.block_field-block-requires
block_field-block-requires c = c.requires.1.long

pub loop-k-init : goal.loop-k-init
loop-k-init c =
    let a = c.args in
    (c.requires.2, reads_none (cells_of a.state.now a.w a.r.now) a.r.now c.wide-n.result a.values.now, refl)

pub read_place-requires : goal.read_place-requires
read_place-requires c =
    let p = c.requires in
    let n = c.wide-n.ensures.0 ∙ c.operand_count.ensures in
    let h : c.loop-k.k < operand_count = omega (arith, n, p.1.few) in (
      p.0,
      rw c.block_field-block.ensures p.1.block,
      p.1.long,
      h,
      slot-fits c.args.r.now p.1.slots c.loop-k.k (omega (arith, n)) h,
      p.3,
    )

pub returns-in_err-values : goal.returns-in_err-values
returns-in_err-values c =
    let a = c.args in
    let l = c.loop-k in
    let n = c.wide-n.ensures.0 ∙ c.operand_count.ensures in
    let e = read-here a.state.now a.w a.r.now a.t.0 _ (ap (λ b. b.0) c.block_field-block.ensures) c.requires.4 c.read_place.ensures
    (ap (as_got (λ v. v)) c.in_err-values.was) in
    record {
      few = c.requires.1.few;
      gives = rw n at (reads-trap (cells_of a.state.now a.w a.r.now) a.r.now c.wide-n.result l.k l.values l.invariant.1 (omega arith) _ e)
          ∙ sym (handed-on (λ _. take (operands a.r.now) l.values) _ _ c.from_residual.ensures.1);
      sized = l.invariant.0;
      rest = λ z. search rules;
    }

pub loop-k-preserved : goal.loop-k-preserved
loop-k-preserved c =
    let a = c.args in
    let l = c.loop-k in
    let v = c.in_ok-values.field-0 in
    let e = read-here a.state.now a.w a.r.now a.t.0 _ (ap (λ b. b.0) c.block_field-block.ensures) c.requires.4 c.read_place.ensures
    (ap (as_got (λ v. v)) c.in_ok-values.was) in (
      length-set l.values l.k v ∙ l.invariant.0,
      reads_more (cells_of a.state.now a.w a.r.now) a.r.now c.wide-n.result l.k l.values l.invariant.1 (omega arith) v e (omega arith),
      stored_more l.k v a.values.now l.values l.invariant.2,
    )

pub returns : goal.returns
returns c =
    let a = c.args in
    let l = c.loop-k in
    let n : c.wide-n.result ≡ operands a.r.now = c.wide-n.ensures.0 ∙ c.operand_count.ensures in
    let e : l.k ≡ operands a.r.now = omega (arith, l.invariant.1.0) in
    record {
      few = c.requires.1.few;
      gives = rw n at (reads_all (cells_of a.state.now a.w a.r.now) a.r.now c.wide-n.result l.k l.values l.invariant.1 (omega arith));
      sized = l.invariant.0;
      rest = λ z. rw e at l.invariant.2;
    }
