use Rattle.std.proofs.Common.{ℕ, Fits, w8, get_or, ◌≡◌, eqb, sym, refl, ◌∙◌, arith, rules, eq-eqb, ne_eqb}
use Rattle.rules.specs.Bytes.{all_from}
use Rattle.rules.specs.Check.{operand_slot_ok}
use Rattle.bytes_fields.specs.Runs.{all_split}
use Rattle.check_operands.proofs.Places.{first_run, rest}
use Rattle.check_operands.proofs.runs.few_ok.Goals as goal
use Rattle.check_operands.proofs.runs.few_ok.Goals.{After-wrong_run}

-- the first run is good exactly if the first five places are
first : (c : After-wrong_run) → eqb c.wrong_run.result 0 ≡ all_from (operand_slot_ok c.args.r.now) 0 5
first c =
    let byte : (i : ℕ) → Fits w8 (get_or c.args.r.now i 0) = λ i. search rules in
    c.wrong_run.ensures ∙ rw c.end_of-end.ensures (first_run c.args.r.now (λ i. omega (arith, byte i)) _ refl)

pub returns-then-wrong_run-ne0 : goal.returns-then-wrong_run-ne0
returns-then-wrong_run-ne0 c =
    let bad = sym (first (goal.at.returns-then-wrong_run-ne0 c).After-wrong_run) ∙ ne_eqb _ 0 c.if-wrong_run-ne0.true in
    rw (all_split (operand_slot_ok c.args.r.now) 0 5 20, bad) refl

pub returns : goal.returns
returns c =
    let good = sym (first (goal.at.returns c).After-wrong_run) ∙ eq-eqb _ 0 c.if-wrong_run-ne0.false in
    c.all_zero.ensures
    ∙ rest c.args.r.now 5 (omega arith) (omega (arith, c.requires)) (omega arith)
    ∙ sym (all_split (operand_slot_ok c.args.r.now) 0 5 20 ∙ rw good refl)
