use Rattle.std.proofs.Common.{◌≡◌, ℕ, ◌<◌, false, ◌&&◌, get_or, Fits, w8, refl, sym, ap, ◌∙◌, arith, rules}
use Rattle.rules.specs.Image.{opcode, label_a, label_b}
use Rattle.check_record.specs.Forms.{outline_ok}
use Rattle.check_record.specs.Tests.{stores_ok}
use Rattle.check_record.proofs.Allowed.{far-a, far-b, far-opcode, opcode-allowed, counted-allowed}
use Rattle.check_record.proofs.Rules.{rule}
use Rattle.check_record.proofs.rule.rule_ok.Goals as goal
use Rattle.check_record.proofs.rule.rule_ok.Goals.{After-unwrap-r, After-from-a, After-from-b, After-row_ok}

-- the record as an array
same : (c : After-unwrap-r) → c.unwrap-r.result.now ≡ c.args.r.now
same c = search rules

bytes : (c : After-unwrap-r) → (i : ℕ) → get_or c.args.r.now i 0 < 256
bytes c i =
    let f : Fits w8 (get_or c.unwrap-r.result.now i 0) = search rules in
    rw (← same c) (omega (arith, f))

-- the numbers of the two labels
a-is : (c : After-from-a) → c.from-a.result ≡ label_a c.args.r.now
a-is c = c.from-a.ensures ∙ c.label_number.ensures ∙ ap (λ l. l.0) c.label_a.ensures
    ∙ ap label_a (same (goal.at.After-from-a c).After-unwrap-r)

b-is : (c : After-from-b) → c.from-b.result ≡ label_b c.args.r.now
b-is c = c.from-b.ensures ∙ c.label_number-2.ensures ∙ ap (λ l. l.0) c.label_b.ensures
    ∙ ap label_b (same (goal.at.After-from-b c).After-unwrap-r)

pub returns-then-n-a : goal.returns-then-n-a
returns-then-n-a c =
    let a = a-is (goal.at.returns-then-n-a c).After-from-a in
    let bad = far-a c.args.image.now c.args.r.now c.requires.2 (omega arith) (omega (arith, a)) in
    rw (rule c.args.image.now c.args.r.now, bad) refl

pub returns-then-n-b : goal.returns-then-n-b
returns-then-n-b c =
    let b = b-is (goal.at.returns-then-n-b c).After-from-b in
    let bad = far-b c.args.image.now c.args.r.now c.requires.2 (omega arith) (omega (arith, b)) in
    rw (rule c.args.image.now c.args.r.now, bad) refl

pub returns-then-op-gt-DECIMAL_ADD : goal.returns-then-op-gt-DECIMAL_ADD
returns-then-op-gt-DECIMAL_ADD c =
    let e = same (goal.at.returns-then-op-gt-DECIMAL_ADD c).After-unwrap-r in
    let bad = far-opcode c.args.image.now c.args.r.now c.requires.2 (omega arith) (λ i. omega (arith, c.type_inv.r i))
    (rw e at c.if-op-gt-DECIMAL_ADD.true) in
    rw (rule c.args.image.now c.args.r.now, bad) refl

-- what the row allows and what it asks of destinations are the outline
outlined : (c : After-row_ok)
    → (c.row_ok.result && stores_ok c.unwrap-r.result.now c.row_of-row.result.least (opcode c.unwrap-r.result.now))
    ≡ outline_ok c.args.image.now c.args.r.now
outlined c =
    let at = goal.at.After-row_ok c in
    rw (c.row_ok.ensures, c.row_of-row.ensures, same at.After-unwrap-r)
    (opcode-allowed c.args.image.now c.args.r.now c.requires.2 (omega arith) (bytes at.After-unwrap-r)
    (λ i. omega (arith, c.type_inv.image i)) (omega (arith, a-is at.After-from-a)) (omega (arith, b-is at.After-from-b)))

pub returns-then-not-row_ok : goal.returns-then-not-row_ok
returns-then-not-row_ok c =
    let bad : outline_ok c.args.image.now c.args.r.now ≡ false =
    rw c.if-not-row_ok.true at (sym (outlined (goal.at.returns-then-not-row_ok c).After-row_ok)) in
    rw (rule c.args.image.now c.args.r.now, bad) refl

pub operands_ok-requires : goal.operands_ok-requires
operands_ok-requires c =
    let at = goal.at.operands_ok-requires c in
    let good = rw (c.row_of-row.ensures, same at.After-unwrap-r) at (sym c.row_ok.ensures ∙ c.if-not-row_ok.false) in
    rw (c.row_of-row.ensures, same at.After-unwrap-r)
    (counted-allowed c.args.image.now c.args.r.now c.requires.2 (omega arith) (bytes at.After-unwrap-r)
    (λ i. omega (arith, c.type_inv.image i)) (omega (arith, a-is at.After-from-a)) (omega (arith, b-is at.After-from-b)) good)

pub returns : goal.returns
returns c =
    let at = goal.at.returns c in
    let good = rw c.if-not-row_ok.false at (outlined at.After-row_ok) in
    rw (rule c.args.image.now c.args.r.now, ← good, ← same at.After-unwrap-r) c.operands_ok.ensures
