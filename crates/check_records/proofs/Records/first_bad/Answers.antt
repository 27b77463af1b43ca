use Rattle.std.specs.Prelude.{not}
use Rattle.std.proofs.Common.{ap}
use mathlib.Core.Path.{◌≡◌, refl, ◌∙◌}
use native.Mathlib.Omega.{arith}
use Rattle.rules.specs.Check.{record_ok}
use Rattle.bytes_fields.specs.Tests.{next, here, none}
use Rattle.image_record.specs.Records.{labels-small, record-fits, record-taken}
use Rattle.check_records.specs.BadRecord.{record_found, no_bad_record}
use Rattle.check_records.proofs.Records.first_bad.Goals as goal
use Rattle.check_records.proofs.Records.first_bad.Goals.{After-rule_ok}

pub overflow_mul-at : goal.overflow_mul-at
overflow_mul-at c = omega (arith, labels-small c.args.self.now.image.now)

pub overflow_add-r : goal.overflow_add-r
overflow_add-r c = omega (arith, labels-small c.args.self.now.image.now)

pub slice_bounds-r-end : goal.slice_bounds-r-end
slice_bounds-r-end c = omega (arith, record-fits c.args.self.now.image.now c.loop-l.l (omega arith))

pub overflow_cast-l : goal.overflow_cast-l
overflow_cast-l c = omega (arith, labels-small c.args.self.now.image.now)

-- what is tested is the record at l
own : (c : After-rule_ok) → c.rule_ok.result ≡ record_ok c.args.self.now.image.now c.loop-l.l
unfolding record_ok
own c = c.rule_ok.ensures ∙ rw (record-taken c.args.self.now.image.now c.loop-l.l (omega arith)) refl

pub returns-then-not-rule_ok : goal.returns-then-not-rule_ok
returns-then-not-rule_ok c =
    let r = c.args.self.now in
    let l = c.loop-l in
    rw c.from.ensures
    (record_found r.image.now l.l (omega arith)
    (rw r.counted at (here (record_ok r.image.now) r.count l.l l.invariant _ c.loop-l-test.true
    (own (goal.at.returns-then-not-rule_ok c).After-rule_ok) (ap not c.if-not-rule_ok.true))))

pub loop-l-preserved : goal.loop-l-preserved
loop-l-preserved c =
    let r = c.args.self.now in
    next (record_ok r.image.now) r.count c.loop-l.l c.loop-l.invariant _ c.loop-l-test.true
    (own (goal.at.loop-l-preserved c).After-rule_ok) (ap not c.if-not-rule_ok.false)

pub returns : goal.returns
returns c =
    let r = c.args.self.now in
    let e = none (record_ok r.image.now) r.count c.loop-l.l c.loop-l.invariant c.loop-l-test.false in
    let all : c.loop-l.l ≡ r.count = omega arith in
    no_bad_record r.image.now (rw (all, r.counted) at e)
