use Rattle.std.proofs.Common.{◌≡◌, true, get_or, drop, refl, sym, ◌∙◌}
use Rattle.rules.specs.Sizes.{block_place}
use Rattle.rules.specs.Bytes.{has}
use Rattle.rules.specs.Image.{record_at}
use Rattle.bytes_fields.specs.Marked.{clear}
use Rattle.bytes_fields.specs.Numbers.{num64}
use Rattle.check_record.specs.Tests.{summed, agrees, allows}
use Rattle.check_record.proofs.outline.row_ok.Goals as goal
use Rattle.check_record.proofs.outline.row_ok.Goals.{Else-not-sum_ok, Else-not-zeros_ok, Else-not-label_ok}

pub returns-then-not-sum_ok : goal.returns-then-not-sum_ok
unfolding allows
returns-then-not-sum_ok c = rw (← c.sum_ok.ensures, c.if-not-sum_ok.true) refl

-- the tests that are passed
sum-passed : (c : Else-not-sum_ok) → has (summed c.args.r.now) c.args.row.sums ≡ true
sum-passed c = sym c.sum_ok.ensures ∙ c.if-not-sum_ok.false

zeros-passed : (c : Else-not-zeros_ok) → clear (num64 (drop block_place c.args.r.now)) c.args.row.zeros ≡ true
zeros-passed c = sym c.zeros_ok.ensures ∙ c.if-not-zeros_ok.false

first-passed : (c : Else-not-label_ok)
    → agrees (record_at c.args.image.now c.args.a) (get_or c.args.r.now block_place 0) c.args.row.entry c.args.row.given ≡ true
first-passed c = sym c.label_ok.ensures ∙ c.if-not-label_ok.false

pub returns-then-not-zeros_ok : goal.returns-then-not-zeros_ok
unfolding allows
returns-then-not-zeros_ok c =
    let at = goal.at.returns-then-not-zeros_ok c in
    rw (sum-passed at.Else-not-sum_ok, ← c.zeros_ok.ensures, c.if-not-zeros_ok.true) refl

pub returns-then-not-label_ok : goal.returns-then-not-label_ok
unfolding allows
returns-then-not-label_ok c =
    let at = goal.at.returns-then-not-label_ok c in
    rw (
      sum-passed at.Else-not-sum_ok,
      zeros-passed at.Else-not-zeros_ok,
      ← c.requires.0,
      ← c.label_ok.ensures,
      c.if-not-label_ok.true,
    )
    refl

pub returns : goal.returns
unfolding allows
returns c =
    let at = goal.at.returns c in
    rw (
      sum-passed at.Else-not-sum_ok,
      zeros-passed at.Else-not-zeros_ok,
      ← c.requires.0,
      first-passed at.Else-not-label_ok,
      ← c.requires.1,
    )
    c.label_ok-2.ensures
