use mathlib.Core.Path.{refl}
use Rattle.check_record.proofs.rule.operands_ok.Goals as goal

pub returns-then-c-eq0 : goal.returns-then-c-eq0
returns-then-c-eq0 c =
    rw (c.requires.1.0 c.if-c-eq0.true) c.none_ok.ensures

pub returns-then-c-gt-FEW : goal.returns-then-c-gt-FEW
returns-then-c-gt-FEW c =
    rw (c.requires.1.1 c.if-c-gt-FEW.true) c.many_ok.ensures

pub returns-then-not-stores_ok : goal.returns-then-not-stores_ok
returns-then-not-stores_ok c = rw (← c.stores_ok.ensures, c.if-not-stores_ok.true) refl

pub returns : goal.returns
returns c =
    rw (← c.stores_ok.ensures, c.if-not-stores_ok.false) c.few_ok.ensures
