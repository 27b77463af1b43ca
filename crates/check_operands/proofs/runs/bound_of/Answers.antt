use Rattle.check_operands.proofs.runs.bound_of.Goals as goal

pub returns : goal.returns
returns c = rw (c.most_of.ensures, c.less_of.ensures)
