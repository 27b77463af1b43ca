use Rattle.run_answer.proofs.write_answer.Goals as goal

pub returns : goal.returns
returns c = rw c.from.ensures at c.put16.ensures
