use borrow.Author.Rules.{rules}
use Rattle.rules.specs.Steps.{alien}
use Rattle.step_lock.proofs.is_alien.Goals as goal

pub returns : goal.returns
unfolding alien
returns c = simp (c.ne.ensures, c.thread_at.ensures, c.kind_at.ensures)
