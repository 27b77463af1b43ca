use Rattle.bytes_fields.specs.Tests.{Searching}
use Rattle.lemmas_encoding.specs.FirstTree.{elsewhere}
use Rattle.state_trees.proofs.list.first_tree.Given as goal

abbrev pub invariant-loop-i : goal.invariant-loop-i
invariant-loop-i l = Searching (elsewhere l.state l.thread) l.n l.i
