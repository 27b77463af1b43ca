use lib.ListN.{drop}
use Rattle.bytes_fields.specs.Pieces.{Tested}
use Rattle.check_threads.specs.Places.{return_ok}
use Rattle.check_threads.proofs.places_ok.Given as goal

abbrev pub invariant-loop-k : goal.invariant-loop-k
invariant-loop-k l = Tested l.initial.ok (return_ok l.image l.table l.t.0 (drop l.at l.s)) l.returns l.k l.ok
