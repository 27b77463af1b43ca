use Rattle.rules.specs.Check.{record_ok}
use Rattle.bytes_fields.specs.Tests.{Searching}
use Rattle.check_records.proofs.Records.first_bad.Given as goal

abbrev pub invariant-loop-l : goal.invariant-loop-l
invariant-loop-l v = Searching (record_ok v.self.image.now) v.self.count v.l
