-- What an opcode of ASSIGN's kind works out, as the code has it.
use Rattle.std.specs.Prelude.{Some, None}
use Rattle.std.specs.Prelude.{Option as Answer}
use Rattle.std.proofs.Math.Option.{Option, none, some}

abbrev pub option_of : {A : Type 0} → Option A → Answer A
option_of none = None
option_of (some x) = Some x
