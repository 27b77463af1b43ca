use lib.Seq.{get_or-drop}
use native.Mathlib.Nat.{add-zero}
use Rattle.rules.specs.Bytes.{num16}
use Rattle.bytes_fields.proofs.read.get16.Goals as goal

pub returns : goal.returns
unfolding num16
returns c = rw (get_or-drop, get_or-drop, add-zero) c.join16.ensures
