use mathlib.Core.Path.{◌∙◌}
use Rattle.bytes_fields.specs.Numbers.{num32-drop}
use Rattle.bytes_fields.proofs.read.get32.Goals as goal

pub returns : goal.returns
returns c = rw num32-drop (c.join32.ensures ∙ cc)
