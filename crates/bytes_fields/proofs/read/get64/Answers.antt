use mathlib.Core.Path.{◌∙◌}
use Rattle.bytes_fields.specs.Numbers.{num64-drop}
use Rattle.bytes_fields.proofs.read.get64.Goals as goal

pub returns : goal.returns
returns c = rw num64-drop (c.join64.ensures ∙ cc)
