use mathlib.Core.Path.{◌≡◌}
use lib.ListN.{take}
use Rattle.state_registers.specs.Filling.{present_after, values_after, filled_by}
use Rattle.state_registers.proofs.Registers.fill.Given as goal

-- after i turns towards the filled registers; `after-turns` says what that is
abbrev pub invariant-loop-i : goal.invariant-loop-i
invariant-loop-i l =
    (l.present ≡ present_after l.i (filled_by (take l.count l.values)).present l.self.present)
    × (l.registers ≡ values_after l.i (filled_by (take l.count l.values)).values l.self.values)
