-- The kind of an event that a byte names.
use Rattle.std.specs.Prelude.{ℕ, cond, eqb, Result, Ok, Err}
use Rattle.rules.specs.Codes.{arrival_code, step_code, cut_code}
use Rattle.rules.specs.declared.kinds.EventKind.{EventKind}
use Rattle.rules.specs.declared.kinds.EventKind.TheVariants.{Arrival, Step, Cut}
use Rattle.rules.specs.declared.kinds.UnknownKind.{UnknownKind}

abbrev pub event_kind : ℕ → Result EventKind UnknownKind
event_kind n = cond (eqb n arrival_code) (Ok Arrival) (cond (eqb n step_code) (Ok Step)
    (cond (eqb n cut_code) (Ok Cut) (Err (record { 0 = n }))))
