-- What the law gives, by what the code answers: its value, or a trap by the number of its reason.
use Rattle.std.specs.Prelude.{◌≡◌, Result, Ok, Err, IsErrAnd}
use Rattle.std.proofs.Common.{ap}
use Rattle.rules.specs.Traps.{reason}
use Rattle.rules.specs.Effects.{Got, trap, got}
use Rattle.rules.specs.declared.trap.Trap.{Trap}

module _ {A B : Type 0} (f : A → B) where
  abbrev pub as_got : Result A Trap → Got B
  as_got (Ok x) = got (f x)
  as_got (Err t) = trap (reason t)

  -- a trap handed on by `?`
  pub handed-on : (r : Result A Trap) (t : Trap) → IsErrAnd r (λ u. u ≡ t) → as_got r ≡ trap (reason t)
  handed-on (Ok x) t e = absurd e
  handed-on (Err u) t e = ap (λ z. trap (reason z)) e
