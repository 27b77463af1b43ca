-- Two values whose destinations are not equal are stored together: each is read where it was stored.
use Rattle.std.specs.Prelude.{◌≡◌, ◌≢◌, ℕ}
use Rattle.std.proofs.Common.{◌∙◌}
use Rattle.rules.specs.Effects.{got, Cells, read, store}
use Rattle.rules.specs.Storing.{Place, read-stored, read-other, place-stored}
use Rattle.rules.specs.declared.statement.Operand.{Operand}

module _ (c : Cells) (d e : Operand) (u v : ℕ) (differ : d ≢ e) where
  pub first-stored : Place c d → read (store e v (store d u c)) d ≡ got u
  first-stored h = read-other (store d u c) d e v differ ∙ read-stored c d u h

  pub second-stored : Place c e → read (store e v (store d u c)) e ≡ got v
  second-stored h = read-stored (store d u c) e v (place-stored c e d u h)
