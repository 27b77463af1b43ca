-- A job writes only where it is: every block but that of its label keeps its words, whatever locks it holds.
use Rattle.std.specs.Prelude.{◌≡◌, ℕ}
use Rattle.rules.specs.Machine.{Machine, window}
use Rattle.rules.specs.Events.{Event}
use Rattle.rules.specs.Steps.{Rules, react}
use Rattle.lemmas_invariant.specs.Happens.{happens}
use Rattle.lemmas_invariant.specs.Untouched.{Elsewhere, elsewhere-kept}

module _ (R : Rules) (s : Machine) where
  pub words-elsewhere-stay : (e : Event) (b : ℕ) → Elsewhere R s e b → window b (react R s e).state.words ≡ window b s.words
  words-elsewhere-stay e b n = elsewhere-kept R s b e (react R s e) (happens R s e) n
