-- Bytes that are those of a machine within limits.
use Rattle.std.specs.Prelude.{◌≡◌, List, ℕ, length, get_or}
use Rattle.std.proofs.Common.{ap, ◌∙◌}
use Rattle.rules.specs.Sizes.{tree_count_place, state_size}
use Rattle.rules.specs.Machine.{Machine}
use Rattle.rules.specs.Encoding.{encode, machine_from}
use Rattle.lemmas_encoding.specs.Sized.{Sized}
use Rattle.lemmas_encoding.specs.Lengths.{length-encode}
use Rattle.lemmas_encoding.specs.Layout.{count-back}
use Rattle.lemmas_encoding.specs.Machines.{machine-back}

-- b are the bytes of the machine s. The last two follow from the first, and stand here for the arithmetic of places
pub record Encodes (b : List ℕ) (s : Machine) : Type 0 where
  pub same : b ≡ encode s
  pub sized : Sized s
  pub long : length b ≡ state_size
  pub count : get_or b tree_count_place 0 ≡ length s.trees

-- b are the bytes of the machine that they say
abbrev pub Canonical : List ℕ → Type 0
Canonical b = Encodes b (machine_from b)

pub encodes : (b : List ℕ) (s : Machine) → b ≡ encode s → Sized s → Encodes b s
encodes b s e z = record { same = e; sized = z; long = ap length e ∙ length-encode s; count = rw e (count-back s) }

module _ (b : List ℕ) (s : Machine) (h : Encodes b s) where
  pub encoded-machine : machine_from b ≡ s
  encoded-machine = ap machine_from h.same ∙ machine-back s h.sized

  pub encoded-canonical : Canonical b
  encoded-canonical = rw encoded-machine h
