-- Bytes that are the encoding of the machine that they say.
use Rattle.std.specs.Prelude.{◌≡◌, List, ℕ, get_or}
use Rattle.rules.specs.Machine.{Signal, Tree, Machine}
use Rattle.rules.specs.Encoding.{no_tree, encode, machine_from}
use Rattle.lemmas_encoding.specs.Sized.{Sized}
use Rattle.lemmas_encoding.specs.Machines.{machine-back}
use Rattle.lemmas_encoding.specs.Encoded.{Canonical, encodes, encoded-canonical}

abbrev pub Canon : List ℕ → Type 0
Canon b = Canonical b

abbrev pub tree_at : Machine → ℕ → Tree
tree_at s i = get_or s.trees i no_tree

abbrev pub pending_at : Machine → ℕ → List Signal
pending_at s i = (tree_at s i).pending

-- what a run of stores leaves, where it is the encoding of a machine
module _ (s : Machine) (z : Sized s) {b : List ℕ} (e : b ≡ encode s) where
  pub says : machine_from b ≡ s
  says = rw e (machine-back s z)

  pub canon : Canon b
  canon = encoded-canonical b s (encodes b s e z)
