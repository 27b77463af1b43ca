-- What runs of stores into the pending signals of a tree leave: the bytes are a machine's again, and which machine.
use Rattle.std.specs.Prelude.{◌≡◌, List, [], ◌∷◌, ◌++◌, ℕ, ◌+◌, ◌*◌, ◌-◌, ◌≤◌, ◌<◌, length, get_or, drop, replicate}
use Rattle.std.proofs.Math.Path.{ap}
use Rattle.std.proofs.Common.{◌∙◌}
use Rattle.rules.specs.Sizes.{pending_count, signal_size, tree_size, trees_place}
use Rattle.rules.specs.Bytes.{num16, part}
use Rattle.rules.specs.Machine.{Signal}
use Rattle.rules.specs.Encoding.{no_signal, signal_bytes, signal_from, machine_from}
use Rattle.bytes_fields.specs.Put.{put}
use Rattle.bytes_fields.specs.Each.{each_at}
use Rattle.lemmas_encoding.specs.Sized.{SizedSignal}
use Rattle.lemmas_encoding.specs.SignalStores.{pushed, rest, signal-push, signal-take, pending-is, signal-on, signal-is}
use Rattle.lemmas_encoding.specs.FirstTree.{first_tree}
use Rattle.state_signal.specs.Signals.{signal_of, TidySignal, signal_read, read_back}
use Rattle.state_signal.specs.declared.Signal as Value
use Rattle.state_pending.specs.Canon.{Canon, tree_at, pending_at, says, canon}
use Rattle.state_pending.specs.Changes.{taken, sent, sized-at, sized_set, sized-pushed, sized-rest, set_first}

-- ---- what is read

module _ {b : List ℕ} (k : Canon b) (i : ℕ) (h : i < length (machine_from b).trees) (at : ℕ) (ea : at ≡ trees_place + tree_size * i) where
  pub pending-few : length (pending_at (machine_from b) i) ≤ pending_count
  pending-few = (sized-at (machine_from b) k.sized i h).count

  pub pending-byte : get_or b (at + 1) 0 ≡ length (pending_at (machine_from b) i)
  pending-byte = pending-is (machine_from b) i k.same k.sized.trees h at ea

  module _ (some : 0 < length (pending_at (machine_from b) i)) where
    pub label-read : num16 (drop (at + 2) b) ≡ (get_or (pending_at (machine_from b) i) 0 no_signal).label
    unfolding signal_from
    label-read = ap (λ (g : Signal). g.label) (signal-is (machine_from b) i k.same k.sized.trees h at ea k.sized.each_tree 0
        some)

    pub oldest-read : {r : Value.Signal} → r ≡ signal_read (drop (at + 2) b)
        → (signal_of r ≡ get_or (pending_at (machine_from b) i) 0 no_signal) × TidySignal r
    oldest-read e =
        let s = machine_from b in
        let g = get_or (pending_at s i) 0 no_signal in
        let z : SizedSignal g = each_at SizedSignal (pending_at s i) 0 no_signal (sized-at s k.sized i h).each some in
        let d = signal-on s i k.same k.sized.trees h at ea k.sized.each_tree 0 some in
        let f : drop (at + 2) b ≡ signal_bytes g ++ d.0 = d.1 in
        read_back g z d.0 (e ∙ ap signal_read f)

-- ---- tree i

module _ {b : List ℕ} (k : Canon b) (i : ℕ) (h : i < length (machine_from b).trees) where
  pub oldest-taken : {b₁ b₂ : List ℕ} (n at : ℕ) → n ≡ length (pending_at (machine_from b) i) → 0 < length (pending_at (machine_from b) i)
      → at ≡ trees_place + tree_size * i
      → b₁ ≡ put b (at + 2) (part b (at + 2 + signal_size) (signal_size * (n - 1)) ++ replicate signal_size 0)
      → b₂ ≡ put b₁ (at + 1) ((n - 1) ∷ [])
      → Canon b₂ × ((u : ℕ) → i ≡ first_tree u (machine_from b).trees → machine_from b₂ ≡ taken u i (machine_from b))
  oldest-taken n at en some ea e₁ e₂ =
      let s = machine_from b in
      let q = signal-take s i k.same k.sized.trees h n at en some (pending-few k i h at ea) ea e₁ e₂ in
      let z = sized_set s k.sized i h (rest (tree_at s i)) (sized-rest (tree_at s i) (sized-at s k.sized i h)) in
      (canon _ z q, λ u e. says _ z q ∙ set_first s i u e h (drop 1 (pending_at s i)))

  pub signal-pushed : {b₁ b₂ : List ℕ} (n at : ℕ) (g : Signal) → SizedSignal g → n ≡ length (pending_at (machine_from b) i)
      → length (pending_at (machine_from b) i) < pending_count
      → at ≡ trees_place + tree_size * i → b₁ ≡ put b (at + 2 + signal_size * n) (signal_bytes g) → b₂ ≡ put b₁ (at + 1) ((n + 1) ∷ [])
      → Canon b₂ × ((u : ℕ) → i ≡ first_tree u (machine_from b).trees → machine_from b₂ ≡ sent u i g (machine_from b))
  signal-pushed n at g zg en few ea e₁ e₂ =
      let s = machine_from b in
      let q = signal-push s i k.same k.sized.trees h n at g en few ea e₁ e₂ in
      let z = sized_set s k.sized i h (pushed (tree_at s i) g) (sized-pushed (tree_at s i) g (sized-at s k.sized i h) zg few) in
      (canon _ z q, λ u e. says _ z q ∙ set_first s i u e h (pending_at s i ++ g ∷ []))
