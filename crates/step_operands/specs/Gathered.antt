-- Operands read one after the other, left to right: what was read, and what is left to be read.
use Rattle.std.specs.Prelude.{◌≡◌, length, drop, set, replicate, Ok}
use Rattle.std.proofs.Math.Path.{refl}
use Rattle.std.proofs.Common.{sym, ap, ◌∙◌, take-append-drop, take-suc-set, drop-drop, drop-set-lt, length-take-le}
use mathlib.Core.List.{List, [], ◌∷◌, ◌++◌, append_assoc, append-nil}
use Prim.Native.Nat.{ℕ, zero, suc, ◌+◌, ◌-◌, ◌≤◌, ◌<◌}
use Rattle.std.proofs.Math.Nat.{sub-zero}
use Rattle.std.proofs.Math.Numerals.{add-one}
use native.Mathlib.Omega.{arith}
use Rattle.std.proofs.Math.ListN.{take}
use Rattle.rules.specs.Sizes.{operand_count}
use Rattle.rules.specs.Statements.{operand_at, operands_from}
use Rattle.rules.specs.Effects.{Got, trap, got, then, Cells, read, read_all}
use Rattle.bytes_fields.specs.Blocks.{pad-split}
use Rattle.state_registers.specs.Filling.{ZerosAfter}
use Rattle.step_operands.specs.Readings.{Reads}

-- values read before the others
abbrev pub prefixed : List ℕ → Got (List ℕ) → Got (List ℕ)
prefixed vs (trap r) = trap r
prefixed vs (got us) = got (vs ++ us)

prefixed-none : (g : Got (List ℕ)) → g ≡ prefixed [] g
prefixed-none (trap r) = refl
prefixed-none (got us) = refl

prefixed-more : (vs : List ℕ) (v : ℕ) (g : Got (List ℕ)) → prefixed vs (prefixed (v ∷ []) g) ≡ prefixed (vs ++ v ∷ []) g
prefixed-more vs v (trap r) = refl
prefixed-more vs v (got us) = ap got (sym (append_assoc vs (v ∷ []) us))

module _ (c : Cells) (r : List ℕ) (n : ℕ) where
  -- all n operands are the k read so far, and the rest
  abbrev pub ReadSoFar : ℕ → List ℕ → Type 0
  ReadSoFar k values = (k ≤ n) × (read_all c (operands_from r 0 n) ≡ prefixed (take k values) (read_all c (operands_from r k (n - k))))

  pub reads_none : (values : List ℕ) → ReadSoFar 0 values
  reads_none values = (omega arith, rw (sub-zero n) (prefixed-none (read_all c (operands_from r 0 n))))

  split : (k : ℕ) → k < n → operands_from r k (n - k) ≡ operand_at r k ∷ operands_from r (k + 1) (n - (k + 1))
  unfolding operands_from
  split k h = let e : n - k ≡ suc (n - (k + 1)) = omega arith in rw e refl

  after : (v : ℕ) (g : Got (List ℕ)) → then g (λ us. got (v ∷ us)) ≡ prefixed (v ∷ []) g
  after v (trap x) = refl
  after v (got us) = refl

  module _ (k : ℕ) (values : List ℕ) (inv : ReadSoFar k values) (h : k < n) where
    pub reads-trap : (x : ℕ) → read c (operand_at r k) ≡ trap x → read_all c (operands_from r 0 n) ≡ trap x
    unfolding read_all
    reads-trap x e = inv.1 ∙ rw (split k h, e) refl

    pub reads_more : (v : ℕ) → read c (operand_at r k) ≡ got v → k < length values → ReadSoFar (k + 1) (set values k v)
    unfolding read_all
    reads_more v e l =
        let rest : Got (List ℕ) = read_all c (operands_from r (k + 1) (n - (k + 1))) in
        let f : take (k + 1) (set values k v) ≡ take k values ++ v ∷ [] = rw add-one (take-suc-set values k v l) in
        (omega arith, inv.1 ∙ rw (split k h, e, after v rest, f) (prefixed-more (take k values) v rest))

  pub reads_all : (k : ℕ) (values : List ℕ) → ReadSoFar k values → n ≤ k → read_all c (operands_from r 0 n) ≡ got (take n values)
  unfolding read_all operands_from
  reads_all k values inv h =
      let e : k ≡ n = omega arith in
      let z : n - k ≡ 0 = omega arith in
      inv.1 ∙ rw (z, e, append-nil) refl

-- from place k on nothing is stored yet
abbrev pub Unstored : ℕ → List ℕ → List ℕ → Type 0
Unstored k before values = drop k values ≡ drop k before

pub stored_more : (k v : ℕ) (before values : List ℕ) → Unstored k before values → Unstored (k + 1) before (set values k v)
stored_more k v before values u =
    drop-set-lt (k + 1) values k v (omega arith) ∙ sym (drop-drop 1 k values) ∙ ap (drop 1) u ∙ drop-drop 1 k before

zeros-behind : (n k : ℕ) → n ≤ k → drop n (replicate {A = ℕ} k 0) ≡ replicate (k - n) 0
zeros-behind zero k h = let e : k ≡ k - 0 = omega arith in ap (λ m. replicate m 0) e
zeros-behind (suc n) zero h = absurd (omega arith)
zeros-behind (suc n) (suc k) h = let e : k - n ≡ suc k - suc n = omega arith in zeros-behind n k (omega arith) ∙ ap (λ m. replicate m 0) e

-- where zeros stood before, zeros stand behind the values
pub zeros-stay : {g : Got (List ℕ)} {n : ℕ} {vs : List ℕ} → Reads g (Ok tt) n (replicate operand_count 0) vs → ZerosAfter n vs
zeros-stay {g} {n} {vs} h =
    let k : length (take n vs) ≡ n = length-take-le n vs (omega (arith, h.sized, h.few)) in
    let u : drop n vs ≡ replicate (operand_count - n) 0 = h.rest refl ∙ zeros-behind n operand_count h.few in
    pad-split 0 operand_count (take n vs) (omega (arith, h.few)) ∙ rw (k, ← u) (take-append-drop n vs)
