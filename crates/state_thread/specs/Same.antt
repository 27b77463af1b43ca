-- Threads that say the same are the same: the slots of a tidy thread are what its job says.
use Rattle.std.specs.Prelude.{◌≡◌, refl, List, [], ◌∷◌, map, ℕ, zero, suc, length, get_or, set, drop}
use Rattle.std.proofs.Common.{sym, ap, ◌∙◌, arith, length-take-le}
use Rattle.std.proofs.Math.Option.{Option, some}
use Rattle.rules.specs.Sorts.{label}
use Rattle.rules.specs.Sizes.{return_count}
use Rattle.rules.specs.Bytes.{pad}
use Rattle.rules.specs.Machine.{Job}
use Rattle.rules.specs.Encoding.{value_or0, presence}
use Rattle.bytes_fields.specs.Blocks.{pad-full}
use Rattle.state_thread.specs.Held.{same-held}
use Rattle.state_thread.specs.Threads.{job_of, returns_of, registers_of, signals_of, Tidy, Runs, runs-fields}
use Rattle.state_thread.specs.Records.{padded, present-is, values-are}
use Rattle.state_thread.specs.declared.thread.ThreadState.{ThreadState}

values-set : (l : List (Option ℕ)) (k v : ℕ) → map value_or0 (set l k (some v)) ≡ set (map value_or0 l) k v
values-set [] k v = refl
values-set (x ∷ l) zero v = refl
values-set (x ∷ l) (suc k) v = ap (λ q. value_or0 x ∷ q) (values-set l k v)

module _ (w w' : ThreadState) (z : Tidy w) (z' : Tidy w') where
  pub same-returns : returns_of w' ≡ returns_of w → w'.returns ≡ w.returns
  same-returns e =
      let f = padded return_count w.depth w.returns z.returns.sized z.returns.within z.returns.unused
      ∙ pad-full 0 return_count w.returns z.returns.sized in
      let f' = padded return_count w'.depth w'.returns z'.returns.sized z'.returns.within z'.returns.unused
      ∙ pad-full 0 return_count w'.returns z'.returns.sized in
      sym f' ∙ ap (pad 0 return_count) e ∙ f

  pub same-registers : registers_of w' ≡ registers_of w → (w'.present ≡ w.present) × (w'.registers ≡ w.registers)
  same-registers e = (
    sym (present-is w' z') ∙ ap presence e ∙ present-is w z,
    sym (values-are w' z') ∙ ap (map value_or0) e ∙ values-are w z,
  )

  pub same-signals : signals_of w' ≡ signals_of w → (w'.held ≡ w.held) × (w'.signals ≡ w.signals)
  same-signals e =
      let f : w'.held ∷ w'.signals ≡ w.held ∷ w.signals = same-held z'.held z.held e in
      (ap (λ l. get_or l 0 0) f, ap (drop 1) f)

  pub set-registers : (k v : ℕ) → registers_of w' ≡ set (registers_of w) k (some v) → w'.registers ≡ set w.registers k v
  set-registers k v e = sym (values-are w' z') ∙ ap (map value_or0) e ∙ values-set (registers_of w) k v
      ∙ ap (λ l. set l k v) (values-are w z)

-- as many return labels as are counted
pub returns-counted : (w : ThreadState) → Tidy w → length (returns_of w) ≡ w.depth
returns-counted w z = length-take-le w.depth w.returns (omega (arith, z.returns.sized, z.returns.within))

-- two threads that run the same job with the same locks are the same
pub same-thread : {w w' : ThreadState} {locks : ℕ} {j : Job} → Runs w locks j → Runs w' locks j → w' ≡ w
same-thread {w} {w'} r r' =
    let f = runs-fields r in
    let f' = runs-fields r' in
    let z = r.running.tidy in
    let z' = r'.running.tidy in
    let job : job_of w' ≡ job_of w = f'.1 ∙ sym f.1 in
    let depth : w'.depth ≡ w.depth = sym (returns-counted w' z') ∙ ap (λ (q : Job). length q.returns) job ∙ returns-counted w z in
    let registers = same-registers w w' z z' (ap (λ (q : Job). q.registers) job) in
    let signals = same-signals w w' z z' (ap (λ (q : Job). q.held) job) in
    λ i. record {
      label = label (ap (λ (q : Job). q.label) job i);
      locks = (f'.0 ∙ sym f.0) i;
      depth = depth i;
      returns = same-returns w w' z z' (ap (λ (q : Job). q.returns) job) i;
      present = registers.0 i;
      registers = registers.1 i;
      held = signals.0 i;
      signals = signals.1 i;
    }
