use mathlib.Core.Path.{◌≡◌, refl, sym, ap, ◌∙◌}
use mathlib.Core.Bool.{true, false}
use mathlib.Core.List.{List}
use Prim.Native.Nat.{ℕ}
use borrow.Author.Rules.{rules}
use borrow.Author.Tests.{eq-eqb, ne_eqb}
use lib.Dec.{eqb}
use Rattle.rules.specs.Sizes.{idle_label}
use Rattle.rules.specs.declared.sorts.Label.{Label}
use Rattle.step_contract.specs.Ready.{thread_in}
use Rattle.step_contract.specs.At.{at_rest, at, label_inside}
use Rattle.step_dispatch.proofs.step.Goals as goal

-- whether the thread in the state is idle, by its label, which is read by itself first
module _ (b : List ℕ) (t : ℕ) {l : Label} {n : ℕ} (e : n ≡ l.0) (f : l ≡ (thread_in b t).label) where
  number : n ≡ (thread_in b t).label.0
  number = e ∙ ap (λ (x : Label). x.0) f

  rests : n ≡ idle_label → eqb (thread_in b t).label.0 idle_label ≡ true
  rests k = eq-eqb _ _ (sym number ∙ k)

  runs : (n ≡ idle_label → ⊥) → eqb (thread_in b t).label.0 idle_label ≡ false
  runs k = ne_eqb _ _ (λ x. k (number ∙ x))

pub start-requires : goal.start-requires
start-requires c =
    let b = c.args.state.now in
    let t = c.args.t.0 in
    let rest = rests b t c.label_number.ensures c.read_label-label.ensures c.if-label_number.true in
    (c.requires.0, c.requires.1, c.read_thread.ensures, at_rest c.requires.0 t (thread_in b t) c.requires.1 refl rest)

-- its label is below n
pub record_of-requires : goal.record_of-requires
record_of-requires c =
    let b = c.args.state.now in
    let t = c.args.t.0 in
    rw c.read_label-label.ensures
    (label_inside c.requires.0 t (thread_in b t) c.requires.1 refl
    (runs b t c.label_number.ensures c.read_label-label.ensures c.if-label_number.false))

pub carry_out-requires : goal.carry_out-requires
carry_out-requires c =
    let b = c.args.state.now in
    let t = c.args.t.0 in
    at c.requires.0 t (thread_in b t) c.requires.1 refl (runs b t c.label_number.ensures c.read_label-label.ensures c.if-label_number.false)
    (rw c.read_label-label.ensures at c.record_of.ensures.0)
