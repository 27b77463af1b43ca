-- What is shown by where a statement leads: it speaks of no label that it does not use, and uses each by its role.
use Rattle.std.specs.Prelude.{◌≡◌, refl, ◌⊎◌, Bool, true, false, List, ℕ}
use Rattle.std.proofs.Common.{inl, inr}
use Rattle.std.proofs.Math.Option.{Option, none, some}
use Rattle.rules.specs.Statements.{Way, following, branching, transferring, entering, posting, founding, calling, returning, ending, way}
use Rattle.rules.specs.Statements.{way_a, way_b, role_a, role_b, reads}
use Rattle.rules.specs.Effects.{Got, trap, got, then, unless, Cells, read_all, Next, on_a, on_b, into_a, call_a, back, Outcome, ends, goes}
use Rattle.rules.specs.Effects.{View, leave, overflow, worked, chosen, perform, outcome}
use Rattle.rules.specs.declared.statement.Operand.{Operand}
use Rattle.rules.specs.declared.statement.Role.{Role}
use Rattle.rules.specs.declared.statement.Role.TheVariants.{Inner, Direct, Local, Buffered}
use Rattle.rules.specs.declared.statement.Statement.{Statement}

-- given the roles of A and B: where it leads
abbrev pub Leads : Role → Role → Next → Type 0
Leads x y on_a = (x ≡ Inner) ⊎ (x ≡ Local)
Leads x y on_b = y ≡ Inner
Leads x y into_a = x ≡ Direct
Leads x y call_a = (x ≡ Direct) × (y ≡ Inner)
Leads x y back = Unit {0}

-- and what it sends to A, for the job's own tree or to hold for a new one
abbrev pub Sends : Role → Option (List ℕ) → Type 0
Sends x none = Unit {0}
Sends x (some vs) = x ≡ Buffered

abbrev pub Refers : Role → Role → Got Outcome → Type 0
Refers x y (trap r) = Unit {0}
Refers x y (got ends) = Unit {0}
Refers x y (got (goes g)) = Leads x y g.next × Sends x g.sent × Sends x g.held

module _ (x y : Role) where
  unless-refers : (c : Option ℕ) (o : Got Outcome) → Refers x y o → Refers x y (unless c o)
  unless-refers none o h = h
  unless-refers (some r) o h = tt

  then-refers : {A : Type 0} (o : Got A) (f : A → Got Outcome) → ((a : A) → Refers x y (f a)) → Refers x y (then o f)
  then-refers (trap r) f h = tt
  then-refers (got a) f h = h a

leave-refers : (w : Way) (c : Bool) (vs : List ℕ) (d : Cells) → Refers (way_a w) (way_b w) (got (leave w c vs d))
leave-refers following c vs d = (inl refl, tt, tt)
leave-refers branching true vs d = (inl refl, tt, tt)
leave-refers branching false vs d = (refl, tt, tt)
leave-refers transferring c vs d = (inr refl, tt, tt)
leave-refers entering c vs d = (refl, tt, tt)
leave-refers posting c vs d = (refl, refl, tt)
leave-refers founding c vs d = (refl, tt, refl)
leave-refers calling c vs d = ((refl, refl), tt, tt)
leave-refers returning c vs d = (tt, tt, tt)
leave-refers ending c vs d = tt

perform-refers : (v : View) (s : Statement) (vs : List ℕ) → Refers (role_a s) (role_b s) (perform v s vs)
unfolding perform
perform-refers v s vs =
    unless-refers (role_a s) (role_b s) (overflow v s) _
    (then-refers (role_a s) (role_b s) (worked s vs v.cells) _ (λ c. leave-refers (way s) (chosen s vs) vs c))

pub refers : (v : View) (s : Statement) (given : List Operand) → Refers (role_a s) (role_b s) (outcome v s given)
unfolding outcome
refers v s given = then-refers _ _ (read_all v.cells (reads s given)) _ (λ vs. perform-refers v s vs)
