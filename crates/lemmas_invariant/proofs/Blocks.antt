-- The blocks that a job needs, before and after a statement whose inner and local labels are in its own block: none is new but the one
-- whose lock it asks for.
use Rattle.std.specs.Prelude.{◌≡◌, refl, ◌⊎◌, Bool, true, false, ℕ}
use Rattle.std.proofs.Common.{sym, ap, ◌∙◌, subst, inl, inr}
use Rattle.std.proofs.Math.Option.{none, some}
use mathlib.Core.List.Memᴰ
use mathlib.Core.List.{List, [], ◌∷◌, ◌++◌, map, Memᴰ}
use Rattle.rules.specs.Image.{Row}
use Rattle.rules.specs.Statements.{role_a, role_b}
use Rattle.rules.specs.Machine.{Job}
use Rattle.rules.specs.Effects.{Got, trap, got, Next, on_a, on_b, into_a, call_a, back, Going, Outcome, ends, goes, View, outcome}
use Rattle.rules.specs.Steps.{Rules, Effect, trap_if, newest, older, alien, steer, resolve}
use Rattle.rules.specs.declared.statement.Operand.{Operand}
use Rattle.rules.specs.declared.statement.Role.{Role}
use Rattle.rules.specs.declared.statement.Role.TheVariants.{Unused, Inner, Direct, Local, Buffered}
use Rattle.rules.specs.declared.statement.Statement.{Statement}
use Rattle.lemmas_invariant.specs.Laws.{Needs, Stays}
use Rattle.lemmas_rules.specs.Roles.{Leads, Refers, refers}

module _ (R : Rules) where
  -- a label of this role, in a statement of block b
  abbrev pub Home : ℕ → Role → ℕ → Type 0
  Home b Unused a = Unit {0}
  Home b Inner a = R.block a ≡ b
  Home b Direct a = Unit {0}
  Home b Local a = R.block a ≡ b
  Home b Buffered a = Unit {0}

  home-as : (b : ℕ) (x y : Role) (a : ℕ) → Home b x a → x ≡ y → Home b y a
  home-as b x y a h e = subst (λ (z : Role). Home b z a) e h

  home-A : (b : ℕ) (x : Role) (a : ℕ) → Home b x a → (x ≡ Inner) ⊎ (x ≡ Local) → R.block a ≡ b
  home-A b x a h (inl e) = home-as b x Inner a h e
  home-A b x a h (inr e) = home-as b x Local a h e

  trap-stays : (j : Job) (c : Bool) (r : ℕ) (e : Effect) → Stays R j e → Stays R j (trap_if c r e)
  trap-stays j true r e h = tt
  trap-stays j false r e h = h

  -- on to a label of its own block
  on-home : (j : Job) (a : ℕ) → R.block a ≡ R.block j.label → (b : ℕ) → Memᴰ b (map R.block (a ∷ j.returns))
      → Needs R j b ⊎ (none ≡ some b)
  on-home j a q b (Memᴰ.head e) = inl (Memᴰ.head (e ∙ q))
  on-home j a q b (Memᴰ.tail m) = inl (Memᴰ.tail m)

  -- into the block of a direct signal, whose lock it asks for
  into-other : (j : Job) (a b : ℕ) → Memᴰ b (map R.block (a ∷ j.returns)) → Needs R j b ⊎ (some (R.block a) ≡ some b)
  into-other j a b (Memᴰ.head e) = inr (ap some (sym e))
  into-other j a b (Memᴰ.tail m) = inl (Memᴰ.tail m)

  -- and so with a return label in its own block
  mem-snoc : (l : List ℕ) (a b : ℕ) → Memᴰ b (map R.block (l ++ a ∷ [])) → Memᴰ b (map R.block l) ⊎ (b ≡ R.block a)
  mem-snoc [] a b m = inr (Memᴰ.eq_of_singleton m)
  mem-snoc (x ∷ l) a b (Memᴰ.head e) = inl (Memᴰ.head e)
  mem-snoc (x ∷ l) a b (Memᴰ.tail m) = case (mem-snoc l a b m)
    where
      case : Memᴰ b (map R.block l) ⊎ (b ≡ R.block a) → Memᴰ b (map R.block (x ∷ l)) ⊎ (b ≡ R.block a)
      case (inl h) = inl (Memᴰ.tail h)
      case (inr h) = inr h

  calls-other : (j : Job) (a c : ℕ) → R.block c ≡ R.block j.label → (b : ℕ)
      → Memᴰ b (map R.block (a ∷ (j.returns ++ c ∷ [])))
      → Needs R j b ⊎ (some (R.block a) ≡ some b)
  calls-other j a c h b (Memᴰ.head e) = inr (ap some (sym e))
  calls-other j a c h b (Memᴰ.tail m) = case (mem-snoc j.returns c b m)
    where
      case : Memᴰ b (map R.block j.returns) ⊎ (b ≡ R.block c) → Needs R j b ⊎ (some (R.block a) ≡ some b)
      case (inl g) = inl (Memᴰ.tail g)
      case (inr g) = inl (Memᴰ.head (g ∙ h))

  -- back to the newest return label
  mem-older : (a : ℕ) (l : List ℕ) (b : ℕ) → Memᴰ b (map R.block (newest a l ∷ older a l)) → Memᴰ b (map R.block (a ∷ l))
  mem-older a [] b m = m
  mem-older a (c ∷ l) b (Memᴰ.head e) = Memᴰ.tail (mem-older c l b (Memᴰ.head e))
  mem-older a (c ∷ l) b (Memᴰ.tail (Memᴰ.head e)) = Memᴰ.head e
  mem-older a (c ∷ l) b (Memᴰ.tail (Memᴰ.tail m)) = Memᴰ.tail (mem-older c l b (Memᴰ.tail m))

module _ (R : Rules) (row : ℕ → Row) where
  back-stays : (t : ℕ) (j : Job) (a b : ℕ) (g : Going) (rs : List ℕ) → j.returns ≡ rs
      → Stays R j (steer R.block row t a b j.held g back rs)
  back-stays t j a b g [] e = tt
  back-stays t j a b g (r ∷ rs) e =
      λ c m. inl (Memᴰ.tail (subst (λ (z : List ℕ). Memᴰ c (map R.block z)) (sym e) (mem-older R r rs c m)))

  module _ (t : ℕ) (j : Job) (x y : Role) (a b : ℕ) (ha : Home R (R.block j.label) x a) (hb : Home R (R.block j.label) y b) where
    steer-stays : (g : Going) (n : Next) → Leads x y n → Stays R j (steer R.block row t a b j.held g n j.returns)
    steer-stays g on_a n = on-home R j a (home-A R _ x a ha n)
    steer-stays g on_b n = on-home R j b (home-as R _ y Inner b hb n)
    steer-stays g into_a n = trap-stays R j (alien (row (R.block a)) t) 5 _ (into-other R j a)
    steer-stays g call_a n = trap-stays R j (alien (row (R.block a)) t) 5 _ (calls-other R j a b (home-as R _ y Inner b hb n.1))
    steer-stays g back n = back-stays t j a b g j.returns refl

    resolve-stays : (o : Got Outcome) → Refers x y o → Stays R j (resolve R.block row t j.returns j.held a b o)
    resolve-stays (trap r) k = tt
    resolve-stays (got ends) k = tt
    resolve-stays (got (goes g)) k = steer-stays g g.next k.0

  pub statement-stays : (t : ℕ) (j : Job) (s : Statement) (a b : ℕ) → Home R (R.block j.label) (role_a s) a
      → Home R (R.block j.label) (role_b s) b
      → (v : View) (given : List Operand) → Stays R j (resolve R.block row t j.returns j.held a b (outcome v s given))
  statement-stays t j s a b ha hb v given = resolve-stays t j (role_a s) (role_b s) a b ha hb (outcome v s given) (refers v s given)
