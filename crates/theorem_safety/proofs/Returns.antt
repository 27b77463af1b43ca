-- What a statement does to the return labels of its job, and where RETURN leads.
use Rattle.std.specs.Prelude.{◌≡◌, refl, Bool, true, false, ℕ}
use Rattle.std.proofs.Common.{ap, ◌∙◌}
use Rattle.std.proofs.Math.Option.{Option, none, some}
use mathlib.Core.List.{List, [], ◌∷◌, ◌++◌, Memᴰ}
use Rattle.rules.specs.Image.{record_at, label_a, label_b, Row, row_at}
use Rattle.rules.specs.Statements.{statement_of, data_of, Way, following, branching, transferring, entering, posting, founding, calling}
use Rattle.rules.specs.Statements.{returning, ending, way, reads}
use Rattle.rules.specs.Machine.{Signal, Job}
use Rattle.rules.specs.Effects.{Got, trap, got, then, unless, Cells, read_all, Next, on_a, on_b, into_a, call_a, back, Going, Outcome, ends}
use Rattle.rules.specs.Effects.{goes, View, leave, overflow, worked, chosen, perform, outcome}
use Rattle.rules.specs.Steps.{Effect, traps, exits, moves, trap_if, newest, alien, steer, resolve, block_at, act_by, view}
use Rattle.rules.specs.declared.statement.Operand.{Operand}
use Rattle.rules.specs.declared.statement.Statement.{Statement}
use Rattle.lemmas_rules.specs.Logic.{never}
use Rattle.theorem_safety.specs.Paths.{without_newest, opened, way_at}

-- by where it leads
abbrev next_returns : Next → ℕ → List ℕ → List ℕ
next_returns on_a b rs = rs
next_returns on_b b rs = rs
next_returns into_a b rs = rs
next_returns call_a b rs = rs ++ b ∷ []
next_returns back b rs = without_newest rs

abbrev Opens : Way → Got Outcome → Type 0
Opens w (trap r) = Unit {0}
Opens w (got ends) = Unit {0}
Opens w (got (goes g)) = (b : ℕ) (rs : List ℕ) → next_returns g.next b rs ≡ opened w b rs

unless-opens : (w : Way) (c : Option ℕ) (o : Got Outcome) → Opens w o → Opens w (unless c o)
unless-opens w none o h = h
unless-opens w (some r) o h = tt

then-opens : {A : Type 0} (w : Way) (o : Got A) (f : A → Got Outcome) → ((a : A) → Opens w (f a)) → Opens w (then o f)
then-opens w (trap r) f h = tt
then-opens w (got a) f h = h a

leave-opens : (w : Way) (c : Bool) (vs : List ℕ) (d : Cells) → Opens w (got (leave w c vs d))
leave-opens following c vs d = λ b rs. refl
leave-opens branching true vs d = λ b rs. refl
leave-opens branching false vs d = λ b rs. refl
leave-opens transferring c vs d = λ b rs. refl
leave-opens entering c vs d = λ b rs. refl
leave-opens posting c vs d = λ b rs. refl
leave-opens founding c vs d = λ b rs. refl
leave-opens calling c vs d = λ b rs. refl
leave-opens returning c vs d = λ b rs. refl
leave-opens ending c vs d = tt

outcome-opens : (v : View) (s : Statement) (given : List Operand) → Opens (way s) (outcome v s given)
unfolding outcome perform
outcome-opens v s given =
    then-opens (way s) (read_all v.cells (reads s given)) _
    (λ vs. unless-opens (way s) (overflow v s) _
    (then-opens (way s) (worked s vs v.cells) _ (λ c. leave-opens (way s) (chosen s vs) vs c)))

-- the job goes on with the calls that are open after its statement; RETURN leads to one of those that were open before
pub record Turned (w : Way) (b : ℕ) (rs : List ℕ) (j : Job) : Type 0 where
  pub returns : j.returns ≡ opened w b rs
  pub label : w ≡ returning → Memᴰ j.label rs

abbrev pub EffectTurned : Way → ℕ → List ℕ → Effect → Type 0
EffectTurned s b rs (traps r) = Unit {0}
EffectTurned s b rs exits = Unit {0}
EffectTurned s b rs (moves j words g want) = Turned s b rs j

newest-of : (r : ℕ) (rs : List ℕ) → Memᴰ (newest r rs) (r ∷ rs)
newest-of r [] = Memᴰ.head refl
newest-of r (x ∷ rs) = Memᴰ.tail (newest-of x rs)

-- RETURN takes a label, so a statement that takes none is no RETURN
no_return : (s : Way) (n : ℕ) (q : List ℕ) → n ∷ q ≡ opened s 0 (0 ∷ []) → s ≡ returning → ⊥
no_return s n q h e = let z : n ∷ q ≡ [] = h ∙ ap (λ (w : Way). opened w 0 (0 ∷ [])) e in never (cc)

module _ (s : Way) (block : ℕ → ℕ) (row : ℕ → Row) (t a b : ℕ) (gs : List Signal) where
  trap-turned : (c : Bool) (r : ℕ) (rs : List ℕ) (e : Effect) → EffectTurned s b rs e → EffectTurned s b rs (trap_if c r e)
  trap-turned true r rs e h = tt
  trap-turned false r rs e h = h

  steer-turned : (g : Going) (n : Next) (rs : List ℕ) → ((c : ℕ) (q : List ℕ) → next_returns n c q ≡ opened s c q)
      → EffectTurned s b rs (steer block row t a b gs g n rs)
  steer-turned g on_a rs h = record { returns = h b rs; label = λ e. absurd (no_return s _ _ (h 0 (0 ∷ [])) e) }
  steer-turned g on_b rs h = record { returns = h b rs; label = λ e. absurd (no_return s _ _ (h 0 (0 ∷ [])) e) }
  steer-turned g into_a rs h =
      trap-turned (alien (row (block a)) t) 5 rs _ (record { returns = h b rs; label = λ e. absurd (no_return s _ _ (h 0 (0 ∷ [])) e) })
  steer-turned g call_a rs h =
      trap-turned (alien (row (block a)) t) 5 rs _ (record { returns = h b rs; label = λ e. absurd (no_return s _ _ (h 0 (0 ∷ [])) e) })
  steer-turned g back [] h = tt
  steer-turned g back (r ∷ rs) h = record { returns = h b (r ∷ rs); label = λ e. newest-of r rs }

  resolve-turned : (rs : List ℕ) (o : Got Outcome) → Opens s o → EffectTurned s b rs (resolve block row t rs gs a b o)
  resolve-turned rs (trap r) h = tt
  resolve-turned rs (got ends) h = tt
  resolve-turned rs (got (goes g)) h = steer-turned g g.next rs h

pub act-turned : (image table : List ℕ) (t : ℕ) (j : Job) (words : List ℕ) (n : ℕ)
    → EffectTurned (way_at image j.label) (label_b (record_at image j.label)) j.returns (act_by image table t j words n)
unfolding act_by
act-turned image table t j words n =
    let r = record_at image j.label in
    resolve-turned (way_at image j.label) (block_at image) (row_at table) t (label_a r) (label_b r) j.held j.returns
    (outcome (view j words n) (statement_of r) (data_of r))
    (outcome-opens (view j words n) (statement_of r) (data_of r))
