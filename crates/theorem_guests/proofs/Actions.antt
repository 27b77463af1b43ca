-- A guest's statements on a linked image do what they do on its own, with their labels shifted: a statement speaks of no label that it
-- does not use, and each that it uses leads to the record that it led to, with its labels shifted.
use Rattle.std.specs.Prelude.{◌≡◌, refl, ◌⊎◌, Bool, true, false, List, [], ◌∷◌, map, ℕ, ◌+◌, ◌<◌}
use Rattle.std.proofs.Common.{ap, inl, inr}
use Rattle.std.proofs.Math.Option.{Option, none, some}
use Rattle.std.proofs.lemmas.List.{map-append}
use Rattle.std.proofs.Math.ListN.{length-map}
use Rattle.rules.specs.Codes.{foreign_fd_block_code}
use Rattle.rules.specs.Image.{labels, record_at, block_field, label_a, label_b, Row, row_at}
use Rattle.rules.specs.Statements.{statement_of, role_a, role_b, data_of}
use Rattle.rules.specs.Machine.{Signal, Job}
use Rattle.rules.specs.Effects.{Got, trap, got, Next, on_a, on_b, into_a, call_a, back, Going, Outcome, ends, goes, outcome}
use Rattle.rules.specs.Steps.{Effect, trap_if, newest, older, signal_to, hold_on, alien, steer, resolve, block_at, act_by, rules_by, view}
use Rattle.rules.specs.Link.{used, shift_label, shift_signal, shift_job}
use Rattle.rules.specs.declared.statement.Role.{Role}
use Rattle.rules.specs.declared.statement.Role.TheVariants.{Inner, Direct, Local, Buffered}
use Rattle.lemmas_rules.specs.Roles.{Leads, Sends, Refers, refers}
use Rattle.lemmas_rules.specs.Passed.{Passed, Parts, label-below}
use Rattle.lemmas_invariant.specs.Destinations.{parts}
use Rattle.theorem_guests.specs.Shifted.{Shifted}
use Rattle.theorem_guests.specs.Parts.{Part}
use Rattle.theorem_guests.specs.Labels.{shift_sent, shift_effect}
use Rattle.theorem_guests.specs.Relabelled.{Relabels}

module _ (d : ℕ) where
  newest-shift : (a : ℕ) (l : List ℕ) → newest (a + d) (map (λ v. v + d) l) ≡ newest a l + d
  newest-shift a [] = refl
  newest-shift a (b ∷ l) = newest-shift b l

  older-shift : (a : ℕ) (l : List ℕ) → older (a + d) (map (λ v. v + d) l) ≡ map (λ v. v + d) (older a l)
  older-shift a [] = refl
  older-shift a (b ∷ l) = ap (λ z. (a + d) ∷ z) (older-shift b l)

  trap-shift : (c : Bool) (r : ℕ) (e e' : Effect) → e' ≡ shift_effect d e → trap_if c r e' ≡ shift_effect d (trap_if c r e)
  trap-shift true r e e' h = refl
  trap-shift false r e e' h = h

-- a statement whose labels A and B have the roles x and y, in an image of blocks `block` and, shifted, in one of blocks `block'`
module _ (d : ℕ) (block block' : ℕ → ℕ) (row : ℕ → Row) (x y : Role) (a b : ℕ)
    (entered : x ≡ Direct → block' (a + d) ≡ block a) where
  abbrev a' : ℕ
  a' = shift_label d x a

  abbrev b' : ℕ
  b' = shift_label d y b

  used-as : (z role : Role) (v : ℕ) → used z ≡ true → role ≡ z → shift_label d role v ≡ v + d
  used-as z role v u e = rw (e, u) refl

  a-on : (x ≡ Inner) ⊎ (x ≡ Local) → a' ≡ a + d
  a-on (inl e) = used-as Inner x a refl e
  a-on (inr e) = used-as Local x a refl e

  -- a signal goes to A by its role
  sent-shift : (o : Option (List ℕ)) → Sends x o → signal_to a' o ≡ shift_sent d (signal_to a o)
  sent-shift none h = refl
  sent-shift (some values) h = rw (used-as Buffered x a refl h) refl

  hold-shift : (gs : List Signal) (o : Option (List ℕ)) → Sends x o
      → hold_on (map (shift_signal d) gs) (signal_to a' o) ≡ map (shift_signal d) (hold_on gs (signal_to a o))
  hold-shift gs none h = refl
  hold-shift gs (some values) h = rw (used-as Buffered x a refl h, map-append (shift_signal d) gs) refl

  module _ (t : ℕ) (gs : List Signal) where
    steer-shift : (g : Going) (n : Next) (rs : List ℕ) → Leads x y n → Sends x g.sent → Sends x g.held
        → steer block' row t a' b' (map (shift_signal d) gs) g n (map (λ v. v + d) rs) ≡ shift_effect d (steer block row t a b gs g n rs)
    steer-shift g on_a rs n s h = rw (sent-shift g.sent s, hold-shift gs g.held h, a-on n) refl
    steer-shift g on_b rs n s h = rw (sent-shift g.sent s, hold-shift gs g.held h, used-as Inner y b refl n) refl
    steer-shift g into_a rs n s h =
        rw (sent-shift g.sent s, hold-shift gs g.held h, used-as Direct x a refl n, entered n)
        (trap-shift d (alien (row (block a)) t) foreign_fd_block_code _ _ refl)
    steer-shift g call_a rs n s h =
        rw (
          sent-shift g.sent s,
          hold-shift gs g.held h,
          used-as Direct x a refl n.0,
          used-as Inner y b refl n.1,
          entered n.0,
          ← map-append (λ v. v + d) rs (b ∷ []),
        )
        (trap-shift d (alien (row (block a)) t) foreign_fd_block_code _ _ refl)
    steer-shift g back [] n s h = refl
    steer-shift g back (r ∷ rs) n s h =
        rw (sent-shift g.sent s, hold-shift gs g.held h, newest-shift d r rs, older-shift d r rs) refl

    resolve-shift : (rs : List ℕ) (o : Got Outcome) → Refers x y o
        → resolve block' row t (map (λ v. v + d) rs) (map (shift_signal d) gs) a' b' o
        ≡ shift_effect d (resolve block row t rs gs a b o)
    resolve-shift rs (trap r) k = refl
    resolve-shift rs (got ends) k = refl
    resolve-shift rs (got (goes g)) k = steer-shift g g.next rs k.0 k.1 k.2

module _ (d : ℕ) (G L table : List ℕ) (part : Part d G L) (passed : Passed G table) where
  act-shift : (t : ℕ) (j : Job) (words : List ℕ) (k : ℕ) → j.label < labels G
      → act_by L table t (shift_job d j) words k ≡ shift_effect d (act_by G table t j words k)
  unfolding act_by
  act-shift t j words k h =
      let r = record_at G j.label in
      let same : Shifted d r (record_at L (j.label + d)) = part.at j.label h in
      let ok : Parts G r = parts G table passed j.label h in
      let x : Role = role_a (statement_of r) in
      let entered : x ≡ Direct → block_at L (label_a r + d) ≡ block_at G (label_a r) =
      λ e. (part.at (label_a r) (label-below G x (block_field r) (label_a r) ok.a (ap used e))).block
      in
      rw (
        same.statement,
        same.given,
        same.a,
        same.b,
        length-map j.returns (λ v. v + d),
        length-map j.held (shift_signal d),
      )
      (resolve-shift d (block_at G) (block_at L) (row_at table) x (role_b (statement_of r)) (label_a r) (label_b r) entered t j.held
      j.returns (outcome (view j words k) (statement_of r) (data_of r)) (refers (view j words k) (statement_of r) (data_of r)))

  -- so the linked image's rules do to a guest's labels, shifted, what the guest's own do
  pub relabels : Relabels d (labels G) (rules_by G table) (block_at L) (act_by L table)
  relabels = record { blocks = λ l h. (part.at l h).block; acts = act-shift }
