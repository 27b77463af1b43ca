-- Where a statement of a checked image leads: what it leaves is within the rules.
use Rattle.std.specs.Prelude.{◌≡◌, Bool, ◌⊎◌, List, [], ◌∷◌, ℕ}
use Rattle.std.proofs.Math.Path.{refl, subst}
use Rattle.std.proofs.Math.Bool.{true, false}
use Rattle.std.proofs.Common.{inl, inr}
use Rattle.std.proofs.Math.Option.{Option, none, some}
use Rattle.rules.specs.Image.{record_at, block_field, entry, label_a, label_b, row_at}
use Rattle.rules.specs.Statements.{statement_of, role_a, role_b, data_of}
use Rattle.rules.specs.Machine.{Signal, Job}
use Rattle.rules.specs.Effects.{Got, trap, got, Next, on_a, on_b, into_a, call_a, back, Going, Outcome, ends, goes, outcome}
use Rattle.rules.specs.Steps.{Effect, trap_if, newest, older, signal_to, hold_on, alien, onward}
use Rattle.rules.specs.Steps.{steer, resolve, block_at}
use Rattle.rules.specs.Steps.{act_by, view}
use Rattle.rules.specs.WellFormed.{held_ok}
use Rattle.rules.specs.declared.statement.Role.{Role}
use Rattle.rules.specs.declared.statement.Role.TheVariants.{Inner, Direct, Local}
use Rattle.bytes_fields.specs.Each.{Each, each_append}
use Rattle.lemmas_rules.specs.Roles.{Leads, Sends, Refers, refers}
use Rattle.lemmas_rules.specs.Passed.{Passed}
use Rattle.lemmas_invariant.specs.Sound.{PlaceIn, HeldIn, JobIn}
use Rattle.lemmas_invariant.specs.Destinations as to

module _ (image table : List ℕ) where
  abbrev LabelIn : ℕ → Role → ℕ → Type 0
  LabelIn = to.LabelIn image table

  module _ (passed : Passed image table) where
    abbrev SentIn : Option Signal → Type 0
    SentIn = to.SentIn image table passed

    abbrev EffectIn : ℕ → Effect → Type 0
    EffectIn = to.EffectIn image table passed

    trap-in : (t : ℕ) (c : Bool) (r : ℕ) (e : Effect) → (c ≡ false → EffectIn t e) → EffectIn t (trap_if c r e)
    trap-in t true r e h = tt
    trap-in t false r e h = h refl

    sent-in : (a b : ℕ) (x : Role) (o : Option (List ℕ)) → LabelIn b x a → Sends x o → SentIn (signal_to a o)
    unfolding held_ok
    sent-in a b x none h k = tt
    sent-in a b x (some vs) h k = let e : entry (record_at image a) ≡ 2 = subst (λ (z : Role). LabelIn b z a) k h in rw e refl

    hold-in : (gs : List Signal) (o : Option Signal) → Each (HeldIn image table) gs → SentIn o → Each (HeldIn image table) (hold_on gs o)
    hold-in gs none h k = h
    hold-in gs (some g) h k = each_append (HeldIn image table) gs (g ∷ []) h (k, tt)

    newest-in : (P : ℕ → Type 0) (a : ℕ) (l : List ℕ) → P a → Each P l → P (newest a l)
    newest-in P a [] h k = h
    newest-in P a (b ∷ l) h k = newest-in P b l k.0 k.1

    older-in : (P : ℕ → Type 0) (a : ℕ) (l : List ℕ) → P a → Each P l → Each P (older a l)
    older-in P a [] h k = tt
    older-in P a (b ∷ l) h k = (h, older-in P b l k.0 k.1)

    module _ (t : ℕ) (j : Job) (p : JobIn image table t j) (x y : Role) (a b : ℕ)
        (ha : LabelIn (block_at image j.label) x a) (hb : LabelIn (block_at image j.label) y b) where
      a-as : (z : Role) → x ≡ z → LabelIn (block_at image j.label) z a
      a-as z e = subst (λ (w : Role). LabelIn (block_at image j.label) w a) e ha

      b-as : (z : Role) → y ≡ z → LabelIn (block_at image j.label) z b
      b-as z e = subst (λ (w : Role). LabelIn (block_at image j.label) w b) e hb

      on-A : (x ≡ Inner) ⊎ (x ≡ Local) → PlaceIn image table t a
      on-A (inl e) = to.inside image table passed t j.label a p.places.0 (a-as Inner e).0 (a-as Inner e).1
      on-A (inr e) = to.inside image table passed t j.label a p.places.0 (a-as Local e).0 (a-as Local e).1

      on-B : y ≡ Inner → PlaceIn image table t b
      on-B e = to.inside image table passed t j.label b p.places.0 (b-as Inner e).0 (b-as Inner e).1

      module _ (g : Going) (sent : Sends x g.sent) (held : Sends x g.held) where
        -- whatever lock it asks for
        onward-in : (l : ℕ) (rs : List ℕ) → Each (PlaceIn image table t) (l ∷ rs)
            → EffectIn t (onward (block_at image) (row_at table) l rs j.held a g none)
        onward-in l rs q = (
          record { places = q; held = hold-in j.held (signal_to a g.held) p.held (sent-in a _ x g.held ha held) },
          sent-in a _ x g.sent ha sent,
        )

        back_in : (rs : List ℕ) → Each (PlaceIn image table t) rs
            → EffectIn t (steer (block_at image) (row_at table) t a b j.held g back rs)
        back_in [] h = tt
        back_in (r ∷ rs) h =
            onward-in _ _ (newest-in (PlaceIn image table t) r rs h.0 h.1, older-in (PlaceIn image table t) r rs h.0 h.1)

        steer-in : (n : Next) → Leads x y n → EffectIn t (steer (block_at image) (row_at table) t a b j.held g n j.returns)
        steer-in on_a n = onward-in a j.returns (on-A n, p.places.1)
        steer-in on_b n = onward-in b j.returns (on-B n, p.places.1)
        steer-in into_a n =
            trap-in t (alien (row_at table (block_at image a)) t) 5 _
            (λ e. onward-in a j.returns (to.entered image table passed t a (a-as Direct n) e, p.places.1))
        steer-in call_a n =
            trap-in t (alien (row_at table (block_at image a)) t) 5 _
            (λ e.
            let returns = each_append (PlaceIn image table t) j.returns (b ∷ []) p.places.1 (on-B n.1, tt) in
            onward-in a _ (to.entered image table passed t a (a-as Direct n.0) e, returns))
        steer-in back n = back_in j.returns p.places.1

      resolve-in : (o : Got Outcome) → Refers x y o
          → EffectIn t (resolve (block_at image) (row_at table) t j.returns j.held a b o)
      resolve-in (trap r) k = tt
      resolve-in (got ends) k = tt
      resolve-in (got (goes g)) k = steer-in g k.1 k.2 g.next k.0

    pub act-in : (t : ℕ) (j : Job) (words : List ℕ) (n : ℕ) → JobIn image table t j → EffectIn t (act_by image table t j words n)
    unfolding act_by
    act-in t j words n p =
        let r = record_at image j.label in
        let k = to.parts image table passed j.label p.places.0.below in
        resolve-in t j p (role_a (statement_of r)) (role_b (statement_of r)) (label_a r) (label_b r)
        (to.label-in image table (role_a (statement_of r)) (block_field r) (label_a r) k.a)
        (to.label-in image table (role_b (statement_of r)) (block_field r) (label_b r) k.b)
        (outcome (view j words n) (statement_of r) (data_of r)) (refers (view j words n) (statement_of r) (data_of r))
