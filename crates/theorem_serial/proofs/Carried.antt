-- What lists of events with answers that are right from a given machine come to, and how entries are moved within them.
use Rattle.std.specs.Prelude.{◌≡◌}
use Rattle.std.proofs.Math.Path.{refl}
use Rattle.std.proofs.Common.{sym, ap, ◌∙◌, subst}
use mathlib.Core.List.Memᴰ
use mathlib.Core.List.{List, [], ◌∷◌, ◌++◌, Memᴰ}
use Rattle.rules.specs.Machine.{Machine}
use Rattle.rules.specs.Events.{Event, Valid}
use Rattle.rules.specs.Answers.{out, sort}
use Rattle.rules.specs.Steps.{Rules, react, final}
use Rattle.rules.specs.Order.{Entry, events, log, lost_by}
use Rattle.lemmas_invariant.specs.Laws.{Laws}
use Rattle.lemmas_invariant.specs.Invariant.{Invariant}
use Rattle.lemmas_invariant.proofs.Invariant.{invariant-react}
use Rattle.theorem_serial.specs.Swap.{Swapped, swap}
use Rattle.theorem_serial.specs.Carried.{Carried, Apart, AllApart}

module _ (R : Rules) where
  pub carried-log : (s s' : Machine) (l : List Entry) → Carried R s l s' → log R s (events l) ≡ l
  unfolding log
  carried-log s s' [] x = refl
  carried-log s s' (n ∷ l) x =
      λ i. record { event = n.event; answer = x.0.same i; lost = x.0.loses i }
      ∷ carried-log (react R s n.event).state s' l x.1 i

  pub carried-final : (s s' : Machine) (l : List Entry) → Carried R s l s' → final R s (events l) ≡ s'
  unfolding final
  carried-final s s' [] x = x
  carried-final s s' (n ∷ l) x = carried-final (react R s n.event).state s' l x.1

  -- one more event at the end
  pub carried-snoc : (s s' : Machine) (l : List Entry) (e : Event) → Valid e → Carried R s l s'
      → Carried R s (l ++ record { event = e; answer = (react R s' e).answer; lost = lost_by R s' e } ∷ []) (react R s' e).state
  carried-snoc s s' [] e v x = (record { valid = v; same = rw x refl; loses = rw x refl }, rw x refl)
  carried-snoc s s' (n ∷ l) e v x = (x.0, carried-snoc (react R s n.event).state s' l e v x.1)

module _ (R : Rules) (L : Laws R) where
  pub carried-invariant : (s s' : Machine) (l : List Entry) → Invariant R s → Carried R s l s' → Invariant R s'
  carried-invariant s s' [] i x = subst (Invariant R) x i
  carried-invariant s s' (n ∷ l) i x =
      carried-invariant (react R s n.event).state s' l (invariant-react R L s n.event i x.0.valid) x.1

  carried-swap : (s s' : Machine) (x y : Entry) (l : List Entry) → Invariant R s → Apart x y → Carried R s (x ∷ y ∷ l) s'
      → Carried R s (y ∷ x ∷ l) s'
  carried-swap s s' x y l i a h =
      let stays-in : ¬ (sort (react R (react R s x.event).state y.event).answer ≡ out) =
      λ e. a.kept (sym (ap sort h.1.0.same) ∙ e)
      in
      let k : Swapped R L s x.event y.event =
      swap R L s x.event y.event i h.0.valid h.1.0.valid a.other (rw h.0.same a.joins) stays-in
      in (
        record { valid = h.1.0.valid; same = k.fst ∙ h.1.0.same; loses = k.fst-lost ∙ h.1.0.loses },
        (
          record { valid = h.0.valid; same = k.snd ∙ h.0.same; loses = k.snd-lost ∙ h.0.loses },
          subst (λ (z : Machine). Carried R z l s') (sym k.end) h.1.1,
        ),
      )

  -- an event goes in front of a list
  pass-one : (s s' : Machine) (X Z : List Entry) (y : Entry) → Invariant R s → AllApart X (y ∷ []) → Carried R s (X ++ y ∷ Z) s'
      → Carried R s (y ∷ (X ++ Z)) s'
  pass-one s s' [] Z y i a h = h
  pass-one s s' (x ∷ X) Z y i a h =
      carried-swap s s' x y (X ++ Z) i (a x y (Memᴰ.head refl) (Memᴰ.head refl)) (
        h.0,
        pass-one (react R s x.event).state s' X Z y (invariant-react R L s x.event i h.0.valid)
            (λ x' y' m m'. a x' y' (Memᴰ.tail m) m') h.1,
      )

  -- and so does a list of events
  pass : (s s' : Machine) (X Y Z : List Entry) → Invariant R s → AllApart X Y → Carried R s (X ++ (Y ++ Z)) s'
      → Carried R s (Y ++ (X ++ Z)) s'
  pass s s' X [] Z i a h = h
  pass s s' X (y ∷ Y) Z i a h =
      let k : Carried R s (y ∷ (X ++ (Y ++ Z))) s' =
      pass-one s s' X (Y ++ Z) y i (λ x' y' m m'. a x' y' m (Memᴰ.head (Memᴰ.eq_of_singleton m'))) h
      in (
        k.0,
        pass (react R s y.event).state s' X Y Z (invariant-react R L s y.event i k.0.valid)
            (λ x' y' m m'. a x' y' m (Memᴰ.tail m')) k.1,
      )

  pub shift : (s s' : Machine) (W X Y Z : List Entry) → Invariant R s → AllApart X Y → Carried R s (W ++ (X ++ (Y ++ Z))) s'
      → Carried R s (W ++ (Y ++ (X ++ Z))) s'
  shift s s' [] X Y Z i a h = pass s s' X Y Z i a h
  shift s s' (w ∷ W) X Y Z i a h =
      (h.0, shift (react R s w.event).state s' W X Y Z (invariant-react R L s w.event i h.0.valid) a h.1)
