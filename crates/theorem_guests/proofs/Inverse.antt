-- The inverse of the shift. A guest's machine, shifted, comes back to itself: `machine-unshifted`. An event of the guest on the linked
-- image becomes an event that the guest's own image accepts, `all-accepted-alone`, and shifted that is the event again, `events-shifted`.
use Rattle.std.specs.Prelude.{◌≡◌, refl, List, [], ◌∷◌, map, ℕ, ◌+◌, ◌-◌, ◌≤◌}
use Rattle.std.proofs.Common.{sym, ap₂, ◌∙◌, arith}
use Rattle.rules.specs.Machine.{Signal, Tree, ThreadState, idle, running, Machine}
use Rattle.rules.specs.Events.{Event, arrive, turn}
use Rattle.rules.specs.Link.{shift_signal, shift_thread, shift_tree, shift_machine, shift_event}
use Rattle.bytes_fields.specs.Each.{Each}
use Rattle.lemmas_invariant.specs.StaysWellFormed.{Accepted}
use Rattle.theorem_guests.specs.Parts.{Part}
use Rattle.theorem_guests.specs.Inverse.{unshift_signal, unshift_thread, unshift_tree, unshift_machine, unshift_event, OfGuest}

-- ---- a machine, shifted, comes back to itself

module _ (d : ℕ) where
  map_back : {A : Type 0} (f g : A → A) → ((x : A) → g (f x) ≡ x) → (l : List A) → map g (map f l) ≡ l
  map_back f g h [] = refl
  map_back f g h (x ∷ l) = ap₂ (λ y z. y ∷ z) (h x) (map_back f g h l)

  label-unshifted : (l : ℕ) → l + d - d ≡ l
  label-unshifted l = omega arith

  signal-unshifted : (g : Signal) → unshift_signal d (shift_signal d g) ≡ g
  signal-unshifted g = λ i. record { label = label-unshifted g.label i; values = g.values }

  signals-unshifted : (l : List Signal) → map (unshift_signal d) (map (shift_signal d) l) ≡ l
  signals-unshifted = map_back (shift_signal d) (unshift_signal d) signal-unshifted

  thread-unshifted : (w : ThreadState) → unshift_thread d (shift_thread d w) ≡ w
  thread-unshifted idle = refl
  thread-unshifted (running locks j) = λ i. running locks (record {
    label = label-unshifted j.label i;
    returns = map_back (λ l. l + d) (λ l. l - d) label-unshifted j.returns i;
    registers = j.registers;
    held = signals-unshifted j.held i;
  })

  tree-unshifted : (x : Tree) → unshift_tree d (shift_tree d x) ≡ x
  tree-unshifted x = λ i. record { thread = x.thread; pending = signals-unshifted x.pending i }

  -- A GUEST'S MACHINE, SHIFTED AND TAKEN BACK, IS ITSELF
  pub machine-unshifted : (s : Machine) → unshift_machine d (shift_machine d s) ≡ s
  machine-unshifted s = λ i. record {
    words = s.words;
    threads = map_back (shift_thread d) (unshift_thread d) thread-unshifted s.threads i;
    trees = map_back (shift_tree d) (unshift_tree d) tree-unshifted s.trees i;
  }

-- ---- the events of one guest

module _ (d : ℕ) (G L : List ℕ) (part : Part d G L) where
  label-shifted : (l : ℕ) → d ≤ l → l - d + d ≡ l
  label-shifted l h = omega arith

  event-shifted : (e : Event) → OfGuest d G e → shift_event d (unshift_event d e) ≡ e
  event-shifted (arrive g) h = λ i. arrive (record { label = label-shifted g.label h.0 i; values = g.values })
  event-shifted (turn k t) h = refl

  -- TAKEN BACK AND SHIFTED, A GUEST'S EVENTS ARE THEMSELVES
  pub events-shifted : (l : List Event) → Each (OfGuest d G) l → map (shift_event d) (map (unshift_event d) l) ≡ l
  events-shifted [] h = refl
  events-shifted (e ∷ l) h = ap₂ (λ x y. x ∷ y) (event-shifted e h.0) (events-shifted l h.1)

  accepted-alone : (e : Event) → OfGuest d G e → Accepted L e → Accepted G (unshift_event d e)
  accepted-alone (arrive g) h a =
      let same = (part.at (g.label - d) (omega arith)).entry in
      (sym same ∙ rw (label-shifted g.label h.0) a.0, a.1)
  accepted-alone (turn k t) h a = a

  -- WHAT THE LINKED IMAGE ACCEPTS OF A GUEST, ITS OWN IMAGE ACCEPTS
  pub all-accepted-alone : (l : List Event) → Each (OfGuest d G) l → Each (Accepted L) l → Each (λ e. Accepted G (unshift_event d e)) l
  all-accepted-alone [] h a = tt
  all-accepted-alone (e ∷ l) h a = (accepted-alone e h.0 a.0, all-accepted-alone l h.1 a.1)
