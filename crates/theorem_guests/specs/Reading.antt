-- A guest's reading: a list of its events, carried out on an image that it is a part of, gives the answers, the words and the state that
-- it gives on its own image, with the guest's labels shifted in events and state alike.
use Rattle.std.specs.Prelude.{◌≡◌, ℕ}
use Rattle.std.proofs.Math.Path.{refl}
use Rattle.std.proofs.Common.{◌∙◌}
use mathlib.Core.List.{List, map}
use Rattle.rules.specs.Image.{labels}
use Rattle.rules.specs.Check.{Checked}
use Rattle.rules.specs.Machine.{Tree, ThreadState, idle, running, Machine, thread_at}
use Rattle.rules.specs.Events.{Event, arrive, turn}
use Rattle.rules.specs.Steps.{rules_by, answers, final}
use Rattle.rules.specs.WellFormed.{pending_ok}
use Rattle.rules.specs.Link.{shift_machine, shift_event}
use Rattle.lemmas_invariant.specs.Members.{each_map}
use Rattle.lemmas_invariant.specs.Sound.{HeldIn, ThreadIn, PendingIn, TreeIn, Sound}
use Rattle.lemmas_invariant.specs.Trees.{pending-below, held-pending}
use Rattle.lemmas_invariant.specs.StaysWellFormed.{Accepted}
use Rattle.theorem_guests.specs.Parts.{Part}
use Rattle.theorem_guests.specs.Labels.{ThreadBelow, SignalBelow, TreeBelow, EventBelow, Below}

-- the events l of the guest G from the machine s on its own image, and shifted by d from the machine s' on the image L
pub record GuestReading (d : ℕ) (G L table : List ℕ) (s s' : Machine) (l : List Event) : Type 0 where
  pub answers : answers (rules_by L table) s' (map (shift_event d) l) ≡ answers (rules_by G table) s l
  pub words : (final (rules_by L table) s' (map (shift_event d) l)).words ≡ (final (rules_by G table) s l).words
  pub state : final (rules_by L table) s' (map (shift_event d) l) ≡ shift_machine d (final (rules_by G table) s l)

-- ---- every label of a well formed machine and of an accepted event is below n

module _ (image table : List ℕ) where
  thread-below : (t : ℕ) (w : ThreadState) → ThreadIn image table t w → ThreadBelow (labels image) w
  thread-below t idle h = tt
  thread-below t (running locks j) h = (
    h.places.0.below,
    each_map (HeldIn image table) (SignalBelow (labels image)) j.held
        (λ g k. pending-below image table g (held-pending image table g k)) h.held,
  )

  tree-below : (x : Tree) → TreeIn image table x → TreeBelow (labels image) x
  tree-below x h = each_map (PendingIn image table) (SignalBelow (labels image)) x.pending (pending-below image table) h.pending

  pub sound-below : (s : Machine) → Sound image table s → Below (labels image) s
  sound-below s k = record {
    threads = λ t. thread-below t (thread_at s t) (k.threads t);
    trees = each_map (TreeIn image table) (TreeBelow (labels image)) s.trees tree-below k.trees;
  }

  pub accepted-below : (e : Event) → Accepted image e → EventBelow (labels image) e
  unfolding pending_ok
  accepted-below (arrive g) h = pending-below image table g (rw h.0 refl)
  accepted-below (turn k t) h = tt

-- ---- the image accepts the shifted events

module _ (d : ℕ) (G L table : List ℕ) (part : Part d G L) (checked : Checked G table) where
  pub accepted-shift : (e : Event) → Accepted G e → Accepted L (shift_event d e)
  accepted-shift (arrive g) h =
      ((part.at g.label (accepted-below G table (arrive g) h)).entry ∙ h.0, h.1)
  accepted-shift (turn k t) h = h
