-- A guest's reading: a list of its events, carried out on an image that it is a part of, gives the answers, the words and the state that
-- it gives on its own image, with the guest's labels shifted in events and state alike.
use Rattle.std.specs.Prelude.{◌≡◌, ℕ}
use Rattle.std.proofs.Math.Path.{refl, ap}
use Rattle.std.proofs.Common.{◌∙◌}
use mathlib.Core.List.{List, [], ◌∷◌, map}
use Rattle.rules.specs.Image.{labels}
use Rattle.rules.specs.Check.{Checked}
use Rattle.rules.specs.Machine.{Machine, fresh}
use Rattle.rules.specs.Events.{Event}
use Rattle.rules.specs.Steps.{Reply, block_at, act_by, rules_by, react, answers, final}
use Rattle.rules.specs.Link.{shift_machine, shift_event}
use Rattle.rules.specs.declared.answer.Answer.{Answer}
use Rattle.bytes_fields.specs.Each.{Each}
use Rattle.lemmas_rules.specs.Passed.{passed}
use Rattle.lemmas_invariant.specs.Sound.{Sound}
use Rattle.lemmas_invariant.specs.StaysWellFormed.{Accepted}
use Rattle.lemmas_invariant.proofs.StaysWellFormed.{sound-react, sound-fresh}
use Rattle.theorem_guests.specs.Parts.{Part}
use Rattle.theorem_guests.specs.Labels.{shift_reply}
use Rattle.theorem_guests.proofs.Relabelled.{react-shift}
use Rattle.theorem_guests.proofs.Actions.{relabels}
use Rattle.theorem_guests.specs.Reading.{GuestReading, sound-below, accepted-below, accepted-shift}

-- ---- the reading

module _ (d : ℕ) (G L table : List ℕ) (part : Part d G L) (checked : Checked G table) where
  react-guest : (s : Machine) (e : Event) → Sound G table s → Accepted G e
      → react (rules_by L table) (shift_machine d s) (shift_event d e) ≡ shift_reply d (react (rules_by G table) s e)
  react-guest s e k h =
      react-shift d (labels G) (rules_by G table) (block_at L) (act_by L table)
      (relabels d G L table part (passed G table [] checked).0) s e (sound-below G table s k)
      (accepted-below G table e h)

  answers-guest : (s : Machine) (l : List Event) → Sound G table s → Each (Accepted G) l
      → answers (rules_by L table) (shift_machine d s) (map (shift_event d) l) ≡ answers (rules_by G table) s l
  unfolding answers
  answers-guest s [] k h = refl
  answers-guest s (e ∷ l) k h =
      rw (react-guest s e k h.0)
      (ap (λ (z : List Answer). (react (rules_by G table) s e).answer ∷ z)
      (answers-guest (react (rules_by G table) s e).state l (sound-react G table checked s e k h.0) h.1))

  final-guest : (s : Machine) (l : List Event) → Sound G table s → Each (Accepted G) l
      → final (rules_by L table) (shift_machine d s) (map (shift_event d) l) ≡ shift_machine d (final (rules_by G table) s l)
  unfolding final
  final-guest s [] k h = refl
  final-guest s (e ∷ l) k h =
      ap (λ (r : Reply). final (rules_by L table) r.state (map (shift_event d) l)) (react-guest s e k h.0)
      ∙ (final-guest (react (rules_by G table) s e).state l (sound-react G table checked s e k h.0) h.1)

  -- A GUEST'S READING, from any well formed machine of its own
  pub guest-reading : (s : Machine) (l : List Event) → Sound G table s → Each (Accepted G) l
      → GuestReading d G L table s (shift_machine d s) l
  guest-reading s l k h = record {
    answers = answers-guest s l k h;
    words = ap (λ (z : Machine). z.words) (final-guest s l k h);
    state = final-guest s l k h;
  }

  -- a fresh machine has no labels
  shift-fresh : (words : List ℕ) → shift_machine d (fresh words) ≡ fresh words
  unfolding fresh
  shift-fresh words = refl

  -- A GUEST'S READING, from a fresh machine
  pub guest-reading-fresh : (words : List ℕ) (l : List Event) → Each (Accepted G) l
      → GuestReading d G L table (fresh words) (fresh words) l
  guest-reading-fresh words l h =
      rw (shift-fresh words) at (guest-reading (fresh words) l (sound-fresh G table checked words) h)

  -- ---- and the image accepts the shifted events

  pub all-accepted : (l : List Event) → Each (Accepted G) l → Each (Accepted L) (map (shift_event d) l)
  all-accepted [] h = tt
  all-accepted (e ∷ l) h = (accepted-shift d G L table part checked e h.0, all-accepted l h.1)
