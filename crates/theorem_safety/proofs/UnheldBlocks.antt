-- Nobody else is touched, by lock, of a list of events and of what a Run leaves: no word changes of a block whose lock the threads of the
-- events do not hold when these come, whatever other locks they hold: `unheld-blocks-stay`, `run-leaves-unheld-blocks`.
use Rattle.std.specs.Prelude.{◌≡◌, ℕ}
use Rattle.std.proofs.Math.Path.{refl}
use Rattle.std.proofs.Common.{◌∙◌}
use mathlib.Core.List.{List, [], ◌∷◌}
use Rattle.rules.specs.Check.{Checked}
use Rattle.rules.specs.Machine.{Machine, window}
use Rattle.rules.specs.Encoding.{encode, machine_from}
use Rattle.rules.specs.Events.{Event, events_from}
use Rattle.rules.specs.Steps.{rules_by, react, final}
use Rattle.rules.specs.WellFormed.{state_tidy, machine_ok, well_formed}
use Rattle.rules.specs.Calls.{run_return, run_state}
use Rattle.bytes_fields.specs.Each.{Each}
use Rattle.lemmas_rules.specs.Logic.{and_both}
use Rattle.lemmas_encoding.specs.Sized.{Sized}
use Rattle.lemmas_encoding.specs.Machines.{machine-back, machine-sized}
use Rattle.lemmas_invariant.specs.Sound.{Sound, sound-of}
use Rattle.lemmas_invariant.specs.StaysWellFormed.{Accepted}
use Rattle.lemmas_invariant.proofs.StaysWellFormed.{sound-react}
use Rattle.lemmas_invariant.proofs.StaysSized.{sized-final}
use Rattle.lemmas_invariant.proofs.States.{given-of}
use Rattle.lemmas_invariant.specs.Untouched.{words-of-other-blocks-stay}
use Rattle.theorem_safety.specs.UnheldBlocks.{Unheld}

module _ (image table : List ℕ) (b : ℕ) where
  pub unheld-blocks-stay : Checked image table → (s : Machine) (l : List Event) → Sound image table s → Each (Accepted image) l
      → Unheld image table b s l
      → window b (final (rules_by image table) s l).words ≡ window b s.words
  unfolding final
  unheld-blocks-stay checked s [] k h u = refl
  unheld-blocks-stay checked s (e ∷ l) k h u =
      unheld-blocks-stay checked (react (rules_by image table) s e).state l (sound-react image table checked s e k h.0) h.1 u.1
      ∙ words-of-other-blocks-stay (rules_by image table) s k.invariant e b u.0

  -- OF A RUN: the words of such a block are in the state that it leaves what they were in the state that it was lent
  pub run-leaves-unheld-blocks : (state events space : List ℕ) → run_return image table state events space ≡ 0
      → Unheld image table b (machine_from state) (events_from events)
      → window b (machine_from (run_state image table state events space)).words ≡ window b (machine_from state).words
  unfolding run_state well_formed
  run-leaves-unheld-blocks state events space h u =
      let g = given-of image table state events space h in
      let s : Machine = machine_from state in
      let l : List Event = events_from events in
      let t = and_both (state_tidy state) (machine_ok image table s) g.formed in
      let z : Sized s = machine-sized state g.size t.0 in
      let k : Sound image table s = sound-of image table s z.threads t.1 in
      let e : machine_from (encode (final (rules_by image table) s l)) ≡ final (rules_by image table) s l =
      machine-back (final (rules_by image table) s l) (sized-final image table g.checked s l k z g.accepted) in
      rw (h, e) (unheld-blocks-stay g.checked s l k g.accepted u)
