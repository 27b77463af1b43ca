-- "No events: return 0, state unchanged", of bytes: a Run without events accepts every accepted state, and leaves every lent byte, of a
-- state that it refuses as well.
use Rattle.std.specs.Prelude.{◌≡◌, Bool}
use Rattle.std.proofs.Math.Path.{refl}
use Rattle.std.proofs.Common.{◌∙◌, arith}
use Rattle.std.proofs.Math.Bool.{true, false, cond}
use mathlib.Core.List.{List, [], ◌∷◌}
use Prim.Native.Nat.{ℕ}
use Rattle.std.proofs.Math.ListN.{length}
use borrow.Author.Tests.{eqb-true}
use Rattle.rules.specs.Sizes.{state_size}
use Rattle.rules.specs.Bytes.{first_bad, blocks, chunks}
use Rattle.rules.specs.Check.{Checked, first_refusal}
use Rattle.rules.specs.Encoding.{encode, machine_from}
use Rattle.rules.specs.Events.{events_from}
use Rattle.rules.specs.Answers.{answer_bytes}
use Rattle.rules.specs.Steps.{rules_by, answers, final}
use Rattle.rules.specs.WellFormed.{state_tidy, machine_ok, well_formed}
use Rattle.rules.specs.Calls.{accepts, state_length_fault, state_fault, events_length_fault, event_fault, answers_length_fault}
use Rattle.rules.specs.Calls.{run_return, run_state, run_answers}
use Rattle.lemmas_rules.specs.Faults.{first-of-zero, refusal-zero, checked-of, checked-rest}
use Rattle.lemmas_rules.specs.Logic.{and_both}
use Rattle.lemmas_encoding.specs.Numbers.{AreBytes}
use Rattle.lemmas_encoding.specs.Machines.{machine-forth}
use Rattle.lemmas_invariant.specs.States.{Ready}

-- a list of no elements
none-long : (l : List ℕ) → length l ≡ 0 → [] ≡ l
none-long [] e = refl
none-long (x ∷ l) e = absurd (omega arith)

module _ (image table state : List ℕ) where
  -- the bytes of an accepted state are those of the machine that they say
  ready-bytes : AreBytes state → Ready image table state → encode (machine_from state) ≡ state
  unfolding state_length_fault state_fault well_formed
  ready-bytes b k =
      let size : length state ≡ state_size = eqb-true (length state) state_size (refusal-zero _ 5 0 (omega arith) k.size) in
      let formed : well_formed image table state ≡ true = refusal-zero _ 6 0 (omega arith) k.formed in
      machine-forth state b size (and_both (state_tidy state) (machine_ok image table (machine_from state)) formed).0

  -- RETURN 0, of an image and a table that pass the check, and an accepted state
  pub no-events-return : Checked image table → Ready image table state → run_return image table state [] [] ≡ 0
  unfolding run_return first_refusal first_bad events_length_fault event_fault answers_length_fault
  no-events-return c k =
      let more : List ℕ =
      state_length_fault state ∷ state_fault image table state ∷ events_length_fault [] ∷ event_fault image [] ∷ answers_length_fault [] []
      ∷ [] in
      let rest : first_refusal more ≡ 0 = rw (k.size, k.formed) in
      checked-rest image table more c ∙ rest

  module _ (space : List ℕ) where
    -- what an accepted Run without events was given
    given : run_return image table state [] space ≡ 0 → Checked image table × Ready image table state × (length space ≡ 0)
    unfolding run_return answers_length_fault
    given h =
        let four = checked-of image table _ h in
        let five = first-of-zero _ _ four.1 in
        let six = first-of-zero _ _ five.1 in
        let seven = first-of-zero _ _ six.1 in
        let eight = first-of-zero _ _ seven.1 in
        let nine = first-of-zero _ _ eight.1 in
        (four.0, record { size = five.0; formed = six.0 }, eqb-true (length space) 0 (refusal-zero _ 9 0 (omega arith) nine.0))

    -- THE STATE IS UNCHANGED
    pub no-events-state : AreBytes state → run_state image table state [] space ≡ state
    unfolding run_state
    no-events-state b = case (accepts (run_return image table state [] space)) refl
      where
        case : (a : Bool) → accepts (run_return image table state [] space) ≡ a
            → cond a (encode (final (rules_by image table) (machine_from state) (events_from []))) state ≡ state
        case true e = unfold final events_from chunks in ready-bytes b (given (eqb-true _ 0 e)).1
        case false e = refl

    -- and so are the bytes lent for the answers
    pub no-events-answers : run_answers image table state [] space ≡ space
    unfolding run_answers
    no-events-answers = case (accepts (run_return image table state [] space)) refl
      where
        case : (a : Bool) → accepts (run_return image table state [] space) ≡ a
            → cond a (blocks answer_bytes (answers (rules_by image table) (machine_from state) (events_from []))) space ≡ space
        case true e = unfold answers blocks events_from chunks in none-long space (given (eqb-true _ 0 e)).2
        case false e = refl
