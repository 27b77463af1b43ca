-- What a call that is not refused has been lent, and what a refused one leaves.
use Rattle.std.specs.Prelude.{◌≡◌, List, ◌∷◌, ℕ, ◌+◌, ◌*◌, ◌<◌, eqb, leb}
use Rattle.std.proofs.Math.Path.{refl}
use Rattle.std.proofs.Common.{sym, arith}
use Rattle.std.proofs.Math.Bool.{true}
use Rattle.std.proofs.Math.ListN.{length}
use borrow.Author.Tests.{eqb-true, ne_eqb, ltb-true}
use Rattle.rules.specs.Codes.{bad_event_number}
use Rattle.rules.specs.Sizes.{words_size, state_size, event_size, answer_size, event_count, thread_count}
use Rattle.rules.specs.Bytes.{blocks}
use Rattle.rules.specs.Check.{first_refusal, image_faults}
use Rattle.rules.specs.Machine.{fresh}
use Rattle.rules.specs.Encoding.{encode, words_from, machine_from}
use Rattle.rules.specs.WellFormed.{state_tidy, machine_ok, well_formed}
use Rattle.rules.specs.Answers.{answer_bytes}
use Rattle.rules.specs.Events.{events_in, events_from, events_length_ok, event_at_ok}
use Rattle.rules.specs.Steps.{rules_by, answers, final}
use Rattle.rules.specs.Walk.{walk_from, met_bytes, met_count}
use Rattle.rules.specs.Calls.{state_length_fault, state_fault, events_length_fault, event_fault, answers_length_fault, words_length_fault}
use Rattle.rules.specs.Calls.{thread_fault, met_length_fault, fresh_return, fresh_state, run_return, run_state}
use Rattle.rules.specs.Calls.{run_answers, walk_fault, walk_return}
use Rattle.rules.specs.Calls.{walk_met, output_length_fault, link_return, link_out}
use Rattle.rules.specs.Link.{linked}
use Rattle.lemmas_rules.specs.Logic.{and_both}
use Rattle.lemmas_rules.specs.Faults.{first-of-zero, refusal-zero, fault-free, checked-of}
use Rattle.lemmas_rules.specs.Passed.{both-passed}
use Rattle.lemmas_encoding.specs.Sized.{Sized}
use Rattle.lemmas_encoding.specs.Numbers.{AreBytes}
use Rattle.lemmas_encoding.specs.Machines.{machine-forth, machine-sized}
use Rattle.lemmas_encoding.specs.Encoded.{encodes}
use Rattle.lemmas_invariant.specs.Sound.{sound-of}
use Rattle.step_contract.specs.Ready.{Ready}
use Rattle.run_events.specs.Runs.{Events}
use Rattle.image_link.specs.Linkable.{Linkable, linkable-of}

-- the state of a call that is not refused is one that an event can be carried out on
machine-lent : (image table state more : List ℕ) → AreBytes state
    → first_refusal (image_faults image table (state_length_fault state ∷ state_fault image table state ∷ more)) ≡ 0
    → Ready image table state × (first_refusal more ≡ 0)
unfolding state_length_fault state_fault well_formed
machine-lent image table state more bytes h =
    let four = checked-of image table _ h in
    let five = first-of-zero _ _ four.1 in
    let six = first-of-zero _ _ five.1 in
    let size : length state ≡ state_size = eqb-true (length state) state_size (refusal-zero _ 5 0 (omega arith) five.0) in
    let formed = and_both (state_tidy state) (machine_ok image table (machine_from state)) (refusal-zero _ 6 0 (omega arith) six.0) in
    let sized : Sized (machine_from state) = machine-sized state size formed.0 in (
      record {
        checked = four.0;
        canonical = encodes state (machine_from state) (sym (machine-forth state bytes size formed.0)) sized;
        sound = sound-of image table (machine_from state) sized.threads formed.1;
      },
      six.1,
    )

-- ---- Fresh

module _ (image table words state : List ℕ) where
  pub fresh-refused : (fresh_return image table words state ≡ 0 → ⊥) → fresh_state image table words state ≡ state
  unfolding fresh_state
  fresh-refused n = rw (ne_eqb (fresh_return image table words state) 0 n) refl

  module _ (h : fresh_return image table words state ≡ 0) where
    pub fresh-state : fresh_state image table words state ≡ encode (fresh (words_from words))
    unfolding fresh_state
    fresh-state = rw h refl

    pub fresh-lengths : (length words ≡ words_size) × (length state ≡ state_size)
    unfolding fresh_return state_length_fault words_length_fault
    fresh-lengths =
        let five = first-of-zero _ _ (checked-of image table _ h).1 in
        let ten = first-of-zero _ _ five.1 in (
          eqb-true (length words) words_size (refusal-zero _ 10 0 (omega arith) ten.0),
          eqb-true (length state) state_size
              (refusal-zero _ 5 0 (omega arith) five.0),
        )

-- ---- Run

module _ (image table state events space : List ℕ) where
  pub run-refused : (run_return image table state events space ≡ 0 → ⊥) → (run_state image table state events space ≡ state)
      × (run_answers image table state events space ≡ space)
  unfolding run_state run_answers
  run-refused n = let e = ne_eqb (run_return image table state events space) 0 n in (rw e refl, rw e refl)

  module _ (h : run_return image table state events space ≡ 0) where
    pub run-state : run_state image table state events space
        ≡ encode (final (rules_by image table) (machine_from state) (events_from events))
    unfolding run_state
    run-state = rw h refl

    pub run-answers : run_answers image table state events space
        ≡ blocks answer_bytes (answers (rules_by image table) (machine_from state) (events_from events))
    unfolding run_answers
    run-answers = rw h refl

    pub run_lent : AreBytes state → Ready image table state × Events image events × (length space ≡ answer_size * events_in events)
    unfolding run_return events_length_fault event_fault answers_length_fault
    run_lent bytes =
        let six = machine-lent image table state _ bytes h in
        let seven = first-of-zero _ _ six.1 in
        let eight = first-of-zero _ _ seven.1 in
        let nine = first-of-zero _ _ eight.1 in
        let whole : events_length_ok events ≡ true = refusal-zero _ 7 0 (omega arith) seven.0 in (
          six.0,
          record {
            whole = eqb-true _ _ (and_both (eqb (length events) (event_size * events_in events)) (leb (events_in events) event_count) whole
                ).0;
            ok = fault-free (event_at_ok image events) (events_in events) bad_event_number (omega arith) eight.0;
          },
          eqb-true (length space) (answer_size * events_in events) (refusal-zero _ 9 0 (omega arith) nine.0),
        )

-- ---- the walk

module _ (image table state : List ℕ) (t : ℕ) (met : List ℕ) where
  pub walk_refused : (walk_fault image table state t met ≡ 0 → ⊥)
      → (walk_return image table state t met ≡ walk_fault image table state t met) × (walk_met image table state t met ≡ met)
  unfolding walk_return walk_met
  walk_refused n = let e = ne_eqb (walk_fault image table state t met) 0 n in (rw e refl, rw e refl)

  module _ (h : walk_fault image table state t met ≡ 0) where
    pub walk-return : walk_return image table state t met ≡ met_count (walk_from (rules_by image table) (machine_from state) t)
    unfolding walk_return
    walk-return = rw h refl

    pub walk-met : walk_met image table state t met ≡ met_bytes (walk_from (rules_by image table) (machine_from state) t)
    unfolding walk_met
    walk-met = rw h refl

    -- the thread and the buffer, which need no state
    pub walk-thread : t < thread_count
    unfolding walk_fault thread_fault
    walk-thread =
        let five = first-of-zero _ _ (checked-of image table _ h).1 in
        let six = first-of-zero _ _ five.1 in
        let eleven = first-of-zero _ _ six.1 in
        ltb-true t thread_count (refusal-zero _ 11 0 (omega arith) eleven.0)

    pub walk-lent : AreBytes state → Ready image table state × (length met ≡ thread_count)
    unfolding walk_fault met_length_fault
    walk-lent bytes =
        let k = machine-lent image table state _ bytes h in
        let twelve = first-of-zero _ _ (first-of-zero _ _ k.1).1 in
        (k.0, eqb-true (length met) thread_count (refusal-zero _ 12 0 (omega arith) twelve.0))

-- ---- the link

module _ (first second table out : List ℕ) where
  pub link-refused : (link_return first second table out ≡ 0 → ⊥) → link_out first second table out ≡ out
  unfolding link_out
  link-refused n = rw (ne_eqb (link_return first second table out) 0 n) refl

  module _ (h : link_return first second table out ≡ 0) where
    pub link-out : link_out first second table out ≡ linked first second
    unfolding link_out
    link-out = rw h refl

    pub link-lent : Linkable first second out
    unfolding link_return output_length_fault
    link-lent =
        let four = both-passed first second table _ h in
        let fifteen = first-of-zero _ _ (first-of-zero _ _ (first-of-zero _ _ four.2).1).1 in
        linkable-of first second table out four.0 four.1
        (eqb-true (length out) (length first + length second) (refusal-zero _ 15 0 (omega arith) fifteen.0))
