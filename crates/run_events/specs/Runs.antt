-- The events carried out so far: the machine that they left, and the answers that they got.
use Rattle.std.specs.Prelude.{◌≡◌, true, drop}
use Rattle.std.proofs.Math.Path.{refl, sym, ap}
use Rattle.std.proofs.Common.{◌∙◌, subst, add-one, arith}
use mathlib.Core.List.{List, [], ◌∷◌, ◌++◌}
use Prim.Native.Nat.{ℕ, suc, ◌+◌, ◌*◌, ◌<◌}
use Rattle.std.proofs.Math.ListN.{length}
use Rattle.rules.specs.Sizes.{answer_size, event_size}
use Rattle.rules.specs.Bytes.{blocks, chunks}
use Rattle.rules.specs.Machine.{Machine}
use Rattle.rules.specs.Encoding.{encode, machine_from}
use Rattle.rules.specs.Answers.{answer_bytes}
use Rattle.rules.specs.Events.{Event, step, event_from, events_in, event_at_ok, events_from}
use Rattle.rules.specs.Steps.{Rules, rules_by, react, answers, final}
use Rattle.rules.specs.declared.answer.Answer.{Answer}
use Rattle.bytes_fields.specs.Each.{Each, each_at}
use Rattle.bytes_fields.specs.Put.{put, put_then, put_whole}
use Rattle.bytes_fields.specs.Blocks.{blocks-append, blocks-one, length-blocks, chunks-suc}
use Rattle.lemmas_rules.specs.EventLists.{final-append}
use Rattle.lemmas_encoding.specs.Lengths.{length-answer}
use Rattle.lemmas_encoding.specs.Runs.{length-chunks, chunks-at}
use Rattle.lemmas_encoding.specs.Events.{length-events}
use Rattle.lemmas_invariant.specs.StaysWellFormed.{Accepted}
use Rattle.lemmas_invariant.proofs.States.{events-accepted}
use Rattle.step_contract.specs.Ready.{Ready, Done, reply_to, ready-again}
use Rattle.step_send_buffered.specs.Arrivals.{EventAt}

-- whole events that break no rule
pub record Events (image events : List ℕ) : Type 0 where
  pub whole : length events ≡ event_size * events_in events
  pub ok : (i : ℕ) → i < events_in events → event_at_ok image events i ≡ true

pub event-at : {image events : List ℕ} → Events image events → (i : ℕ) → i < events_in events → EventAt image events i
unfolding events_from
event-at {image} {events} h i l = record {
  room = omega (arith, h.whole);
  ok = h.ok i l;
  accepted =
      let all : Each (Accepted image) (events_from events) = events-accepted image events h.whole h.ok in
      subst (Accepted image) (chunks-at event_from event_size (events_in events) events (step 0) i l)
      (each_at (Accepted image) (events_from events) i (step 0) all (omega (arith, length-events events)));
}

module _ (R : Rules) where
  answers-append : (s : Machine) (a b : List Event) → answers R s (a ++ b) ≡ answers R s a ++ answers R (final R s a) b
  unfolding answers final
  answers-append s [] b = refl
  answers-append s (e ∷ a) b = ap (λ (z : List Answer). (react R s e).answer ∷ z) (answers-append (react R s e).state a b)

  length-answers : (s : Machine) (l : List Event) → length (answers R s l) ≡ length l
  unfolding answers
  length-answers s [] = refl
  length-answers s (e ∷ l) = ap suc (length-answers (react R s e).state l)

-- the first i events
abbrev pub first_events : List ℕ → ℕ → List Event
first_events events i = chunks event_from event_size i events

-- after i events, from the state b₀ and the answers' buffer a₀
pub record Ran (image table events b₀ a₀ : List ℕ) (i : ℕ) (b a : List ℕ) : Type 0 where
  pub ready : Ready image table b
  pub machine : machine_from b ≡ final (rules_by image table) (machine_from b₀) (first_events events i)
  pub answered : a ≡ put a₀ 0 (blocks answer_bytes (answers (rules_by image table) (machine_from b₀) (first_events events i)))

module _ (image table events b₀ a₀ : List ℕ) where
  abbrev R : Rules
  R = rules_by image table

  next : (s₀ : Machine) (before : List Event) (e : Event) {s : Machine} → s ≡ final R s₀ before
      → (react R s e).state ≡ final R s₀ (before ++ e ∷ [])
  unfolding final
  next s₀ before e m = rw (final-append R s₀ before (e ∷ []), ← m) refl

  last-answer : (s : Machine) (e : Event) → blocks answer_bytes (answers R s (e ∷ [])) ≡ answer_bytes (react R s e).answer
  unfolding answers
  last-answer s e = blocks-one answer_bytes (react R s e).answer

  pub ran-none : Ready image table b₀ → Ran image table events b₀ a₀ 0 b₀ a₀
  unfolding chunks final answers blocks put
  ran-none h = record { ready = h; machine = refl; answered = refl }

  pub ran-more : {b a b' a' : List ℕ} {x : Answer} (i : ℕ) → Ran image table events b₀ a₀ i b a → EventAt image events i
      → Done (reply_to image table b (event_from (drop (event_size * i) events))) b' x → a' ≡ put a (answer_size * i) (answer_bytes x)
      → Ran image table events b₀ a₀ (i + 1) b' a'
  ran-more {b} {a} {b'} {a'} {x} i h k d w =
      let s₀ = machine_from b₀ in
      let before : List Event = first_events events i in
      let e : Event = event_from (drop (event_size * i) events) in
      let more : first_events events (i + 1) ≡ before ++ e ∷ [] = rw add-one (chunks-suc event_from event_size i events) in
      let m : machine_from b' ≡ final R s₀ (before ++ e ∷ []) = d.machine ∙ next s₀ before e h.machine in
      let past : List ℕ = blocks answer_bytes (answers R s₀ before) in
      let n : length past ≡ answer_size * i = length-blocks answer_bytes answer_size length-answer (answers R s₀ before)
      ∙ rw (length-answers R s₀ before, length-chunks event_from event_size i events) refl in
      let last : blocks answer_bytes (answers R s₀ (before ++ e ∷ [])) ≡ past ++ answer_bytes x =
      ap (blocks answer_bytes) (answers-append R s₀ before (e ∷ [])) ∙ blocks-append answer_bytes (answers R s₀ before) _
      ∙ ap (λ (z : List ℕ). past ++ z)
      (last-answer (final R s₀ before) e
      ∙ ap answer_bytes (ap (λ (z : Machine). (react R z e).answer) (sym h.machine) ∙ sym d.answer)) in
      record {
        ready = ready-again h.ready e k.accepted d;
        machine = rw more m;
        answered = rw (more, last) (put_then a₀ 0 past (answer_size * i) (answer_bytes x) h.answered w (omega (arith, n)));
      }

  module _ (b a : List ℕ) (h : Ran image table events b₀ a₀ (events_in events) b a) where
    pub ran-state : b ≡ encode (final R (machine_from b₀) (events_from events))
    unfolding events_from
    ran-state = h.ready.canonical.same ∙ ap encode h.machine

    pub ran-answers : length a₀ ≡ answer_size * events_in events
        → a ≡ blocks answer_bytes (answers R (machine_from b₀) (events_from events))
    unfolding events_from
    ran-answers l =
        let all : List Event = first_events events (events_in events) in
        let n : length (blocks answer_bytes (answers R (machine_from b₀) all)) ≡ answer_size * events_in events =
        length-blocks answer_bytes answer_size length-answer _
        ∙ rw (length-answers R (machine_from b₀) all, length-chunks event_from event_size (events_in events) events) refl in
        h.answered ∙ put_whole a₀ _ (l ∙ sym n)
