-- The entries of bytes, an event's and its answer's, are those of the values.
use Rattle.std.specs.Prelude.{◌≡◌, true, length}
use Rattle.std.proofs.Math.Path.{refl, ap}
use mathlib.Core.List.{List, [], ◌∷◌, ◌++◌, map, append_assoc, append-nil}
use Prim.Native.Nat.{ℕ, suc, ◌*◌, ◌<◌}
use Rattle.std.proofs.Common.{take_at, drop_at}
use Rattle.rules.specs.Sizes.{event_size, answer_size}
use Rattle.rules.specs.Bytes.{blocks}
use Rattle.rules.specs.Machine.{Machine}
use Rattle.rules.specs.Events.{Event, event_bytes, events_in, event_at_ok, events_from}
use Rattle.rules.specs.Answers.{answer_bytes}
use Rattle.rules.specs.Steps.{Rules, react, answers}
use Rattle.rules.specs.Order.{Entry, log, events, ByteEntry, byte_entries}
use Rattle.lemmas_encoding.specs.Lengths.{length-event, length-answer}
use Rattle.lemmas_encoding.specs.Numbers.{AreBytes}
use Rattle.lemmas_encoding.specs.Events.{length-events, events-forth}

abbrev pub entry_bytes : Entry → ByteEntry
entry_bytes n = record { event = event_bytes n.event; answer = answer_bytes n.answer }

-- whatever bytes follow
pub entries-are : (l : List Entry) (q r : List ℕ)
    → byte_entries (length l) (blocks event_bytes (events l) ++ q) (blocks answer_bytes (map (λ (n : Entry). n.answer) l) ++ r)
    ≡ map entry_bytes l
unfolding byte_entries blocks
entries-are [] q r = refl
entries-are (n ∷ l) q r =
    let e : List ℕ = event_bytes n.event in
    let a : List ℕ = answer_bytes n.answer in
    let es : List ℕ = blocks event_bytes (events l) ++ q in
    let rest : List ℕ = blocks answer_bytes (map (λ (n : Entry). n.answer) l) ++ r in
    rw (
      append_assoc e (blocks event_bytes (events l)) q,
      append_assoc a (blocks answer_bytes (map (λ (n : Entry). n.answer) l)) r,
      take_at e es event_size (length-event n.event),
      take_at a rest answer_size (length-answer n.answer),
      drop_at e es event_size (length-event n.event),
      drop_at a rest answer_size (length-answer n.answer),
    )
    (ap (λ t. entry_bytes n ∷ t) (entries-are l q r))

module _ (R : Rules) where
  pub log-events : (s : Machine) (es : List Event) → events (log R s es) ≡ es
  unfolding log
  log-events s [] = refl
  log-events s (e ∷ es) = ap (λ l. e ∷ l) (log-events (react R s e).state es)

  pub log-answers : (s : Machine) (es : List Event) → map (λ (n : Entry). n.answer) (log R s es) ≡ answers R s es
  unfolding log answers
  log-answers s [] = refl
  log-answers s (e ∷ es) = ap (λ l. (react R s e).answer ∷ l) (log-answers (react R s e).state es)

  pub length-log : (s : Machine) (es : List Event) → length (log R s es) ≡ length es
  unfolding log
  length-log s [] = refl
  length-log s (e ∷ es) = ap suc (length-log (react R s e).state es)

  -- the bytes of events carried out, with the bytes of their answers
  pub log-entries : (s : Machine) (es : List Event) (q r : List ℕ)
      → byte_entries (length es) (blocks event_bytes es ++ q) (blocks answer_bytes (answers R s es) ++ r) ≡ map entry_bytes (log R s es)
  log-entries s es q r = rw (length-log, log-events, log-answers) at (entries-are (log R s es) q r)

  -- so of a list of events that break no rule
  pub run-entries : (image b : List ℕ) → AreBytes b → length b ≡ event_size * events_in b
      → ((i : ℕ) → i < events_in b → event_at_ok image b i ≡ true) → (s : Machine)
      → byte_entries (events_in b) b (blocks answer_bytes (answers R s (events_from b))) ≡ map entry_bytes (log R s (events_from b))
  run-entries image b h l e s =
      let n : length (events_from b) ≡ events_in b = length-events b in
      let f : blocks event_bytes (events_from b) ≡ b = events-forth image b l e h in
      rw (append-nil (blocks event_bytes (events_from b)), append-nil (blocks answer_bytes (answers R s (events_from b))), n, f) at
      (log-entries s (events_from b) [] [])
