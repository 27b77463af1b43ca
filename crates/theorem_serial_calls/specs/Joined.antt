-- The calls as one event list of values: the event list of the bytes is the log of the accepted Runs' events, carried out one after the
-- other from the machine that Fresh left, and the state bytes that the last accepted call left are those of the machine that they leave.
use Rattle.std.specs.Prelude.{◌≡◌, cond, ℕ}
use mathlib.Core.List.{List, [], ◌∷◌, map, flatten}
use Rattle.rules.specs.Check.{Checked}
use Rattle.rules.specs.Sizes.{word_total}
use Rattle.rules.specs.Bytes.{num16}
use Rattle.rules.specs.Machine.{Machine, fresh}
use Rattle.rules.specs.Encoding.{encode, words_from}
use Rattle.rules.specs.Events.{Event, events_from}
use Rattle.rules.specs.Steps.{Rules, rules_by, final}
use Rattle.bytes_fields.specs.Each.{Each}
use Rattle.theorem_serial.specs.Calls.{logs, finals}
use Rattle.theorem_serial.specs.ByteOrder.{bytes_of}
use Rattle.lemmas_encoding.specs.Sized.{Sized}
use Rattle.lemmas_encoding.specs.Runs.{length-chunks}
use Rattle.lemmas_invariant.specs.Sound.{Sound}
use Rattle.lemmas_invariant.specs.StaysWellFormed.{Accepted}
use Rattle.lemmas_invariant.proofs.StaysWellFormed.{sound-final, sound-fresh}
use Rattle.lemmas_invariant.proofs.StaysSized.{sized-final, sized_fresh}
use Rattle.theorem_serial_calls.specs.CallList.{Run, accepted, last_left}
use Rattle.theorem_serial_calls.specs.CallList.{event_list}

-- the events of each accepted Run
unfoldable pub event_lists : List Run → List (List Event)
event_lists [] = []
event_lists (r ∷ l) = cond (accepted r) (events_from r.events ∷ event_lists l) (event_lists l)

-- a machine that keeps the rules, and that the state's bytes have room for
pub record Good (image table : List ℕ) (s : Machine) : Type 0 where
  pub sound : Sound image table s
  pub sized : Sized s

module _ (image table : List ℕ) (checked : Checked image table) where
  abbrev R : Rules
  R = rules_by image table

  -- a fresh machine is one
  pub good-fresh : (words : List ℕ) → Good image table (fresh (words_from words))
  unfolding words_from
  good-fresh words = record {
    sound = sound-fresh image table checked (words_from words);
    sized = sized_fresh (words_from words) (length-chunks num16 2 word_total words);
  }

  pub good-final : (s : Machine) (l : List Event) → Good image table s → Each (Accepted image) l → Good image table (final R s l)
  good-final s l g a = record {
    sound = sound-final image table checked s l g.sound a;
    sized = sized-final image table checked s l g.sound g.sized a;
  }

  -- ---- any number of Runs

  pub record Joined (s : Machine) (runs : List Run) : Type 0 where
    pub entries : event_list runs ≡ map bytes_of (logs R s (event_lists runs))
    pub state : last_left (encode s) runs ≡ encode (finals R s (event_lists runs))
    pub each : Each (Accepted image) (flatten (event_lists runs))
