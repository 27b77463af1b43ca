-- What an arrival leaves on the bytes.
use Rattle.std.specs.Prelude.{◌≡◌, Bool, false, ℕ, ◌+◌, ◌*◌, ◌≤◌, ◌<◌, length, get_or, drop}
use Rattle.std.proofs.Math.Path.{refl, subst}
use Rattle.std.proofs.Common.{sym, ap, ◌∙◌, true≢false, arith, drop-drop, get_or-drop, eq-eqb}
use Rattle.std.proofs.Math.Bool.{true}
use mathlib.Core.List.{List, []}
use Rattle.std.proofs.Math.ListN.{length-drop}
use Rattle.rules.specs.Sizes.{block_count, event_size, event_signal_place}
use Rattle.rules.specs.Codes.{arrival_code}
use Rattle.rules.specs.Bytes.{num16}
use Rattle.rules.specs.Image.{labels, row_at}
use Rattle.rules.specs.Machine.{Signal, Machine, tree_threads}
use Rattle.rules.specs.Encoding.{signal_from, machine_from}
use Rattle.rules.specs.WellFormed.{signal_tidy, pending_ok}
use Rattle.rules.specs.Events.{arrive, event_from, event_at_ok}
use Rattle.rules.specs.Steps.{rules_by, block_at, room_for, home, founded, grown}
use Rattle.rules.specs.declared.answer.Answer.TheVariants.{Taken, ListFull}
use Rattle.lemmas_encoding.specs.Encoded.{Encodes, Canonical}
use Rattle.lemmas_encoding.specs.Events.{EventRead, arrival, turned, event-read}
use Rattle.lemmas_invariant.specs.Trees.{pending-below}
use Rattle.lemmas_invariant.specs.StaysWellFormed.{Accepted}
use Rattle.state_trees.specs.Changes.{arrived}
use Rattle.lemmas_step.specs.Events.{arrives, turned-away}
use Rattle.step_contract.specs.Ready.{Ready, Done, reply_to, done}
use Rattle.step_end.specs.Home.{block_inside}

-- there is an event at index i, and it breaks no rule
pub record EventAt (image events : List ℕ) (i : ℕ) : Type 0 where
  pub room : event_size * i + event_size ≤ length events
  pub ok : event_at_ok image events i ≡ true
  pub accepted : Accepted image (event_from (drop (event_size * i) events))

-- it is an arrival
module _ {image events : List ℕ} {i : ℕ} (h : EventAt image events i) (kind : get_or events (event_size * i) 0 ≡ arrival_code) where
  abbrev bytes : List ℕ
  bytes = drop (event_size * i) events

  -- the bytes of its signal, and the signal
  abbrev signal_bytes : List ℕ
  signal_bytes = drop (event_size * i + event_signal_place) events

  abbrev signal : Signal
  signal = signal_from signal_bytes

  first_byte : get_or bytes 0 0 ≡ arrival_code
  first_byte = get_or-drop (event_size * i) events 0 0 ∙ ap (λ n. get_or events n 0) (omega arith) ∙ kind

  signal-bytes : drop event_signal_place bytes ≡ signal_bytes
  signal-bytes = drop-drop event_signal_place (event_size * i) events

  arrival-is : event_from bytes ≡ arrive signal
  unfolding event_from
  arrival-is = rw (first_byte, signal-bytes) refl

  pub arrival-tidy : signal_tidy signal_bytes ≡ true
  unfolding event_at_ok
  arrival-tidy = case (event-read image bytes (simp length-drop (omega (arith, h.room))) h.ok)
    where
      case : EventRead bytes → signal_tidy signal_bytes ≡ true
      case (arrival k t e) = rw signal-bytes at e
      case (turned m k t e) = absurd (true≢false (sym (eq-eqb _ arrival_code first_byte) ∙ m))

  pub arrival-below : num16 signal_bytes < labels image
  unfolding pending_ok signal_from
  arrival-below =
      let a : Accepted image (arrive signal) = subst (Accepted image) arrival-is h.accepted in
      pending-below image [] signal (rw a.0 refl)

  module _ {table b : List ℕ} (k : Ready image table b) where
    pub arrival-block : block_at image (num16 signal_bytes) < block_count
    arrival-block = block_inside k _ arrival-below

    abbrev m : Machine
    m = machine_from b

    -- the thread that the signal goes to, and whether there is room for a tree on it
    module _ (t : ℕ) (to : t ≡ (row_at table (block_at image (num16 signal_bytes))).thread) where
      asked : {z : Bool} → room_for (tree_threads m.trees) t ≡ z
          → room_for (tree_threads m.trees) (home (rules_by image table) signal) ≡ z
      unfolding signal_from
      asked {z} e = subst (λ (u : ℕ). room_for (tree_threads m.trees) u ≡ z) to e

      pub full-done : room_for (tree_threads m.trees) t ≡ false → Done (reply_to image table b (event_from bytes)) b ListFull
      full-done e =
          done m ListFull (ap (reply_to image table b) arrival-is ∙ turned-away (rules_by image table) m signal (asked e)) refl
          k.canonical

      pub arrived-done : {b' : List ℕ} → room_for (tree_threads m.trees) t ≡ true → Canonical b' → machine_from b' ≡ arrived t signal m
          → Done (reply_to image table b (event_from bytes)) b' Taken
      unfolding signal_from
      arrived-done {b'} e c n =
          let f : Encodes b' (arrived t signal m) = rw n at c in
          done (grown (founded (rules_by image table) signal) m) Taken
          (ap (reply_to image table b) arrival-is ∙ arrives (rules_by image table) m signal (asked e)) refl (rw to at f)
