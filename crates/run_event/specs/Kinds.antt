-- The three kinds of event.
use Rattle.std.specs.Prelude.{◌≡◌, List, ℕ, ◌+◌, ◌*◌, ◌<◌, drop}
use Rattle.std.proofs.Math.Path.{refl}
use Rattle.std.proofs.Common.{sym, ap, ◌∙◌, arith, get_or-drop}
use Rattle.std.proofs.Math.ListN.{get_or, length-drop}
use borrow.Author.Tests.{ne_eqb}
use Rattle.rules.specs.Sizes.{thread_count, event_kind_place, event_thread_place, event_size}
use Rattle.rules.specs.Codes.{arrival_code, step_code}
use Rattle.rules.specs.Events.{step, cut, event_from, event_at_ok}
use Rattle.lemmas_encoding.specs.Events.{EventRead, arrival, turned, event-read}
use Rattle.step_send_buffered.specs.Arrivals.{EventAt}

module _ {image events : List ℕ} {i : ℕ} (h : EventAt image events i) where
  abbrev bytes : List ℕ
  bytes = drop (event_size * i) events

  kind : get_or bytes event_kind_place 0 ≡ get_or events (event_size * i) 0
  kind = get_or-drop (event_size * i) events event_kind_place 0 ∙ ap (λ n. get_or events n 0) (omega arith)

  -- the kind is the first byte
  pub kind-place : get_or events (event_size * i + event_kind_place) 0 ≡ get_or events (event_size * i) 0
  kind-place = ap (λ n. get_or events n 0) (omega arith)

  thread : get_or bytes event_thread_place 0 ≡ get_or events (event_size * i + event_thread_place) 0
  thread = get_or-drop (event_size * i) events event_thread_place 0

  -- a step and a cut have a thread 0 to 7
  pub turn-thread : (get_or events (event_size * i) 0 ≡ arrival_code → ⊥)
      → get_or events (event_size * i + event_thread_place) 0 < thread_count
  unfolding event_at_ok
  turn-thread n = case (event-read image bytes (simp length-drop (omega (arith, h.room))) h.ok)
    where
      case : EventRead bytes → get_or events (event_size * i + event_thread_place) 0 < thread_count
      case (arrival k t e) = absurd (n (sym kind ∙ k))
      case (turned m k t e) = rw thread at t

  pub step_is : get_or events (event_size * i) 0 ≡ step_code
      → event_from bytes ≡ step (get_or events (event_size * i + event_thread_place) 0)
  unfolding event_from
  step_is e = let k : get_or bytes event_kind_place 0 ≡ step_code = kind ∙ e in rw (k, thread) refl

  pub cut-is : (get_or events (event_size * i) 0 ≡ arrival_code → ⊥) → (get_or events (event_size * i) 0 ≡ step_code → ⊥)
      → event_from bytes ≡ cut (get_or events (event_size * i + event_thread_place) 0)
  unfolding event_from
  cut-is m n =
      rw (
        ne_eqb (get_or bytes event_kind_place 0) arrival_code (λ e. m (sym kind ∙ e)),
        ne_eqb (get_or bytes event_kind_place 0) step_code
            (λ e. n (sym kind ∙ e)),
        thread,
      ) refl
