-- "The walk along waits": a way through the wait-for graph, in which a ring is a deadlock.
use Rattle.std.specs.Prelude.{Bool, true, false, cond, ◌⊎◌, ◌≡◌, ℕ, zero, suc, ◌+◌, ◌-◌, length, replicate, set}
use Rattle.std.proofs.Math.Logic.{ite}
use Rattle.std.proofs.Common.{inl, inr}
use Rattle.std.proofs.Math.Option.{Option, none, some, Option-elim, map}
use mathlib.Core.List.Memᴰ
use mathlib.Core.List.{List, [], ◌∷◌, ◌++◌, Memᴰ}
use Rattle.std.proofs.Math.Decide.{ℕ_discrete}
use Rattle.rules.specs.Sizes.{thread_count}
use Rattle.rules.specs.Bytes.{has}
use Rattle.rules.specs.Machine.{ThreadState, idle, Machine, locks_of}
use Rattle.rules.specs.Events.{Event, step}
use Rattle.rules.specs.Steps.{Rules, react}
use Rattle.rules.specs.declared.answer.Answer.{Answer}
use Rattle.rules.specs.declared.answer.Answer.TheVariants.{Taken, ListFull, NoWork, Waiting, Started, Moved, Exited, Trapped}
use Rattle.rules.specs.declared.answer.Answer.TheVariants.{WasCut, NothingToCut}

-- ---- over any relation "waits for"

-- is t among these?
unfoldable pub mem? : (t : ℕ) (l : List ℕ) → Dec (Memᴰ t l)
mem? t [] = no (λ m. Memᴰ.not-nil m)
mem? t (x ∷ l) = put (ℕ_discrete t x) (mem? t l)
  where
    put : Dec (t ≡ x) → Dec (Memᴰ t l) → Dec (Memᴰ t (x ∷ l))
    put (yes e) d = yes (Memᴰ.head e)
    put (no e) (yes m) = yes (Memᴰ.tail m)
    put (no e) (no m) = no (λ k. go (Memᴰ.cases_cons k))
      where
        go : (t ≡ x) ⊎ Memᴰ t l → ⊥
        go (inl q) = e q
        go (inr q) = m q

-- the threads that a walk writes, and whether a ring closed
pub record Walk : Type 0 where
  pub threads : List ℕ
  pub ring : Bool

abbrev pub onto : ℕ → Walk → Walk
onto t w = record { threads = t ∷ w.threads; ring = w.ring }

-- the walk comes to t, having met these threads, with so many not yet met: one already written closes a ring and is not written again;
-- one that
-- does not wait is still written; otherwise the walk calls itself on the next thread
unfoldable pub walk_on : (ℕ → Option ℕ) → ℕ → List ℕ → ℕ → Walk
unfolding Option-elim
walk_on next zero met t = record { threads = []; ring = true }
walk_on next (suc left) met t =
    ite (mem? t met) (record { threads = []; ring = true })
    (onto t (Option-elim (next t) (record { threads = []; ring = false }) (λ u. walk_on next left (met ++ t ∷ []) u)))

unfoldable pub walk : (ℕ → Option ℕ) → ℕ → ℕ → Walk
walk next n t = walk_on next n [] t

-- ---- over the machine

-- what a thread would do next
abbrev pub next_turn : Machine → ℕ → Event
next_turn s t = step t

-- the lock that an answer says is waited for
abbrev pub asked : Answer → Option ℕ
asked Taken = none
asked ListFull = none
asked NoWork = none
asked (Waiting l) = some l.0
asked Started = none
asked Moved = none
asked (Exited n) = none
asked (Trapped r) = none
asked WasCut = none
asked NothingToCut = none

-- the first thread that holds a lock
unfoldable pub holder : ℕ → List ThreadState → ℕ
holder l [] = 0
holder l (w ∷ ws) = cond (has l (locks_of w)) 0 (suc (holder l ws))

module _ (R : Rules) where
  -- a thread waits for the holder if its next step would get code 4: the holder is then another thread
  unfoldable pub awaits : Machine → ℕ → Option ℕ
  awaits s t = map (λ l. holder l (set s.threads t idle)) (asked (react R s (next_turn s t)).answer)

  unfoldable pub walk_from : Machine → ℕ → Walk
  walk_from s t = walk (awaits s) thread_count t

-- each thread met, first to last; unused bytes are 255
unfoldable pub met_bytes : Walk → List ℕ
met_bytes w = w.threads ++ replicate (thread_count - length w.threads) 255

-- the count of threads written, plus 256 exactly if a ring closed
unfoldable pub met_count : Walk → ℕ
met_count w = length w.threads + cond w.ring 256 0
