-- Well formed stays well formed: every event that a checked image accepts leaves a well formed machine well formed, and a fresh
-- machine is well formed.
use Rattle.std.specs.Prelude.{◌≡◌, ℕ, ◌≤◌, ◌<◌, length}
use mathlib.Core.List.{List}
use Rattle.rules.specs.Sizes.{thread_count, register_count}
use Rattle.rules.specs.Image.{record_at, entry}
use Rattle.rules.specs.Events.{Event, arrive, turn, Valid}
use Rattle.lemmas_rules.specs.Logic.{never}

-- an event that the image accepts: an arrival's label has entry 3 and it has at most 25 values; a step and a cut name a thread 0 to 7
abbrev pub Accepted : List ℕ → Event → Type 0
Accepted image (arrive g) = (entry (record_at image g.label) ≡ 3) × (length g.values ≤ register_count)
Accepted image (turn k t) = t < thread_count

pub accepted-valid : (image : List ℕ) (e : Event) → Accepted image e → Valid e
accepted-valid image (arrive g) h t k = never (cc)
accepted-valid image (turn k u) h t q = let e : u ≡ t = cc in rw e at h
