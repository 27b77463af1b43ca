-- A guest leaves alone every block that its image does not name: no shared word of it changes. And no thread comes to hold a lock that
-- none of the blocks has that the image names. A job writes only to the block that it is in, and takes only the locks of blocks that it
-- enters, and the image names these.
use Rattle.std.specs.Prelude.{◌≡◌, ◌≢◌, Bool, true, false, ℕ, ◌<◌}
use Rattle.std.proofs.Math.Path.{refl}
use Rattle.std.proofs.Common.{sym, ap, subst, ◌∙◌, true≢false, arith, eq-eqb}
use Rattle.std.proofs.Math.Option.{Option, none, some}
use mathlib.Core.List.{List, [], ◌∷◌}
use Rattle.rules.specs.Sizes.{thread_count}
use Rattle.rules.specs.Bytes.{has}
use Rattle.rules.specs.Image.{labels, record_at, label_a, label_b, Row, row_at}
use Rattle.rules.specs.Statements.{statement_of, data_of}
use Rattle.rules.specs.Check.{Checked}
use Rattle.rules.specs.Machine.{Signal, Job, ThreadState, idle, Machine, thread_at, locks_of, fresh, window}
use Rattle.rules.specs.Effects.{Got, trap, got, Next, on_a, on_b, into_a, call_a, back, Going, Outcome, ends, goes, outcome}
use Rattle.rules.specs.Events.{Event}
use Rattle.rules.specs.Steps.{Effect, traps, exits, moves, trap_if, alien, steer, resolve, block_at, act_by, rules_by, view, Reply, grant}
use Rattle.rules.specs.Steps.{finished, react, final}
use Rattle.rules.specs.Link.{names}
use Rattle.bytes_fields.specs.Each.{Each}
use Rattle.bytes_fields.specs.Runs.{any_at}
use Rattle.lemmas_rules.specs.Logic.{get_d-same}
use Rattle.lemmas_rules.specs.Sets.{has-none, has_other}
use Rattle.lemmas_rules.specs.Words.{window-keep-other}
use Rattle.lemmas_rules.specs.Admitted.{admitted-words, admitted-threads}
use Rattle.lemmas_rules.specs.Passed.{Passed, passed}
use Rattle.lemmas_invariant.specs.Happens.{Happens, remains, founds, starts, happens, released}
use Rattle.lemmas_invariant.specs.Members.{get_d_set}
use Rattle.lemmas_invariant.specs.Sound.{ThreadIn, Sound}
use Rattle.lemmas_invariant.specs.StaysWellFormed.{Accepted}
use Rattle.lemmas_invariant.proofs.StaysWellFormed.{effect-in, start-in, sound-react}

-- ---- a statement asks for the lock of the block that it leads to, or for none

abbrev Asks : (ℕ → ℕ) → Effect → Type 0
Asks block (traps r) = Unit {0}
Asks block exits = Unit {0}
Asks block (moves j words g none) = Unit {0}
Asks block (moves j words g (some b)) = b ≡ block j.label

module _ (block : ℕ → ℕ) (row : ℕ → Row) (gs : List Signal) where
  trap-asks : (c : Bool) (r : ℕ) (e : Effect) → Asks block e → Asks block (trap_if c r e)
  trap-asks true r e h = tt
  trap-asks false r e h = h

  steer-asks : (t a b : ℕ) (g : Going) (n : Next) (rs : List ℕ) → Asks block (steer block row t a b gs g n rs)
  steer-asks t a b g on_a rs = tt
  steer-asks t a b g on_b rs = tt
  steer-asks t a b g into_a rs = trap-asks (alien (row (block a)) t) _ _ refl
  steer-asks t a b g call_a rs = trap-asks (alien (row (block a)) t) _ _ refl
  steer-asks t a b g back [] = tt
  steer-asks t a b g back (r ∷ rs) = tt

  resolve-asks : (t a b : ℕ) (rs : List ℕ) (o : Got Outcome) → Asks block (resolve block row t rs gs a b o)
  resolve-asks t a b rs (trap r) = tt
  resolve-asks t a b rs (got ends) = tt
  resolve-asks t a b rs (got (goes g)) = steer-asks t a b g g.next rs

act-asks : (image table : List ℕ) (t : ℕ) (j : Job) (words : List ℕ) (n : ℕ) → Asks (block_at image) (act_by image table t j words n)
unfolding act_by
act-asks image table t j words n =
    let r = record_at image j.label in
    resolve-asks (block_at image) (row_at table) j.held t (label_a r) (label_b r) j.returns
    (outcome (view j words n) (statement_of r) (data_of r))

-- ---- the blocks of an image's labels

-- an image names the block of each of its labels
named : (image : List ℕ) (l : ℕ) → l < labels image → names image (block_at image l) ≡ true
unfolding names
named image l h = any_at _ 0 (labels image) l (eq-eqb (block_at image l) (block_at image l) refl) (omega arith) (omega arith)

-- ---- the words of a block that the image does not name

module _ (image table : List ℕ) (b : ℕ) (unnamed : names image b ≡ false) where
  words-kept : (s : Machine) → Sound image table s → (e : Event) (r : Reply) → Happens (rules_by image table) s e r
      → window b r.state.words ≡ window b s.words
  words-kept s k e r (remains f a q) = refl
  words-kept s k e r (founds g room) = refl
  words-kept s k e r (starts t g p w f c) = refl
  words-kept s k e r (Happens.goes t l j j' words g want w a c) =
      let below : j.label < labels image = (subst (ThreadIn image table t) w (k.threads t)).places.0.below in
      window-keep-other (block_at image j.label) b words s.words
      (λ e. true≢false (sym (named image j.label below) ∙ rw e at unnamed))
  words-kept s k e r (Happens.ends t l j a w f) = ap (window b) (admitted-words (rules_by image table) (released j a) _)

  -- A BLOCK THAT THE IMAGE DOES NOT NAME KEEPS ITS WORDS
  pub words-of-unnamed-blocks-stay : Checked image table → (s : Machine) (l : List Event) → Sound image table s → Each (Accepted image) l
      → window b (final (rules_by image table) s l).words ≡ window b s.words
  unfolding final
  words-of-unnamed-blocks-stay checked s [] k h = refl
  words-of-unnamed-blocks-stay checked s (e ∷ l) k h =
      words-of-unnamed-blocks-stay checked (react (rules_by image table) s e).state l (sound-react image table checked s e k h.0) h.1
      ∙ words-kept s k e _ (happens (rules_by image table) s e)

-- ---- a lock that none of the blocks has that the image names

abbrev pub NotOwn : List ℕ → List ℕ → ℕ → Type 0
NotOwn image table lock = (b : ℕ) → names image b ≡ true → (row_at table b).lock ≢ lock

-- no thread holds a lock
abbrev pub Free : ℕ → Machine → Type 0
Free lock s = (t : ℕ) → has lock (locks_of (thread_at s t)) ≡ false

module _ (image table : List ℕ) (lock : ℕ) (other : NotOwn image table lock) where
  -- a set of locks with the lock of a named block more
  not-granted : (l locks : ℕ) → l < labels image → has lock locks ≡ false
      → has lock (grant (rules_by image table) (some (block_at image l)) locks) ≡ false
  not-granted l locks h f =
      has_other lock (row_at table (block_at image l)).lock locks (λ e. other (block_at image l) (named image l h) (sym e)) ∙ f

  not-asked : (j : Job) (want : Option ℕ) (locks : ℕ) → Asks (block_at image) (moves j [] none want) → j.label < labels image
      → has lock locks ≡ false
      → has lock (grant (rules_by image table) want locks) ≡ false
  not-asked j none locks q h f = f
  not-asked j (some c) locks q h f = rw q (not-granted j.label locks h f)

  module _ (s : Machine) (k : Sound image table s) (ok : Passed image table) (free : Free lock s) where
    lock-free : (e : Event) (r : Reply) → Happens (rules_by image table) s e r → Free lock r.state
    lock-free e r (remains f a q) = free
    lock-free e r (founds g room) = free
    lock-free e r (starts t g p w f c) =
        get_d_set idle (λ u (z : ThreadState). has lock (locks_of z) ≡ false) s.threads t _ free
        (not-granted g.label _ (start-in image table ok s k t g p w f).below (free t))
    lock-free e r (Happens.goes t l j j' words g want w a c) =
        get_d_set idle (λ u (z : ThreadState). has lock (locks_of z) ≡ false) s.threads t _ free
        (not-asked j' want _ (subst (Asks (block_at image)) a (act-asks image table t j _ _))
        (effect-in image table ok s k t l j _ w a).0.places.0.below (free t))
    lock-free e r (Happens.ends t l j a w f) =
        rw (admitted-threads (rules_by image table) (released j a) (finished (rules_by image table) t s))
        (get_d_set idle (λ u (z : ThreadState). has lock (locks_of z) ≡ false) s.threads t idle free (has-none lock))

  -- NO THREAD COMES TO HOLD IT
  pub other-locks-stay-free : Checked image table → (s : Machine) (l : List Event) → Sound image table s → Each (Accepted image) l
      → Free lock s
      → Free lock (final (rules_by image table) s l)
  unfolding final
  other-locks-stay-free checked s [] k h free = free
  other-locks-stay-free checked s (e ∷ l) k h free =
      other-locks-stay-free checked (react (rules_by image table) s e).state l (sound-react image table checked s e k h.0) h.1
      (lock-free s k (passed image table [] checked).0 free e _ (happens (rules_by image table) s e))

-- no thread of a fresh machine holds a lock
pub fresh-free : (lock : ℕ) (words : List ℕ) → Free lock (fresh words)
unfolding fresh
fresh-free lock words t = rw (get_d-same idle thread_count t) (has-none lock)
