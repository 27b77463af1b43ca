-- Where a statement of a checked image leads: every label of the job that it leaves is below n and in a block that the thread may be
-- in, and a signal that it sends or holds has entry 2.
use Rattle.std.specs.Prelude.{◌≡◌, Bool, ◌&&◌, ◌||◌, List, ℕ, ◌<◌, ltb}
use Rattle.std.proofs.Math.Path.{refl}
use Rattle.std.proofs.Math.Bool.{true, false, not}
use Rattle.std.proofs.Common.{true≢false, arith}
use Rattle.std.proofs.Math.Option.{Option, none, some}
use Rattle.std.proofs.Math.Dec.{eqb}
use borrow.Author.Tests.{ltb-true, eqb-true, eqb-false, eq-eqb}
use Rattle.rules.specs.Sizes.{lock_count, block_kind_count, block_count}
use Rattle.rules.specs.Codes.{fd_code, cmx_code}
use Rattle.rules.specs.Image.{labels, record_at, block_field, entry, Row, row_at}
use Rattle.rules.specs.Check.{label_ok, record_ok}
use Rattle.rules.specs.Machine.{Signal}
use Rattle.rules.specs.Steps.{Effect, traps, exits, moves, alien}
use Rattle.rules.specs.Steps.{block_at}
use Rattle.rules.specs.WellFormed.{open_to}
use Rattle.rules.specs.declared.statement.Role.{Role}
use Rattle.rules.specs.declared.statement.Role.TheVariants.{Unused, Inner, Direct, Local, Buffered}
use Rattle.lemmas_rules.specs.Heads.{Head, head-fields}
use Rattle.lemmas_rules.specs.Passed.{Passed, row_in, Parts, rule-parts}
use Rattle.lemmas_rules.specs.Logic.{and_both}
use Rattle.lemmas_invariant.specs.Sound.{PlaceIn, HeldIn, JobIn}

module _ (image table : List ℕ) where
  -- what the check says of a label v of this role, in a record of block b
  abbrev pub LabelIn : ℕ → Role → ℕ → Type 0
  LabelIn b Unused v = Unit {0}
  LabelIn b Inner v = (v < labels image) × (block_at image v ≡ b)
  LabelIn b Direct v = v < labels image
  LabelIn b Local v = (v < labels image) × (block_at image v ≡ b)
  LabelIn b Buffered v = entry (record_at image v) ≡ 2

  pub label-in : (role : Role) (b v : ℕ) → label_ok image role b v ≡ true → LabelIn b role v
  unfolding label_ok
  label-in Unused b v h = tt
  label-in Inner b v h = let k = and_both (ltb v (labels image)) _ h in (ltb-true v _ k.0, eqb-true _ b k.1)
  label-in Direct b v h = ltb-true v _ (and_both (ltb v (labels image)) (eqb (entry (record_at image v)) 1) h).0
  label-in Local b v h =
      let k =
      and_both (ltb v (labels image)) _
      (and_both (ltb v (labels image) && eqb (block_field (record_at image v)) b) (eqb (entry (record_at image v)) 1) h).0
      in
      (ltb-true v _ k.0, eqb-true _ b k.1)
  label-in Buffered b v h = eqb-true _ 2 (and_both (ltb v (labels image)) (eqb (entry (record_at image v)) 2) h).1

  module _ (passed : Passed image table) where
    pub parts : (l : ℕ) → l < labels image → Parts image (record_at image l)
    unfolding record_ok
    parts l h = rule-parts image (record_at image l) (passed.records l h)

    pub head : (l : ℕ) → l < labels image → Head (record_at image l)
    head l h = head-fields (record_at image l) (parts l h).head

    -- a label below n is in a block of the table
    pub block-below : (l : ℕ) → l < labels image → block_at image l < block_count
    block-below l h = (head l h).block

    -- a block of the table that is no FD block of another thread is CMX or the thread's own
    pub open_of : (r : Row) (t : ℕ) → r.kind < block_kind_count → alien r t ≡ false → open_to r t ≡ true
    unfolding alien
    open_of r t h e = case (eqb r.kind fd_code) refl (eqb r.thread t) refl e
      where
        case : (a : Bool) → eqb r.kind fd_code ≡ a → (b : Bool) → eqb r.thread t ≡ b → (a && not b) ≡ false
            → (eqb r.kind cmx_code || eqb r.thread t) ≡ true
        case true p true q f = rw (q, eqb-true r.kind fd_code p) refl
        case true p false q f = absurd (true≢false f)
        case false p b q f = rw (eq-eqb r.kind cmx_code (omega (arith, eqb-false r.kind fd_code p))) refl

    pub entered : (t a : ℕ) → a < labels image → alien (row_at table (block_at image a)) t ≡ false → PlaceIn image table t a
    entered t a h e =
        let k = row_in image table (block_at image a) passed (block-below a h) in
        record { below = h; allowed = open_of (row_at table (block_at image a)) t k.kind e }

    -- so the lock of its block is one of the 16
    pub lock-below : (l : ℕ) → l < labels image → (row_at table (block_at image l)).lock < lock_count
    lock-below l h = (row_in image table (block_at image l) passed (block-below l h)).lock

    -- a label in the block of a label where the thread may be
    pub inside : (t l a : ℕ) → PlaceIn image table t l → a < labels image → block_at image a ≡ block_at image l → PlaceIn image table t a
    inside t l a p h e = record { below = h; allowed = rw e p.allowed }

    -- ---- what a statement leaves

    abbrev pub SentIn : Option Signal → Type 0
    SentIn none = Unit {0}
    SentIn (some g) = HeldIn image table g

    abbrev pub EffectIn : ℕ → Effect → Type 0
    EffectIn t (traps r) = Unit {0}
    EffectIn t exits = Unit {0}
    EffectIn t (moves j words g want) = JobIn image table t j × SentIn g
