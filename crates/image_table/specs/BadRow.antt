-- The first block whose row is out of range, where there is one.
use Rattle.std.specs.Prelude.{◌≡◌, refl, Bool, true, false, cond, List, ℕ, ◌<◌, eqb, Option, Some, None}
use Rattle.std.proofs.Common.{ne_eqb, arith}
use Rattle.rules.specs.Sizes.{block_count}
use Rattle.rules.specs.Sorts.{block}
use Rattle.rules.specs.Bytes.{first_bad}
use Rattle.rules.specs.Codes.{bad_table_field_number}
use Rattle.rules.specs.Check.{row_ok, refusal, table_fault}
use Rattle.rules.specs.declared.sorts.Block.{Block}

abbrev bad_at : ℕ → Bool → Option Block
bad_at b none = cond none None (Some (block b))

abbrev first : List ℕ → ℕ
first table = first_bad (row_ok table) 0 block_count

abbrev pub bad_row : List ℕ → Option Block
bad_row table = bad_at (first table) (eqb (first table) block_count)

module _ (table : List ℕ) where
  pub row-found : (b : ℕ) → b < block_count → b ≡ first table → Some (block b) ≡ bad_row table
  row-found b h e = rw (← e, ne_eqb b block_count (omega arith))

  pub no-row : (b : ℕ) → b ≡ block_count → b ≡ first table → None ≡ bad_row table
  no-row b h e = rw (← e, h)

  -- the refusal that it makes
  pub found-fault : (b : Block) → Some b ≡ bad_row table → table_fault table ≡ refusal false bad_table_field_number b.0
  unfolding table_fault
  found-fault b e = go (eqb (first table) block_count) e
    where
      go : (t : Bool) → Some b ≡ bad_at (first table) t
          → refusal t bad_table_field_number (first table) ≡ refusal false bad_table_field_number b.0
      go true e = cc
      go false e = let h : b ≡ block (first table) = cc in rw h

  pub no-fault : None ≡ bad_row table → table_fault table ≡ 0
  unfolding table_fault
  no-fault e = go (eqb (first table) block_count) e
    where
      go : (t : Bool) → None ≡ bad_at (first table) t → refusal t bad_table_field_number (first table) ≡ 0
      go true e = refl
      go false e = cc
