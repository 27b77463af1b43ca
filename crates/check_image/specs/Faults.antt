-- Refusals that do not apply, and those of the image check before others.
use Rattle.std.specs.Prelude.{◌≡◌, true, List, [], ◌∷◌, ℕ, eqb, length}
use Rattle.std.proofs.Common.{arith, eqb-true}
use Rattle.rules.specs.Sizes.{block_count, table_size}
use Rattle.rules.specs.Bytes.{all_from}
use Rattle.rules.specs.Check.{row_ok, table_length_fault, table_fault, first_refusal, image_faults}
use Rattle.lemmas_rules.specs.Faults.{refusal-zero}
use Rattle.bytes_fields.specs.Runs.{none-bad}
use Rattle.check_refusal.specs.FirstOf.{joined}

pub table-length : (table : List ℕ) → table_length_fault table ≡ 0 → length table ≡ table_size
unfolding table_length_fault
table-length table e = eqb-true (length table) table_size (refusal-zero (eqb (length table) table_size) 2 0 (omega arith) e)

-- number 3 does not apply where no row is out of range
pub rows_pass : (table : List ℕ) → all_from (row_ok table) 0 block_count ≡ true → table_fault table ≡ 0
unfolding table_fault
rows_pass table e = rw (none-bad (row_ok table) 0 block_count, e)

-- what the image check says, and then others
pub image_first : (image table more : List ℕ)
    → first_refusal (image_faults image table more) ≡ first_refusal (first_refusal (image_faults image table []) ∷ more)
image_first image table more = joined (image_faults image table []) more
