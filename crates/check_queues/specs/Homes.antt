-- The first signal of a tree record, and the thread of its block.
use Rattle.std.specs.Prelude.{◌≡◌, false, List, length, get_or, drop}
use Rattle.std.proofs.Math.Path.{refl}
use Prim.Native.Nat.{ℕ, zero, suc, ◌+◌, ◌≤◌}
use Rattle.std.proofs.Math.Nat.{add-zero}
use Rattle.std.proofs.Common.{arith}
use Rattle.std.proofs.Math.Dec.{eqb}
use Rattle.std.proofs.Math.ListN.{get_or-eq_default}
use Rattle.std.proofs.Math.Seq.{drop-drop, get_or-drop}
use Rattle.rules.specs.Sizes.{thread_count, table_size, signal_size, pending_count_place, signals_place}
use Rattle.rules.specs.Bytes.{num16, chunks}
use Rattle.rules.specs.Image.{labels, row_at}
use Rattle.rules.specs.Encoding.{signal_from, tree_from}
use Rattle.rules.specs.Steps.{block_at}
use Rattle.rules.specs.WellFormed.{homed_as, homed}
use Rattle.image_record.specs.Records.{no_record}

module _ (image table s : List ℕ) (at : ℕ) where
  pub homed-none : get_or s (at + pending_count_place) 0 ≡ 0 → homed image table (tree_from (drop at s)) ≡ false
  unfolding homed tree_from chunks
  homed-none e = rw (get_or-drop at s pending_count_place 0, e)

  pub homed-some : (get_or s (at + pending_count_place) 0 ≡ 0 → ⊥)
      → homed image table (tree_from (drop at s))
      ≡ eqb (get_or s at 0) (row_at table (block_at image (num16 (drop (at + signals_place) s)))).thread
  unfolding homed tree_from signal_from
  homed-some e = rw (get_or-drop at s pending_count_place 0, get_or-drop at s 0 0, add-zero, drop-drop signals_place at s)
      (go (get_or s (at + pending_count_place) 0) e)
    where
      go : (n : ℕ) → (n ≡ 0 → ⊥) → homed_as image table (get_or s at 0) (chunks signal_from signal_size n (drop (at + signals_place) s))
          ≡ eqb (get_or s at 0) (row_at table (block_at image (num16 (drop (at + signals_place) s)))).thread
      go zero h = absurd (h refl)
      go (suc n) h = unfold chunks in refl

-- a label past the image has a block past the table, and that a thread that nobody has
pub no-thread : (image table : List ℕ) (l : ℕ) → length table ≡ table_size → labels image ≤ l → (row_at table (block_at image l)).thread
    ≡ thread_count
unfolding row_at
no-thread image table l e h = rw (no_record image l h) (get_or-eq_default table thread_count (omega arith))
