use mathlib.Core.Path.{ap, ◌∙◌}
use Prim.Native.Nat.{ℕ}
use native.Mathlib.Omega.{arith}
use Rattle.rules.specs.Sorts.{block}
use Rattle.rules.specs.Sizes.{block_place, block_count}
use Rattle.image_record.specs.Records.{get_d_any}
use Rattle.image_record.proofs.record_fields.block_field.Goals as goal

pub returns : goal.returns
returns c = c.from.ensures ∙ ap (λ (n : ℕ). block n) (get_d_any c.args.r.now block_place 0 block_count
    (omega arith))
