use native.Mathlib.Omega.{arith}
use Rattle.image_table.specs.Rows.{all-rows}
use Rattle.image_table.proofs.rows_ok.Goals as goal

pub returns : goal.returns
returns c =
    let s = c in
    let bytes = c.type_inv.table in
    all-rows s.args.table.now s.requires (λ i. omega (arith, bytes i)) c.marked_bits.result
    c.marked_bits-2.result c.marked_bits-3.result c.marked_bits.ensures
    c.marked_bits-2.ensures c.marked_bits-3.ensures
