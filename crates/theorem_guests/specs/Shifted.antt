-- A record with its labels shifted: what it says is the same, but for its used labels, which are d higher.
use Rattle.std.specs.Prelude.{◌≡◌, List}
use Prim.Native.Nat.{ℕ}
use Rattle.rules.specs.Sizes.{operand_count}
use Rattle.rules.specs.Bytes.{all_from}
use Rattle.rules.specs.Image.{block_field, entry, label_a, label_b}
use Rattle.rules.specs.Statements.{statement_of, data_of}
use Rattle.rules.specs.Statements.{role_a, role_b}
use Rattle.rules.specs.Check.{head_ok, operand_slot_ok}
use Rattle.rules.specs.Link.{shift_label}

-- r' is r with its labels shifted
pub record Shifted (d : ℕ) (r r' : List ℕ) : Type 0 where
  pub statement : statement_of r' ≡ statement_of r
  pub given : data_of r' ≡ data_of r
  pub block : block_field r' ≡ block_field r
  pub entry : entry r' ≡ entry r
  pub head : head_ok r' ≡ head_ok r
  pub slots : all_from (operand_slot_ok r') 0 operand_count ≡ all_from (operand_slot_ok r) 0 operand_count
  pub a : label_a r' ≡ shift_label d (role_a (statement_of r)) (label_a r)
  pub b : label_b r' ≡ shift_label d (role_b (statement_of r)) (label_b r)
