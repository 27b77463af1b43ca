-- The rules of a record, cut as the check goes through them: its outline, and its operands.
use mathlib.Core.Path.{◌≡◌}
use mathlib.Core.Bool.{Bool, true, false, ◌&&◌, and_assoc, and-true, and-false}
use mathlib.Core.List.{List}
use Prim.Native.Nat.{ℕ}
use lib.Dec.{ltb}
use Rattle.rules.specs.Sizes.{block_count, operand_count}
use Rattle.rules.specs.Bytes.{all_from}
use Rattle.rules.specs.Image.{opcode, block_field, entry, operator, label_a, label_b}
use Rattle.rules.specs.Statements.{operation_at, statement_of, role_a, role_b}
use Rattle.rules.specs.Check.{shape_ok, head_ok, operand_slot_ok, label_ok, rule_ok}
use Rattle.check_record.specs.Forms.{form_ok, outline_ok}
use Rattle.check_operands.specs.Operands.{slots_ok}

moved : (b e s x l₁ l₂ : Bool) → (b && e && s && x && l₁ && l₂) ≡ (b && e && (s && (l₁ && l₂)) && x)
moved b e s true l₁ l₂ = simp (and_assoc, and-true)
moved b e s false l₁ l₂ = simp and-false

module _ (image r : List ℕ) where
  abbrev shaped : Bool
  shaped = shape_ok (operation_at (opcode r) (operator r)) r

  pub rule : rule_ok image r ≡ (outline_ok image r && slots_ok r)
  unfolding rule_ok head_ok form_ok outline_ok
  rule =
      moved (ltb (block_field r) block_count) (ltb (entry r) 4) shaped (all_from (operand_slot_ok r) 0 operand_count)
      (label_ok image (role_a (statement_of r)) (block_field r) (label_a r))
      (label_ok image (role_b (statement_of r)) (block_field r) (label_b r))
