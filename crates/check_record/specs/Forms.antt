-- The rules of a record but for the places of its operands.
use Rattle.std.specs.Prelude.{Bool, ◌&&◌, List, ℕ, ltb}
use Rattle.rules.specs.Sizes.{block_count}
use Rattle.rules.specs.Image.{opcode, block_field, entry, operator, label_a, label_b}
use Rattle.rules.specs.Statements.{operation_at, statement_of, role_a, role_b}
use Rattle.rules.specs.declared.statement.Statement.{Statement}
use Rattle.rules.specs.declared.statement.Role.{Role}
use Rattle.rules.specs.Check.{shape_ok, label_ok}

-- what the opcode asks of the operator, the operands and the labels
abbrev pub both_ok : List ℕ → List ℕ → Role → Role → Bool
both_ok image r a b = label_ok image a (block_field r) (label_a r) && label_ok image b (block_field r) (label_b r)

abbrev pub labels_ok : List ℕ → List ℕ → Statement → Bool
labels_ok image r s = both_ok image r (role_a s) (role_b s)

unfoldable pub form_ok : List ℕ → List ℕ → Bool
form_ok image r = shape_ok (operation_at (opcode r) (operator r)) r && labels_ok image r (statement_of r)

-- all that the rules ask of a record but for the places of its operands
unfoldable pub outline_ok : List ℕ → List ℕ → Bool
outline_ok image r = ltb (block_field r) block_count && ltb (entry r) 4 && form_ok image r
