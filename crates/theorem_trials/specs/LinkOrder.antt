-- The order of the link's own numbers: `link_order`, of two images of EXITs, over their blocks, their counts and the output. The numbers
-- are those of docs/MACHINE.md, so that a wrong one in the law, or another order, fails here.
use Rattle.std.specs.Prelude.{◌≡◌, Bool, ◌&&◌, List, ℕ, ◌+◌, ◌*◌, ◌≤◌, ◌<◌, length}
use Rattle.std.proofs.Math.Path.{refl, sym}
use Rattle.std.proofs.Common.{◌∙◌, arith}
use Rattle.std.proofs.Math.Bool.{true, false}
use Rattle.std.proofs.Math.Dec.{eqb}
use borrow.Author.Tests.{lt-ltb, lt-leb, le-leb, eq-eqb, ne_eqb, eqb-true}
use Rattle.rules.specs.Bytes.{num16, all_from, first_bad, pad, every}
use Rattle.rules.specs.Image.{labels}
use Rattle.rules.specs.Statements.{operation_at, other_at, statement_of}
use Rattle.rules.specs.Check.{other_ok, head_ok, operand_slot_ok, label_ok, rule_ok, row_ok, table_length_fault, table_fault, first_refusal}
use Rattle.rules.specs.Link.{names, share_block}
use Rattle.rules.specs.Calls.{shared_block_fault, too_many_records_fault, output_length_fault, link_faults, link_return}
use Rattle.bytes_fields.specs.Runs.{any_at, any_none}
use Rattle.theorem_trials.specs.Lent.{exiting, times, table}
use Rattle.theorem_trials.specs.Copies.{Copies, length-times, labels-copies, right-length, no-bad-record, names-copies}

-- an image of n EXITs in a block
abbrev exits : ℕ → ℕ → List ℕ
exits block n = times n (exiting block 3)

-- one of 16 blocks, and 1 to 512 records
pub record Fits (block n : ℕ) : Type 0 where
  pub block_in : block < 16
  pub some_of : 0 < n
  pub few : n ≤ 512

-- ---- such an image passes numbers 1 and 4

sound : (b : ℕ) → b < 16 → (image : List ℕ) → rule_ok image (exiting b 3) ≡ true
unfolding num16 all_from pad operation_at other_at statement_of other_ok head_ok operand_slot_ok label_ok rule_ok
sound b h image = rw (lt-ltb b 16 h) refl

whole : (b : ℕ) → length (exiting b 3) ≡ 84
unfolding pad
whole b = refl

copies : (b n : ℕ) → Fits b n → Copies (exiting b 3) n
copies b n f = record { whole = whole b; sound = sound b f.block_in; some_of = f.some_of; few = f.few }

-- ---- two of them, linked

module _ (b c m n : ℕ) (f : Fits b m) (g : Fits c n) (out : List ℕ) where
  abbrev first : List ℕ
  first = exits b m

  abbrev second : List ℕ
  second = exits c n

  table-length : table_length_fault table ≡ 0
  unfolding table_length_fault
  table-length = refl

  table-rows : table_fault table ≡ 0
  unfolding table_fault first_bad row_ok every
  table-rows = refl

  -- numbers 1 to 4 do not apply
  own-faults : link_return first second table out ≡ first_refusal (link_faults first second out)
  unfolding link_return first_refusal
  own-faults =
      rw (
        right-length (exiting b 3) m (copies b m f),
        right-length (exiting c 3) n (copies c n g),
        table-length,
        table-rows,
        no-bad-record (exiting b 3) m (copies b m f),
        no-bad-record (exiting c 3) n (copies c n g),
      )
      refl

  both-name : (k : ℕ) → (names first k && names second k) ≡ (eqb b k && eqb c k)
  both-name k = rw (names-copies (exiting b 3) m (copies b m f) k, names-copies (exiting c 3) n (copies c n g) k) refl

  all-labels : labels first + labels second ≡ m + n
  all-labels = rw (labels-copies (exiting b 3) m (copies b m f), labels-copies (exiting c 3) n (copies c n g)) refl

  all-bytes : length first + length second ≡ 84 * (m + n)
  all-bytes = rw (length-times (exiting b 3) (whole b) m, length-times (exiting c 3) (whole c) n) (omega arith)

  -- in one block
  sharing : b ≡ c → link_return first second table out ≡ 851968
  unfolding first_refusal shared_block_fault share_block
  sharing e =
      let k : (names first b && names second b) ≡ true = both-name b ∙ rw (eq-eqb b b refl, eq-eqb c b (sym e)) refl in
      own-faults ∙ rw (any_at (λ k. names first k && names second k) 0 16 b k (omega arith) (omega (arith, f.block_in))) refl

  -- in two blocks
  module _ (apart : b ≡ c → ⊥) where
    not-shared : shared_block_fault first second ≡ 0
    unfolding shared_block_fault share_block
    not-shared = rw (any_none (λ k. names first k && names second k) 0 16 (λ k p q. both-name k ∙ case k (eqb b k) refl)) refl
      where
        case : (k : ℕ) (t : Bool) → eqb b k ≡ t → (t && eqb c k) ≡ false
        case k true e = ne_eqb c k (λ h. apart (eqb-true b k e ∙ sym h))
        case k false e = refl

    crowded : 512 < m + n → link_return first second table out ≡ 917504
    unfolding first_refusal too_many_records_fault
    crowded h = own-faults ∙ rw (not-shared, all-labels, lt-leb (m + n) 512 h) refl

    module _ (room : m + n ≤ 512) where
      not-crowded : too_many_records_fault first second ≡ 0
      unfolding too_many_records_fault
      not-crowded = rw (all-labels, le-leb (m + n) 512 room) refl

      mismatched : (length out ≡ 84 * (m + n) → ⊥) → link_return first second table out ≡ 983040
      unfolding first_refusal output_length_fault
      mismatched h = own-faults ∙ rw (not-shared, not-crowded, all-bytes, ne_eqb (length out) (84 * (m + n)) h) refl

      exact : length out ≡ 84 * (m + n) → link_return first second table out ≡ 0
      unfolding first_refusal output_length_fault
      exact h = own-faults ∙ rw (not-shared, not-crowded, all-bytes, eq-eqb (length out) (84 * (m + n)) h) refl

-- ---- the trials

pub record LinkOrder : Type 0 where
  -- in one block: number 13, however many records there are together, and whatever the output
  pub one_block : (b m n : ℕ) (out : List ℕ) → Fits b m → Fits b n → link_return (exits b m) (exits b n) table out ≡ 851968
  -- in two, above 512 records: number 14, whatever the output
  pub many-records : (b c m n : ℕ) (out : List ℕ) → Fits b m → Fits c n → (b ≡ c → ⊥) → 512 < m + n
      → link_return (exits b m) (exits c n) table out ≡ 917504
  -- up to 512: number 15 for an output of any other length than 84 bytes a record, and no refusal for one of that length
  pub other_length : (b c m n : ℕ) (out : List ℕ) → Fits b m → Fits c n → (b ≡ c → ⊥) → m + n ≤ 512 → (length out ≡ 84 * (m + n) → ⊥)
      → link_return (exits b m) (exits c n) table out ≡ 983040
  pub exact-length : (b c m n : ℕ) (out : List ℕ) → Fits b m → Fits c n → (b ≡ c → ⊥) → m + n ≤ 512 → length out ≡ 84 * (m + n)
      → link_return (exits b m) (exits c n) table out ≡ 0

pub link_order : LinkOrder
link_order = record {
  one_block = λ b m n out f g. sharing b b m n f g out refl;
  many-records = λ b c m n out f g. crowded b c m n f g out;
  other_length = λ b c m n out f g. mismatched b c m n f g out;
  exact-length = λ b c m n out f g. exact b c m n f g out;
}
