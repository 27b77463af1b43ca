-- A link on bytes, computed: `links`. The numbers are those of docs/MACHINE.md, so that a wrong one in the law, or another order of numbers
-- 1 to 4, fails here; the order of those behind them is in LinkOrder.
use Rattle.std.specs.Prelude.{◌≡◌, refl, List, [], ◌∷◌, ◌++◌, ℕ, replicate}
use Rattle.rules.specs.Bytes.{num16, all_from, any_from, first_bad, blocks, chunks, every, pad}
use Rattle.rules.specs.Image.{labels, record_at}
use Rattle.rules.specs.Statements.{operation_at, other_at, statement_of}
use Rattle.rules.specs.Check.{other_ok, head_ok, operand_slot_ok, label_ok, rule_ok, record_ok}
use Rattle.rules.specs.Check.{row_ok, image_length_fault, table_length_fault}
use Rattle.rules.specs.Check.{table_fault, record_fault, first_refusal}
use Rattle.rules.specs.Link.{shift_record, records, linked, names, share_block}
use Rattle.rules.specs.Calls.{shared_block_fault, too_many_records_fault, output_length_fault, check_return, link_return, link_out}
use Rattle.theorem_trials.specs.Lent.{record_bytes, exiting, table}

-- in block 1: CALL to label a with return label b, entry 3; EXIT; RETURN, entry 1
abbrev calling : ℕ → ℕ → List ℕ
calling a b = record_bytes 7 1 3 0 a b [] ++ record_bytes 10 1 0 0 0 0 [] ++ record_bytes 8 1 1 0 0 0 []

-- EXIT in block 0 with entry 4
abbrev faulty : List ℕ
faulty = exiting 0 4

-- room for four records
abbrev space : List ℕ
space = replicate 336 7

pub record Links : Type 0 where
  -- the used labels of the second image are one higher, A and B of CALL alike; zeros that are not used stay
  pub accepted : link_return (exiting 0 3) (calling 2 1) table space ≡ 0
  pub linked : link_out (exiting 0 3) (calling 2 1) table space ≡ exiting 0 3 ++ calling 3 2
  pub passes : check_return (exiting 0 3 ++ calling 3 2) table ≡ 0
  -- a block in common: number 13, and nothing is written; a byte of the output too few: 15
  pub shared : link_return (exiting 1 3) (calling 2 1) table space ≡ 851968
  pub unwritten : link_out (exiting 1 3) (calling 2 1) table space ≡ space
  pub short : link_return (exiting 0 3) (calling 2 1) table (replicate 335 7) ≡ 983040
  -- number 4 of the second image: its label 3 is none of its own, though the linked image would have it
  pub own-labels : link_return (exiting 0 3) (calling 3 1) table space ≡ 262144
  -- number 4 of both: the place is the first image's label, be it the higher or the lower one; also where both name a block
  pub first-label : link_return (exiting 0 3 ++ faulty) faulty table space ≡ 262145
  pub first-label-lower : link_return faulty (exiting 0 3 ++ faulty) table space ≡ 262144
  -- before it number 1, also of the second image; then 2, and 3 of the last block
  pub second-length : link_return faulty [] [] space ≡ 65536
  pub table-length : link_return faulty faulty (replicate 47 0) space ≡ 131072
  pub table-field : link_return faulty faulty (replicate 47 0 ++ 16 ∷ []) space ≡ 196623

pub links : Links
unfolding num16 all_from any_from first_bad blocks chunks every pad labels record_at operation_at other_at statement_of other_ok head_ok
    operand_slot_ok label_ok rule_ok record_ok row_ok image_length_fault table_length_fault table_fault record_fault first_refusal
    shift_record records linked names share_block shared_block_fault too_many_records_fault output_length_fault check_return link_return
    link_out
links = record {
  accepted = refl;
  linked = refl;
  passes = refl;
  shared = refl;
  unwritten = refl;
  short = refl;
  own-labels = refl;
  first-label = refl;
  first-label-lower = refl;
  second-length = refl;
  table-length = refl;
  table-field = refl;
}
