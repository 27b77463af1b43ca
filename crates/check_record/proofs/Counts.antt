-- What the test of its count says of a record's operands.
use mathlib.Core.Path.{◌≡◌, refl, sym, ◌∙◌}
use mathlib.Core.Bool.{true, false, ◌&&◌, false≢true}
use mathlib.Core.List.{List}
use Prim.Native.Nat.{ℕ, ◌-◌, ◌%◌, ◌^◌, ◌<◌, ◌≤◌}
use native.Mathlib.Nat.{zero-div}
use native.Mathlib.Omega.{arith}
use lib.Dec.{eqb, leb}
use lib.ListN.{get_or, take, drop}
use borrow.Author.Tests.{eqb-true, leb-true, le-leb}
use Rattle.rules.specs.Codes.{divide_code}
use Rattle.rules.specs.Bytes.{has, all_from}
use Rattle.rules.specs.Image.{opcode, operator, operands, kind}
use Rattle.rules.specs.declared.statement.Role.TheVariants.{Unused, Inner, Direct, Local, Buffered}
use Rattle.bytes_fields.specs.Each.{Each, each_append}
use Rattle.bytes_fields.specs.Marked.{clear}
use Rattle.lemmas_rules.specs.Logic.{and_both}
use Rattle.check_record.specs.Rows.{Asks, steps, carries, stores, assigns, branches, table, asks_in}
use Rattle.check_record.specs.Tests.{summed, stores_ok, Stores}
use Rattle.check_record.proofs.Sums.{same}
use Rattle.check_record.proofs.Lines.{At, lookup}
use Rattle.check_record.proofs.Forms.{sum_ok, few-assigned, assigned-sum, few-compared, compared-sum, plainly, none-sum, any_sum}

module _ (image r : List ℕ) (bytes : (i : ℕ) → get_or r i 0 < 256) where
  -- a record with such a count as is asked for has up to 25 operands; where it has none or more than five, nothing is asked of what it
  -- stores to
  abbrev pub Counted : Asks → Type 0
  Counted x = sum_ok image r bytes x ≡ true → (operands r ≤ 25) × Stores r x.least (opcode r)

  no_store : (op : ℕ) (x : Asks) → eqb op divide_code ≡ false → x.least ≡ 0 → (sum_ok image r bytes x ≡ true → operands r ≤ 25)
      → opcode r ≡ op → Counted x
  unfolding stores_ok
  no_store op x d l n o e =
      let free : stores_ok r x.least (opcode r) ≡ true = rw (o, d, l, le-leb 0 (kind r 0) (omega arith)) refl in
      (n e, ((λ h. free), (λ h. free)))

  few-stored : (x : Asks) → (sum_ok image r bytes x ≡ true → (operands r < 6) × (0 < operands r)) → Counted x
  few-stored x n e =
      let few = (n e).0 in
      let some = (n e).1 in
      (omega arith, ((λ h. absurd (omega arith)), (λ h. absurd (omega arith))))

  no-count : (has (summed r) 1 && (clear (operator r) 255 && clear (operands r) 224)) ≡ true → operands r ≤ 25
  no-count e =
      omega (arith, eqb-true (operands r) 0 (and_both (eqb (operator r) 0) (eqb (operands r) 0) (sym (none-sum image r bytes) ∙ e)).1)

  any-count : (has (summed r) (2 ^ 26 - 1) && (clear (operator r) 255 && clear (operands r) 224)) ≡ true → operands r ≤ 25
  any-count e = leb-true (operands r) 25 (and_both (eqb (operator r) 0) (leb (operands r) 25) (sym (any_sum image r bytes) ∙ e)).1

  one-count : (sums k : ℕ) → all_from (λ c. same (has (c % 32) sums && clear c 224) (eqb c k)) 0 256 ≡ true → k < 6 → 0 < k
      → (has (summed r) sums && (clear (operator r) 255 && clear (operands r) 224)) ≡ true → (operands r < 6) × (0 < operands r)
  one-count sums k test l p e =
      let is = eqb-true (operands r) k
      (and_both (eqb (operator r) 0) (eqb (operands r) k) (sym (plainly image r bytes sums (λ c. eqb c k) test) ∙ e)).1 in
      (omega arith, omega arith)

  compared-count : sum_ok image r bytes branches ≡ true → operands r ≤ 25
  compared-count e = omega (arith, (few-compared image r bytes (operator r) (operands r) (sym (compared-sum image r bytes) ∙ e)).1)

  assigned-count : sum_ok image r bytes assigns ≡ true → (operands r < 6) × (0 < operands r)
  assigned-count e =
      let few = few-assigned image r bytes (operator r) (operands r) (sym (assigned-sum image r bytes) ∙ e) in
      (omega (arith, few.1), omega (arith, few.2))

  steps-counted : Each (At Counted (opcode r)) (take 4 table)
  steps-counted = (
    no_store 1 (steps Inner) refl refl no-count,
    (
      no_store 3 (steps Inner) refl refl no-count,
      (
        λ o. few-stored assigns assigned-count,
        (no_store 4 branches refl refl compared-count, tt),
      ),
    ),
  )

  signals-counted : Each (At Counted (opcode r)) (take 7 (drop 4 table))
  signals-counted = (
    no_store 5 (carries Direct false) refl refl any-count,
    (
      no_store 6 (carries Buffered true) refl refl any-count,
      (
        no_store 11 (carries Buffered true) refl refl any-count,
        (
          no_store 7 (carries Direct true) refl refl any-count,
          (
            no_store 8 (carries Unused false) refl refl any-count,
            (
              no_store 9 (carries Local false) refl refl any-count,
              (no_store 10 (steps Unused) refl refl no-count, tt),
            ),
          ),
        ),
      ),
    ),
  )

  works-counted : Each (At Counted (opcode r)) (drop 11 table)
  unfolding all_from
  works-counted = (
    λ o. few-stored (stores 4) (one-count 16 4 refl (omega arith) (omega arith)),
    (
      λ o. few-stored (stores 2) (one-count 4 2 refl (omega arith) (omega arith)),
      (
        λ o. few-stored (stores 2) (one-count 4 2 refl (omega arith) (omega arith)),
        (λ o. few-stored (stores 3) (one-count 8 3 refl (omega arith) (omega arith)), tt),
      ),
    ),
  )

  all-counted : Each (At Counted (opcode r)) table
  all-counted =
      each_append (At Counted (opcode r)) (take 4 table) (drop 4 table) steps-counted
      (each_append (At Counted (opcode r)) (take 7 (drop 4 table)) (drop 11 table) signals-counted works-counted)

  pub opcode-counted : Counted (asks_in table (opcode r))
  opcode-counted =
      lookup Counted (opcode r) table all-counted (λ no e. absurd (false≢true (rw (zero-div (2 ^ summed r)) at e)))
