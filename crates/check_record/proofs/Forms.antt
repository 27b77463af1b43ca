-- What the rules ask of operator, operands and labels is what the line of the opcode asks.
use mathlib.Core.Path.{◌≡◌, refl, ◌∙◌}
use mathlib.Core.Bool.{Bool, true, false, cond, ◌&&◌, and_assoc, false≢true}
use mathlib.Core.Option.{Option, none, some}
use mathlib.Core.List.{List}
use Prim.Native.Nat.{ℕ, ◌+◌, ◌-◌, ◌%◌, ◌^◌, ◌<◌}
use native.Mathlib.Nat.{zero-div}
use native.Mathlib.Omega.{arith}
use lib.Dec.{eqb, leb}
use lib.ListN.{get_or, take, drop}
use borrow.Author.Tests.{eqb-true, leb-true, le-leb, ne_eqb}
use Rattle.rules.specs.Sizes.{operator_place, operand_count_place}
use Rattle.rules.specs.Codes.{assign_code, divide_code}
use Rattle.rules.specs.Bytes.{has, all_from}
use Rattle.rules.specs.Image.{opcode, operator, operands, kind}
use Rattle.rules.specs.Statements.{shape, destinations, forms, operation_in, operation_at, others, other_in, other_at}
use Rattle.rules.specs.Statements.{condition_of, statement_of, role_a, role_b}
use Rattle.rules.specs.Check.{assign_ok, usage_ok, other_ok}
use Rattle.rules.specs.declared.statement.Operation.{Operation}
use Rattle.rules.specs.declared.statement.Operation.TheVariants.{Copy, Add, Subtract, Multiply, Divide, Pack, Unpack, DecimalAdd}
use Rattle.rules.specs.declared.statement.Statement.{Statement}
use Rattle.rules.specs.declared.statement.Statement.TheVariants.{Skip, If, SendDirect, SendBuffered, Call, Return, Transfer}
use Rattle.rules.specs.declared.statement.Statement.TheVariants.{Exit, SendTree}
use Rattle.rules.specs.declared.statement.Role.TheVariants.{Unused, Inner, Direct, Local, Buffered}
use Rattle.bytes_fields.specs.Each.{Each, each_append}
use Rattle.bytes_fields.specs.Marked.{clear}
use Rattle.lemmas_rules.specs.Logic.{and_both}
use Rattle.check_record.specs.Forms.{both_ok, labels_ok, form_ok}
use Rattle.check_record.specs.Rows.{Asks, Line, line, inner_if, steps, carries, stores, assigns, branches, table, asks_in}
use Rattle.check_record.specs.Tests.{summed, second_ok, stores_ok}
use Rattle.check_record.proofs.Sums.{same, plain, chosen}
use Rattle.check_record.proofs.Lines.{NoLine, At, lookup}

module _ (image r : List ℕ) (bytes : (i : ℕ) → get_or r i 0 < 256) where
  -- operator and operand count are such as are asked for
  abbrev pub sum_ok : Asks → Bool
  sum_ok x =
      has (summed r) x.sums && (clear (operator r) (cond x.chosen 248 255) && clear (operands r) (cond x.chosen 252 224))

  -- the rules of the opcode are these
  abbrev pub Holds : Asks → Type 0
  Holds x = form_ok image r
      ≡ (sum_ok x && (stores_ok r x.least (opcode r) && both_ok image r x.first (inner_if x.second)))

  abbrev Fits : Line → Type 0
  Fits = At Holds (opcode r)

  abbrev found : ℕ → Option Operation
  found op = operation_in forms op (operator r)

  -- ---- opcodes that are not of ASSIGN's kind

  no-form : found (opcode r) ≡ none → other_in others (opcode r) r ≡ none → form_ok image r ≡ false
  unfolding form_ok statement_of operation_at other_ok other_at
  no-form e f = rw (e, f) refl

  other-form : (s : Statement) → found (opcode r) ≡ none → other_in others (opcode r) r ≡ some s
      → form_ok image r ≡ (usage_ok (some s) (operator r) (operands r) && labels_ok image r s)
  unfolding form_ok statement_of operation_at other_ok other_at
  other-form s e f = rw (e, f) refl

  other_fits : (op : ℕ) (s : Statement) (x : Asks) → found op ≡ none → other_in others op r ≡ some s → eqb op divide_code ≡ false
      → x.least ≡ 0 → x.first ≡ role_a s → inner_if x.second ≡ role_b s
      → sum_ok x ≡ usage_ok (some s) (operator r) (operands r) → opcode r ≡ op → Holds x
  unfolding stores_ok
  other_fits op s x e f d l a b n o = other-form s (rw o e) (rw o f) ∙ rw (o, d, l, a, b, n, le-leb 0 (kind r 0) (omega arith)) refl

  -- ---- opcodes of ASSIGN's kind

  work-form : (k : Operation) → found (opcode r) ≡ some k
      → form_ok image r ≡ (eqb (operands r) (destinations (shape k) + cond (shape k).right 2 1)
      && (leb 2 (kind r 0) && cond (shape k).second (second_ok r) true && both_ok image r Inner Unused))
  unfolding form_ok statement_of operation_at assign_ok
  work-form k e = rw e (simp and_assoc)

  work-fits : (op c : ℕ) (k : Operation) → found op ≡ cond (eqb (operator r) 0) (some k) none → other_in others op r ≡ none
      → eqb op divide_code ≡ (shape k).second → destinations (shape k) + cond (shape k).right 2 1 ≡ c
      → sum_ok (stores c) ≡ (eqb (operator r) 0 && eqb (operands r) c) → opcode r ≡ op → Holds (stores c)
  unfolding stores_ok
  work-fits op c k e f d n s o = rw (s, o, d) (go (eqb (operator r) 0) refl)
    where
      go : (t : Bool) → eqb (operator r) 0 ≡ t
          → form_ok image r ≡ (t && eqb (operands r) c
          && (leb 2 (kind r 0) && cond (shape k).second (second_ok r) true && both_ok image r Inner Unused))
      go true p = rw n at (work-form k (rw (o, e, p) refl))
      go false p = no-form (rw (o, e, p) refl) (rw o f)

  -- ASSIGN: copy has two operands, and each other operator three
  abbrev pub assigned : ℕ → ℕ → Bool
  assigned o c = cond (eqb o 1) (eqb c 2) (cond (eqb o 2) (eqb c 3) (cond (eqb o 3) (eqb c 3) (cond (eqb o 4) (eqb c 3) false)))

  pub few-assigned : (o c : ℕ) → assigned o c ≡ true → (o < 8) × (c < 4) × (0 < c)
  few-assigned o c = go (eqb o 1) (eqb o 2) (eqb o 3) (eqb o 4) refl refl refl refl
    where
      go : (s t u v : Bool) → eqb o 1 ≡ s → eqb o 2 ≡ t → eqb o 3 ≡ u → eqb o 4 ≡ v
          → cond s (eqb c 2) (cond t (eqb c 3) (cond u (eqb c 3) (cond v (eqb c 3) false))) ≡ true → (o < 8) × (c < 4) × (0 < c)
      go true t u v p q w z e = (omega (arith, eqb-true o 1 p), omega (arith, eqb-true c 2 e), omega (arith, eqb-true c 2 e))
      go false true u v p q w z e = (omega (arith, eqb-true o 2 q), omega (arith, eqb-true c 3 e), omega (arith, eqb-true c 3 e))
      go false false true v p q w z e = (omega (arith, eqb-true o 3 w), omega (arith, eqb-true c 3 e), omega (arith, eqb-true c 3 e))
      go false false false true p q w z e = (omega (arith, eqb-true o 4 z), omega (arith, eqb-true c 3 e), omega (arith, eqb-true c 3 e))
      go false false false false p q w z e = absurd (false≢true e)

  pub assigned-sum : sum_ok assigns ≡ assigned (operator r) (operands r)
  unfolding all_from
  assigned-sum =
      chosen assigns.sums assigned refl (λ o c e. ((few-assigned o c e).0, (few-assigned o c e).1)) (operator r) (operands r)
      (bytes operator_place) (bytes operand_count_place)

  assign-fits : Fits (line assign_code assigns)
  unfolding stores_ok
  assign-fits h =
      rw (assigned-sum, h)
      (go (eqb (operator r) 1) (eqb (operator r) 2) (eqb (operator r) 3) (eqb (operator r) 4) refl refl refl refl)
    where
      go : (s t u v : Bool) → eqb (operator r) 1 ≡ s → eqb (operator r) 2 ≡ t → eqb (operator r) 3 ≡ u → eqb (operator r) 4 ≡ v
          → form_ok image r ≡ (cond s (eqb (operands r) 2) (cond t (eqb (operands r) 3) (cond u (eqb (operands r) 3)
          (cond v (eqb (operands r) 3) false)))
          && (leb 2 (kind r 0) && true && both_ok image r Inner Unused))
      go true t u v p q w z = work-form Copy (rw (h, p) refl)
      go false true u v p q w z = work-form Add (rw (h, p, q) refl)
      go false false true v p q w z = work-form Subtract (rw (h, p, q, w) refl)
      go false false false true p q w z = work-form Multiply (rw (h, p, q, w, z) refl)
      go false false false false p q w z = no-form (rw (h, p, q, w, z) refl) (rw h refl)

  -- IF: one of two operators, with two operands
  abbrev pub compared : ℕ → ℕ → Bool
  compared o c = leb 1 o && leb o 2 && eqb c 2

  pub few-compared : (o c : ℕ) → compared o c ≡ true → (o < 8) × (c < 4)
  few-compared o c e =
      let two = and_both (leb 1 o && leb o 2) (eqb c 2) e in
      (omega (arith, leb-true o 2 (and_both (leb 1 o) (leb o 2) two.0).1), omega (arith, eqb-true c 2 two.1))

  pub compared-sum : sum_ok branches ≡ compared (operator r) (operands r)
  unfolding all_from
  compared-sum =
      chosen branches.sums compared refl few-compared (operator r) (operands r) (bytes operator_place) (bytes operand_count_place)

  -- ---- the table

  pub plainly : (sums : ℕ) (count : ℕ → Bool) → all_from (λ c. same (has (c % 32) sums && clear c 224) (count c)) 0 256 ≡ true
      → (has (summed r) sums && (clear (operator r) 255 && clear (operands r) 224)) ≡ (eqb (operator r) 0 && count (operands r))
  plainly sums count test = plain sums count test (operator r) (operands r) (bytes operator_place) (bytes operand_count_place)

  pub none-sum : (has (summed r) 1 && (clear (operator r) 255 && clear (operands r) 224)) ≡ (eqb (operator r) 0 && eqb (operands r) 0)
  unfolding all_from
  none-sum = plainly 1 (λ c. eqb c 0) refl

  pub any_sum : (has (summed r) (2 ^ 26 - 1) && (clear (operator r) 255 && clear (operands r) 224))
      ≡ (eqb (operator r) 0 && leb (operands r) 25)
  unfolding all_from
  any_sum = plainly (2 ^ 26 - 1) (λ c. leb c 25) refl

  steps-fit : Each Fits (take 4 table)
  steps-fit = (
    other_fits 1 Skip (steps Inner) refl refl refl refl refl refl none-sum,
    (
      other_fits 3 Skip (steps Inner) refl refl refl refl refl refl none-sum,
      (
        assign-fits,
        (other_fits 4 (If (condition_of r)) branches refl refl refl refl refl refl compared-sum, tt),
      ),
    ),
  )

  signals-fit : Each Fits (take 7 (drop 4 table))
  signals-fit = (
    other_fits 5 SendDirect (carries Direct false) refl refl refl refl refl refl any_sum,
    (
      other_fits 6 SendBuffered (carries Buffered true) refl refl refl refl refl refl any_sum,
      (
        other_fits 11 SendTree (carries Buffered true) refl refl refl refl refl refl any_sum,
        (
          other_fits 7 Call (carries Direct true) refl refl refl refl refl refl any_sum,
          (
            other_fits 8 Return (carries Unused false) refl refl refl refl refl refl any_sum,
            (
              other_fits 9 Transfer (carries Local false) refl refl refl refl refl refl any_sum,
              (other_fits 10 Exit (steps Unused) refl refl refl refl refl refl none-sum, tt),
            ),
          ),
        ),
      ),
    ),
  )

  works-fit : Each Fits (drop 11 table)
  unfolding all_from
  works-fit = (
    work-fits 12 4 Divide refl refl refl refl (plainly 16 (λ c. eqb c 4) refl),
    (
      work-fits 13 2 Pack refl refl refl refl (plainly 4 (λ c. eqb c 2) refl),
      (
        work-fits 14 2 Unpack refl refl refl refl (plainly 4 (λ c. eqb c 2) refl),
        (work-fits 15 3 DecimalAdd refl refl refl refl (plainly 8 (λ c. eqb c 3) refl), tt),
      ),
    ),
  )

  all_fit : Each Fits table
  all_fit =
      each_append Fits (take 4 table) (drop 4 table) steps-fit
      (each_append Fits (take 7 (drop 4 table)) (drop 11 table) signals-fit works-fit)

  pub no-opcode : NoLine (opcode r) table → form_ok image r ≡ false
  no-opcode h = no-form (simp (
    ne_eqb (opcode r) 2 h.1.1.0,
    ne_eqb (opcode r) 12 h.1.1.1.1.1.1.1.1.1.1.1.0,
    ne_eqb (opcode r) 13 h.1.1.1.1.1.1.1.1.1.1.1.1.0,
    ne_eqb (opcode r) 14 h.1.1.1.1.1.1.1.1.1.1.1.1.1.0,
    ne_eqb (opcode r) 15 h.1.1.1.1.1.1.1.1.1.1.1.1.1.1.0,
  )) (simp (
    ne_eqb (opcode r) 1 h.0,
    ne_eqb (opcode r) 3 h.1.0,
    ne_eqb (opcode r) 4 h.1.1.1.0,
    ne_eqb (opcode r) 5 h.1.1.1.1.0,
    ne_eqb (opcode r) 6 h.1.1.1.1.1.0,
    ne_eqb (opcode r) 7 h.1.1.1.1.1.1.1.0,
    ne_eqb (opcode r) 8 h.1.1.1.1.1.1.1.1.0,
    ne_eqb (opcode r) 9 h.1.1.1.1.1.1.1.1.1.0,
    ne_eqb (opcode r) 10 h.1.1.1.1.1.1.1.1.1.1.0,
    ne_eqb (opcode r) 11 h.1.1.1.1.1.1.0,
  ))

  pub opcode-holds : Holds (asks_in table (opcode r))
  opcode-holds = lookup Holds (opcode r) table all_fit (λ no. no-opcode no ∙ rw (zero-div (2 ^ summed r)) refl)
