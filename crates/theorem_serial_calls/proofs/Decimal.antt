-- Packed decimal in a list of calls: what each step stores or traps with, and that what is stored is undone by a step that reads it.
use Rattle.std.specs.Prelude.{◌≡◌, ◌⊎◌, true, false, List, [], ◌∷◌, ℕ, ◌+◌, ◌%◌, ◌≤◌, ◌<◌, get_or}
use Rattle.std.proofs.Math.Path.{refl}
use Rattle.std.proofs.Common.{subst, inl, inr, arith, lt-ltb, le-ltb}
use Rattle.std.proofs.Math.Bool.{and-false}
use Rattle.std.proofs.Math.Option.{none, some}
use Rattle.rules_decimal.specs.Packed.{pack, packed, unpack, sum}
use Rattle.rules_decimal.proofs.PackedLaws.{unpack-pack, pack-packed, pack-unpack, unpack-below, unpack-sum, sum-packed}
use Rattle.rules.specs.Image.{record_at}
use Rattle.rules.specs.Statements.{shape, operation_at, optional, assignment_by, assignment_of, statement_of}
use Rattle.rules.specs.Effects.{trap, got, read_all, one, compute}
use Rattle.rules.specs.Storing.{read-stored, read-other}
use Rattle.rules.specs.declared.statement.Assignment.{Assignment}
use Rattle.rules.specs.declared.statement.Operand.TheVariants.{Number, Register}
use Rattle.rules.specs.declared.statement.Operation.{Operation}
use Rattle.rules.specs.declared.statement.Operation.TheVariants.{Pack, Unpack, DecimalAdd}
use Rattle.rules.specs.declared.statement.Statement.TheVariants.{Assign}
use Rattle.lemmas_rules.specs.Passed.{Parts}
use Rattle.step_operands.specs.Statements.{first-lands, no-operator}
use Rattle.theorem_serial_calls.specs.CallList.{Run, Calls}
use Rattle.theorem_serial_calls.proofs.Assigning.{record-parts, place, stores, traps, absent-source}
use Rattle.theorem_serial_calls.specs.Decimal as decimal
use Rattle.theorem_serial_calls.specs.Decimal.{Turn, cells, operand_of, Leaves, Traps, Claims, Laws}

module _ (image table words state : List ℕ) (runs : List Run) (calls : Calls image table words state runs) where
  -- ---- an operation without operator

  module _ (op : ℕ) (k : Operation) (from-12 : 12 ≤ op) (named : operation_at op 0 ≡ some k) (single : (shape k).second ≡ false)
      (u : Turn image table words runs op) where
    parts : Parts image (record_at image u.job.label)
    parts = record-parts image table words state runs calls u.before u.after u.thread u.split u.locks u.job u.busy

    abbrev a : Assignment
    a = assignment_of k (record_at image u.job.label)

    statement : statement_of (record_at image u.job.label) ≡ Assign a
    unfolding statement_of
    statement = rw (u.here, no-operator parts (omega (arith, u.here)), named)

    leaves : (p q v : ℕ) → read_all (cells u) (a.left ∷ a.right ∷ []) ≡ got (p ∷ q ∷ []) → compute k p q ≡ one v → Leaves u state v
    unfolding assignment_by optional
    leaves p q v e f = record {
      stepped =
          rw single at
          (stores image table words state runs calls u.before u.after u.thread u.split u.locks u.job u.busy a statement
          p q (record { first = v; second = 0 }) e f);
      value =
          read-stored (cells u) (operand_of u 0) v
          (place image table words state runs calls u.before u.after u.thread u.split u.locks u.job u.busy
          (operand_of u 0) (first-lands parts a statement));
      others = λ z n. read-other (cells u) z (operand_of u 0) v n;
    }

    traps-by : (p q : ℕ) → read_all (cells u) (a.left ∷ a.right ∷ []) ≡ got (p ∷ q ∷ []) → compute k p q ≡ trap 9 → Traps u state 9
    unfolding assignment_by
    traps-by p q =
        traps image table words state runs calls u.before u.after u.thread u.split u.locks u.job u.busy a statement
        p q 9

    absent : (r : ℕ) → (a.left ≡ Register r) ⊎ (a.right ≡ Register r) → get_or u.job.registers r none ≡ none → Traps u state 1
    absent =
        absent-source image table words state runs calls u.before u.after u.thread u.split u.locks u.job u.busy a
        statement

  -- operand 1 of each is read as p
  abbrev Reads : {op : ℕ} → Turn image table words runs op → ℕ → Type 0
  Reads u p = decimal.Reads image table words state runs calls u p

  alone : {op : ℕ} (u : Turn image table words runs op) (p : ℕ) → Reads u p
      → read_all (cells u) (operand_of u 1 ∷ Number 0 ∷ []) ≡ got (p ∷ 0 ∷ [])
  unfolding read_all
  alone u p e = rw e

  abbrev ReadsBoth : Turn image table words runs 15 → ℕ → ℕ → Type 0
  ReadsBoth u x y = decimal.ReadsBoth image table words state runs calls u x y

  -- WITH A DIGIT ABOVE 9 IN EITHER THE STEP IS ANSWERED 8, 9
  pub traps-adding : (u : Turn image table words runs 15) (x y : ℕ) → (packed 4 x ≡ false) ⊎ (packed 4 y ≡ false) → ReadsBoth u x y
      → Traps u state 9
  unfolding operation_at assignment_by optional
  traps-adding u x y (inl h) e = traps-by 15 DecimalAdd (omega arith) refl refl u x y e (rw h)
  traps-adding u x y (inr h) e = traps-by 15 DecimalAdd (omega arith) refl refl u x y e (rw (h, and-false))

  -- ---- AN ABSENT REGISTER IS FOUND FIRST: 8, 1, whatever the other operand is

  abbrev Absent : {op : ℕ} → Turn image table words runs op → ℕ → Type 0
  Absent u i = decimal.Absent image table words state runs calls u i

  pub absent-first : (op : ℕ) → (op ≡ 13) ⊎ (op ≡ 14) ⊎ (op ≡ 15) → (u : Turn image table words runs op)
      → Absent u 1 ⊎ ((op ≡ 15) × Absent u 2) → Traps u state 1
  unfolding operation_at assignment_by optional
  absent-first op (inl o) u (inl n) = absent op Pack (omega (arith, o)) (rw o) refl u n.0 (inl n.1) n.2
  absent-first op (inl o) u (inr n) = let p = n.0 in absurd (omega (arith, o))
  absent-first op (inr (inl o)) u (inl n) = absent op Unpack (omega (arith, o)) (rw o) refl u n.0 (inl n.1) n.2
  absent-first op (inr (inl o)) u (inr n) = let p = n.0 in absurd (omega (arith, o))
  absent-first op (inr (inr o)) u (inl n) = absent op DecimalAdd (omega (arith, o)) (rw o) refl u n.0 (inl n.1) n.2
  absent-first op (inr (inr o)) u (inr n) = absent op DecimalAdd (omega (arith, o)) (rw o) refl u n.1.0 (inr n.1.1) n.1.2

  -- what is claimed of these steps holds
  pub claims : Claims image table words state runs calls
  unfolding operation_at assignment_by optional
  claims = record {
    packs = λ u p l e. leaves 13 Pack (omega arith) refl refl u p 0 (pack 4 p) (alone u p e) (rw (le-ltb 9999 p l));
    traps-above-9999 = λ u p l e. traps-by 13 Pack (omega arith) refl refl u p 0 (alone u p e) (rw (lt-ltb 9999 p l));
    unpacks = λ u x h e. leaves 14 Unpack (omega arith) refl refl u x 0 (unpack 4 x) (alone u x e) (rw h);
    traps-unpacking = λ u x h e. traps-by 14 Unpack (omega arith) refl refl u x 0 (alone u x e) (rw h);
    adds = λ u x y h k e. leaves 15 DecimalAdd (omega arith) refl refl u x y (sum 4 x y) e (rw (h, k));
    traps-adding = λ u x y h e. traps-adding u x y h e;
    absent-first = λ op o u n. absent-first op o u n;
  }

  -- A NUMBER UP TO 9,999 IS STORED PACKED
  pub packs : (u : Turn image table words runs 13) (p : ℕ) → p ≤ 9999 → Reads u p → Leaves u state (pack 4 p)
  packs = claims.packs

  -- ABOVE IT THE STEP IS ANSWERED 8, 9
  pub traps-above-9999 : (u : Turn image table words runs 13) (p : ℕ) → 9999 < p → Reads u p → Traps u state 9
  traps-above-9999 = claims.traps-above-9999

  -- A PACKED NUMBER IS STORED UNPACKED
  pub unpacks : (u : Turn image table words runs 14) (x : ℕ) → packed 4 x ≡ true → Reads u x → Leaves u state (unpack 4 x)
  unpacks = claims.unpacks

  -- WITH A DIGIT ABOVE 9 THE STEP IS ANSWERED 8, 9
  pub traps-unpacking : (u : Turn image table words runs 14) (x : ℕ) → packed 4 x ≡ false → Reads u x → Traps u state 9
  traps-unpacking = claims.traps-unpacking

  -- THE DECIMAL SUM OF TWO PACKED NUMBERS IS STORED
  pub adds : (u : Turn image table words runs 15) (x y : ℕ) → packed 4 x ≡ true → packed 4 y ≡ true → ReadsBoth u x y
      → Leaves u state (sum 4 x y)
  adds = claims.adds

  -- ---- the three laws, of four digits

  pub laws : Laws image table words state runs calls
  laws = record {
    unpack-undoes-pack = λ u p l e. (
      pack 4 p,
      packs u p l e,
      λ w f. subst (Leaves w state) (unpack-pack 4 p (omega arith)) (unpacks w (pack 4 p) (pack-packed 4 p) f),
    );
    pack-undoes-unpack = λ u x h e. (
      unpack 4 x,
      unpacks u x h e,
      λ w f.
          let below = unpack-below 4 x h in
          subst (Leaves w state) (pack-unpack 4 x h) (packs w (unpack 4 x) (omega arith) f),
    );
    sum-unpacked = λ u x y h k e. (
      sum 4 x y,
      adds u x y h k e,
      λ w f. subst (Leaves w state) (unpack-sum 4 x y) (unpacks w (sum 4 x y) (sum-packed 4 x y) f),
    );
  }

  -- UNPACK UNDOES PACK: what a step of PACK stores for p up to 9,999, a step of UNPACK that reads it stores as p
  pub unpack-undoes-pack : (u : Turn image table words runs 13) (p : ℕ) → p ≤ 9999 → Reads u p
      → (v : ℕ) × Leaves u state v × ((w : Turn image table words runs 14) → Reads w v → Leaves w state p)
  unpack-undoes-pack = laws.unpack-undoes-pack

  -- PACK UNDOES UNPACK: what a step of UNPACK stores for a packed number, a step of PACK that reads it stores as that number
  pub pack-undoes-unpack : (u : Turn image table words runs 14) (x : ℕ) → packed 4 x ≡ true → Reads u x
      → (v : ℕ) × Leaves u state v × ((w : Turn image table words runs 13) → Reads w v → Leaves w state x)
  pack-undoes-unpack = laws.pack-undoes-unpack

  -- A DECIMAL SUM, UNPACKED, IS THE SUM OF THE UNPACKED NUMBERS MODULO 10,000: what a step of DECIMAL ADD stores, a step of UNPACK that
  -- reads it stores as that sum
  pub sum-unpacked : (u : Turn image table words runs 15) (x y : ℕ) → packed 4 x ≡ true → packed 4 y ≡ true → ReadsBoth u x y
      → (v : ℕ) × Leaves u state v
      × ((w : Turn image table words runs 14) → Reads w v → Leaves w state ((unpack 4 x + unpack 4 y) % 10000))
  sum-unpacked = laws.sum-unpacked
