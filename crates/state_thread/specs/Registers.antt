-- The registers that a presence set and 25 values say: after a store, after a filling, and after some are overlaid.
use Rattle.std.specs.Prelude.{◌≡◌, refl, true, ◌||◌, List, [], ◌∷◌, ◌++◌, map, ℕ, zero, suc, ◌+◌, ◌-◌, ◌^◌, ◌≤◌, ◌<◌, eqb, length, get_or}
use Rattle.std.specs.Prelude.{set, drop, replicate}
use Rattle.std.proofs.Common.{sym, ap, ◌∙◌, zero-add, arith, length-append, length-drop, length-set, pow_mono, pow_pos, ext_get_or}
use Rattle.std.proofs.Common.{get_or-append-add, get_or-drop, get_or-set_same, get_or-set_other}
use Rattle.std.proofs.Math.Option.{Option, none, some}
use Rattle.std.proofs.Math.Decide.{dec_lt, ℕ_discrete}
use Rattle.std.specs.Int.Bits.{bit_or}
use Rattle.std.proofs.lemmas.Nat.{or_lt}
use Rattle.std.proofs.lemmas.List.{length-replicate, get_or-replicate}
use Rattle.std.proofs.Math.ListN.{get_or-append}
use Rattle.std.proofs.Math.Pow.{pow-lt}
use Rattle.rules.specs.Sizes.{register_count}
use Rattle.rules.specs.Bytes.{has}
use Rattle.rules.specs.Machine.{fill}
use Rattle.rules.specs.Encoding.{register_of, registers_from}
use Rattle.lemmas_encoding.specs.Registers.{length-registers, register-at}
use Rattle.lemmas_rules.specs.Sets.{has-none, has_same, has_other}
use Rattle.state_registers.specs.Bits.{has-low, has-high, has-or-low, has-or-high}

-- absent registers are zero
abbrev pub AbsentZero : ℕ → List ℕ → Type 0
AbsentZero present values = (r : ℕ) → r < register_count → (has r present || eqb (get_or values r 0) 0) ≡ true

-- 25 values, presence bits 0 to 24 only, and absent registers zero
pub record TidyRegisters (present : ℕ) (values : List ℕ) : Type 0 where
  pub sized : length values ≡ register_count
  pub within : present < 2 ^ register_count
  pub absent : AbsentZero present values

-- the registers are those of l, register by register
registers-are : (present : ℕ) (values : List ℕ) (l : List (Option ℕ)) → length l ≡ register_count
    → ((r : ℕ) → r < register_count → register_of present values r ≡ get_or l r none) → registers_from present values 0 register_count ≡ l
registers-are present values l n e =
    ext_get_or none _ l (length-registers present values 0 register_count ∙ sym n)
    (λ r h. let k : r < register_count = omega (arith, length-registers present values 0 register_count) in register-at present values 0
    register_count r k ∙ rw zero-add (e r k))

length_some : (vs : List ℕ) → length (map some vs) ≡ length vs
length_some [] = refl
length_some (v ∷ vs) = ap suc (length_some vs)

some_at : (vs : List ℕ) (l : List (Option ℕ)) (r : ℕ) → r < length vs → get_or (map some vs ++ l) r none ≡ some (get_or vs r 0)
some_at [] l r h = absurd (omega arith)
some_at (v ∷ vs) l zero h = refl
some_at (v ∷ vs) l (suc r) h = some_at vs l r (omega arith)

module _ {A : Type 0} (xs ys : List A) (d : A) (r : ℕ) where
  past : length xs ≤ r → get_or (xs ++ ys) r d ≡ get_or ys (r - length xs) d
  past h = let e : r ≡ length xs + (r - length xs) = omega arith in ap (λ k. get_or (xs ++ ys) k d) e
      ∙ get_or-append-add xs ys (r - length xs) d

past-some : (vs : List ℕ) (l : List (Option ℕ)) (r : ℕ) → length vs ≤ r → get_or (map some vs ++ l) r none ≡ get_or l (r - length vs) none
past-some vs l r h = past (map some vs) l none r (omega (arith, length_some vs)) ∙ rw length_some

-- ---- a register is stored to

module _ (present : ℕ) (values : List ℕ) (r v : ℕ) (sized : length values ≡ register_count) (h : r < register_count) where
  pub stored-registers : registers_from (bit_or present (2 ^ r)) (set values r v) 0 register_count ≡ set
      (registers_from present values 0 register_count) r (some v)
  stored-registers = registers-are _ _ _ (length-set (registers_from present values 0 register_count) r (some v) ∙ length-registers present
      values 0 register_count) (λ i k. go i k (ℕ_discrete i r))
    where
      go : (i : ℕ) → i < register_count → Dec (i ≡ r)
          → register_of (bit_or present (2 ^ r)) (set values r v) i
          ≡ get_or (set (registers_from present values 0 register_count) r (some v)) i
          none
      go i k (yes e) =
          rw (
            e,
            has_same r present,
            get_or-set_same values r v 0 (omega arith),
            get_or-set_same (registers_from present values 0 register_count)
                r (some v) none (omega (arith, length-registers present values 0 register_count)),
          )
      go i k (no e) =
          rw (
            has_other i r present e,
            get_or-set_other values r i v 0 e,
            get_or-set_other
                (registers_from present values 0 register_count) r i (some v) none e,
          )
          (sym (register-at present values 0 register_count i k ∙ rw zero-add))

  stored-absent : AbsentZero present values → AbsentZero (bit_or present (2 ^ r)) (set values r v)
  stored-absent z i k = go (ℕ_discrete i r)
    where
      go : Dec (i ≡ r) → (has i (bit_or present (2 ^ r)) || eqb (get_or (set values r v) i 0) 0) ≡ true
      go (yes e) = rw (e, has_same r present)
      go (no e) = rw (has_other i r present e, get_or-set_other values r i v 0 e) (z i k)

  pub stored-tidy : TidyRegisters present values → TidyRegisters (bit_or present (2 ^ r)) (set values r v)
  stored-tidy z = record {
    sized = length-set values r v ∙ sized;
    within = or_lt register_count present (2 ^ r) z.within (pow-lt h);
    absent = stored-absent z.absent;
  }

-- ---- registers 0 upward have the values, the others are absent

module _ (vs : List ℕ) (few : length vs ≤ register_count) where
  filled_at : (r : ℕ) → length vs ≤ r → r < register_count → get_or (vs ++ replicate (register_count - length vs) 0) r 0 ≡ 0
  filled_at r h k = past vs _ 0 r h ∙ get_or-replicate (register_count - length vs) (r - length vs) 0 0 (omega arith)

  pub filled-registers : registers_from (2 ^ length vs - 1) (vs ++ replicate (register_count - length vs) 0) 0 register_count ≡ fill vs
  filled-registers = registers-are _ _ _ (simp (length-append, length_some, length-replicate) (omega arith))
      (λ r k. go r k (dec_lt r (length vs)))
    where
      go : (r : ℕ) → r < register_count → Dec (r < length vs)
          → register_of (2 ^ length vs - 1) (vs ++ replicate (register_count - length vs) 0) r ≡ get_or (fill vs) r none
      go r k (yes h) = rw (has-low (length vs) r h, get_or-append vs (replicate (register_count - length vs) 0) 0 r h)
          (sym (some_at vs _ r h))
      go r k (no h) =
          rw (has-high (length vs) r (omega arith))
          (sym (past-some vs _ r (omega arith) ∙ get_or-replicate (register_count - length vs) (r - length vs) none none (omega arith)))

  filled-absent : AbsentZero (2 ^ length vs - 1) (vs ++ replicate (register_count - length vs) 0)
  filled-absent r k = go (dec_lt r (length vs))
    where
      go : Dec (r < length vs) → (has r (2 ^ length vs - 1) || eqb (get_or (vs ++ replicate (register_count - length vs) 0) r 0) 0) ≡ true
      go (yes h) = rw (has-low (length vs) r h)
      go (no h) = rw (has-high (length vs) r (omega arith), filled_at r (omega arith) k)

  pub filled-tidy : TidyRegisters (2 ^ length vs - 1) (vs ++ replicate (register_count - length vs) 0)
  filled-tidy = record {
    sized = simp (length-append, length-replicate) (omega arith);
    within = omega (arith, pow_mono few, pow_pos (length vs));
    absent = filled-absent;
  }

-- ---- registers 0 upward have the values, the others stay

module _ (present : ℕ) (values vs : List ℕ) (sized : length values ≡ register_count) (few : length vs ≤ register_count) where
  pub overlaid-registers : registers_from (bit_or present (2 ^ length vs - 1)) (vs ++ drop (length vs) values) 0 register_count
      ≡ map some vs
      ++ drop (length vs) (registers_from present values 0 register_count)
  overlaid-registers =
      registers-are _ _ _ (simp (length-append, length_some, length-drop, length-registers) (omega arith))
      (λ r k. go r k (dec_lt r (length vs)))
    where
      go : (r : ℕ) → r < register_count → Dec (r < length vs)
          → register_of (bit_or present (2 ^ length vs - 1)) (vs ++ drop (length vs) values) r ≡ get_or
          (map some vs ++ drop (length vs) (registers_from present values 0 register_count)) r none
      go r k (yes h) = rw (has-or-low present (length vs) r h, get_or-append vs (drop (length vs) values) 0 r h)
          (sym (some_at vs _ r h))
      go r k (no h) =
          let e : length vs + (r - length vs) ≡ r = omega arith in
          let a : get_or (vs ++ drop (length vs) values) r 0 ≡ get_or values r 0 = past vs _ 0 r (omega arith)
          ∙ get_or-drop (length vs) values (r - length vs) 0 ∙ rw e in
          let b : get_or (map some vs ++ drop (length vs) (registers_from present values 0 register_count)) r none ≡ get_or
          (registers_from present values 0 register_count) r none =
          past-some vs _ r (omega arith) ∙ get_or-drop (length vs) _ (r - length vs) none ∙ rw e in
          rw (has-or-high present (length vs) r (omega arith), a) (sym (b ∙ register-at present values 0 register_count r k ∙ rw zero-add))

  overlaid-absent : AbsentZero present values → AbsentZero (bit_or present (2 ^ length vs - 1)) (vs ++ drop (length vs) values)
  overlaid-absent z r k = go (dec_lt r (length vs))
    where
      go : Dec (r < length vs) → (has r (bit_or present (2 ^ length vs - 1)) || eqb (get_or (vs ++ drop (length vs) values) r 0) 0) ≡ true
      go (yes h) = rw (has-or-low present (length vs) r h)
      go (no h) =
          let e : length vs + (r - length vs) ≡ r = omega arith in
          let a : get_or (vs ++ drop (length vs) values) r 0 ≡ get_or values r 0 = past vs _ 0 r (omega arith)
          ∙ get_or-drop (length vs) values (r - length vs) 0 ∙ rw e in
          rw (has-or-high present (length vs) r (omega arith), a) (z r k)

  pub overlaid-tidy : TidyRegisters present values → TidyRegisters (bit_or present (2 ^ length vs - 1)) (vs ++ drop (length vs) values)
  overlaid-tidy z = record {
    sized = simp (length-append, length-drop) (omega arith);
    within = or_lt register_count present (2 ^ length vs - 1) z.within (omega (arith, pow_mono few, pow_pos (length vs)));
    absent = overlaid-absent z.absent;
  }

-- ---- no register is present

pub none-registers : (values : List ℕ) (r n : ℕ) → registers_from 0 values r n ≡ replicate n none
unfolding registers_from
none-registers values r zero = refl
none-registers values r (suc n) = rw (has-none r, none-registers values (suc r) n)

pub none-tidy : (values : List ℕ) → length values ≡ register_count → ((r : ℕ) → r < register_count → get_or values r 0 ≡ 0)
    → TidyRegisters 0 values
none-tidy values n z = record { sized = n; within = omega arith; absent = λ r h. rw (z r h, has-none r) }
