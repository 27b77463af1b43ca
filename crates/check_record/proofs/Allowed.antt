-- What the row of a record's opcode allows is what the rules ask.
use mathlib.Core.Path.{◌≡◌, refl, sym, ◌∙◌}
use mathlib.Core.Bool.{Bool, true, false, cond, ◌&&◌, and-true, and-false}
use mathlib.Core.List.{List}
use Prim.Native.Nat.{ℕ, ◌+◌, ◌*◌, ◌≤◌, ◌<◌}
use native.Mathlib.Nat.{add-zero}
use native.Mathlib.Omega.{arith}
use lib.ListN.{length, get_or, drop}
use lib.Seq.{get_or-drop}
use Rattle.rules.specs.Sizes.{block_count, block_place, entry_place, operator_place, label_a_place, label_b_place, operand_count_place}
use Rattle.rules.specs.Sizes.{record_size, operand_count}
use Rattle.rules.specs.Codes.{decimal_add_code}
use Rattle.rules.specs.Bytes.{has, all_from, every, num16}
use Rattle.rules.specs.Image.{labels, record_at, opcode, block_field, entry, operands, label_a, label_b}
use Rattle.rules.specs.Check.{label_ok}
use Rattle.rules.specs.declared.statement.Role.{Role}
use Rattle.rules.specs.declared.statement.Role.TheVariants.{Unused, Inner, Direct, Local, Buffered}
use Rattle.bytes_fields.specs.Bits.{below_power}
use Rattle.bytes_fields.specs.Each.{each_or}
use Rattle.bytes_fields.specs.Marked.{clear, eight, eight-of, eight-clear}
use Rattle.bytes_fields.specs.Numbers.{num64}
use Rattle.bytes_fields.specs.Runs.{all-at}
use Rattle.image_record.specs.Records.{get_d_any}
use Rattle.lemmas_rules.specs.Logic.{and_both}
use Rattle.check_record.specs.Forms.{form_ok, outline_ok}
use Rattle.check_record.specs.Rows.{Asks, inner_if, table, asks_in, zero_bits, given_bits, entry_for, marks, mark, row_for, row_of}
use Rattle.check_record.specs.Tests.{summed, agrees, stores_ok, Stores, allows}
use Rattle.check_record.proofs.Lines.{no-greater}
use Rattle.check_record.proofs.Labels.{label-bits, far-label}
use Rattle.check_record.proofs.Forms.{sum_ok, Holds, no-opcode, opcode-holds}
use Rattle.check_record.proofs.Counts.{opcode-counted}

-- the tests in the order of the code, and by rules: the sum t; bytes 1 to 8; the records at A and B; the destinations
arranged : (t b e o a₀ a₁ b₀ b₁ c a b' s : Bool)
    → (t && (b && (e && (o && (a₀ && (a₁ && (b₀ && (b₁ && (c && true))))))) && (a && (b' && s))))
    ≡ (b && e && (t && (o && c) && (s && (a₀ && a₁ && a && (b₀ && b₁ && b')))))
arranged false b e o a₀ a₁ b₀ b₁ c a b' s = simp and-false
arranged true false e o a₀ a₁ b₀ b₁ c a b' s = refl
arranged true true false o a₀ a₁ b₀ b₁ c a b' s = refl
arranged true true true false a₀ a₁ b₀ b₁ c a b' s = refl
arranged true true true true false a₁ b₀ b₁ c a b' s = simp and-false
arranged true true true true true false b₀ b₁ c a b' s = simp and-false
arranged true true true true true true false b₁ c a b' s = simp and-false
arranged true true true true true true true false c a b' s = simp and-false
arranged true true true true true true true true false a b' s = refl
arranged true true true true true true true true true false b' s = simp and-false
arranged true true true true true true true true true true false s = simp and-false
arranged true true true true true true true true true true true s = sym (and-true s)

last : (t b a b' s : Bool) → (t && (b && (a && b')) && s) ≡ (t && (b && (a && (b' && s))))
last false b a b' s = refl
last true false a b' s = refl
last true true false b' s = refl
last true true true b' s = refl

zeros-short : (a : Role) → zero_bits a < 256
zeros-short Unused = omega arith
zeros-short Inner = omega arith
zeros-short Direct = omega arith
zeros-short Local = omega arith
zeros-short Buffered = omega arith

one-short : (b : Bool) (x y : ℕ) → x < 256 → y < 256 → cond b x y < 256
one-short true x y h l = h
one-short false x y h l = l

mark-short : (x : Asks) (i : ℕ) → mark x i < 256
mark-short x i =
    let a = zeros-short x.first in
    let b = zeros-short (inner_if x.second) in
    let o = one-short x.chosen 248 255 (omega arith) (omega arith) in
    let c = one-short x.chosen 252 224 (omega arith) (omega arith) in
    each_or (λ m. m < 256) (marks x) i 0 (omega arith, (omega arith, (omega arith, (o, (a, (a, (b, (b, (c, tt))))))))) (omega arith)

no-entry : (b : Bool) → entry_for (inner_if b) ≡ 0
no-entry true = refl
no-entry false = refl

module _ (image r : List ℕ) (size : length r ≡ record_size) (some : 0 < labels image) where
  own : block_field r ≡ get_or r block_place 0
  own = get_d_any r block_place block_count 0 (omega arith)

  -- a label that the image does not have, and an opcode that there is not
  pub far-a : labels image ≤ label_a r → outline_ok image r ≡ false
  unfolding outline_ok form_ok
  far-a h = simp (far-label image (block_field r) (label_a r) some h, and-false)

  pub far-b : labels image ≤ label_b r → outline_ok image r ≡ false
  unfolding outline_ok form_ok
  far-b h = simp (far-label image (block_field r) (label_b r) some h, and-false)

  module _ (bytes : (i : ℕ) → get_or r i 0 < 256) where
    pub far-opcode : decimal_add_code < opcode r → outline_ok image r ≡ false
    unfolding outline_ok every
    far-opcode h = simp (no-opcode image r bytes (no-greater (opcode r) table h refl), and-false)

    module _ (whole : (i : ℕ) → get_or image i 0 < 256) (a : label_a r < labels image) (b : label_b r < labels image) where
      joined : (at : ℕ) → num16 (drop at r) ≡ get_or r at 0 + 256 * get_or r (at + 1) 0
      unfolding num16
      joined at = rw (get_or-drop at r 0 0, get_or-drop at r 1 0, add-zero)

      -- the label at a place of the record, by its two bytes and the record there
      label_is : (role : Role) (at : ℕ) → num16 (drop at r) < labels image
          → (clear (get_or r at 0) (zero_bits role) && clear (get_or r (at + 1) 0) (zero_bits role)
          && agrees (record_at image (num16 (drop at r))) (get_or r block_place 0) (entry_for role) (given_bits role))
          ≡ label_ok image role (block_field r) (num16 (drop at r))
      label_is role at h =
          rw own
          (label-bits image whole (num16 (drop at r)) (get_or r block_place 0) h (bytes block_place) role (get_or r at 0)
          (get_or r (at + 1) 0)
          (joined at) (bytes at) (bytes (at + 1)))

      module _ (x : Asks) where
        abbrev byte : ℕ → Bool
        byte i = clear (get_or r i 0) (mark x i)

        bare : clear (num64 (drop block_place r)) (eight (mark x) block_place) ≡ all_from byte block_place 8
        bare = rw (eight-of r block_place) (eight-clear (λ i. get_or r i 0) (mark x) bytes (mark-short x) block_place)

        -- the sum and the bytes of operator and operand count are as they are asked for
        counted : allows image r (row_for x) ≡ true → sum_ok image r bytes x ≡ true
        unfolding allows
        counted e =
            let sum = and_both (has (summed r) x.sums) _ e in
            let zeros = sym bare ∙ (and_both (clear (num64 (drop block_place r)) (eight (mark x) block_place)) _ sum.1).0 in
            rw (
              sum.0,
              all-at byte block_place 8 operator_place zeros (omega arith) (omega arith),
              all-at byte block_place 8 operand_count_place zeros (omega arith) (omega arith),
            )
            refl

        allowed : Holds image r bytes x → (allows image r (row_for x) && stores_ok r x.least (opcode r)) ≡ outline_ok image r
        unfolding allows outline_ok all_from
        allowed e =
            let there = agrees (record_at image (label_a r)) (get_or r block_place 0) (entry_for x.first) (given_bits x.first) in
            let here = agrees (record_at image (label_b r)) (get_or r block_place 0) 0 (given_bits (inner_if x.second)) in
            let second = rw (no-entry x.second) at (label_is (inner_if x.second) label_b_place b) in
            rw (bare, last (has (summed r) x.sums) (all_from byte block_place 8) there here (stores_ok r x.least (opcode r)))
            (arranged (has (summed r) x.sums) (byte 1) (byte 2) (byte 3) (byte 4) (byte 5) (byte 6) (byte 7) (byte 8) there here
            (stores_ok r x.least (opcode r))
            ∙ rw (
              below_power 4 4 (get_or r block_place 0) (bytes block_place),
              below_power 6 2 (entry r) (bytes entry_place),
              label_is x.first label_a_place a,
              second,
              ← e,
              own,
            ) refl)

      pub opcode-allowed : (allows image r (row_of (opcode r)) && stores_ok r (row_of (opcode r)).least (opcode r)) ≡ outline_ok image r
      unfolding row_of
      opcode-allowed = allowed (asks_in table (opcode r)) (opcode-holds image r bytes)

      pub counted-allowed : allows image r (row_of (opcode r)) ≡ true
          → (operands r ≤ operand_count) × Stores r (row_of (opcode r)).least (opcode r)
      unfolding row_of
      counted-allowed e = opcode-counted image r bytes (counted (asks_in table (opcode r)) e)
