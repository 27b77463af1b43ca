-- The filling of the registers in one pass: what its turns do, and what holds after any number of them.
use Rattle.std.specs.Prelude.{◌≡◌, refl, ◌≢◌, List, ◌++◌, ℕ, zero, suc, ◌-◌, ◌%◌, ◌^◌, ◌≤◌, ◌<◌, length, get_or, set, take, replicate}
use Rattle.std.proofs.Math.Path.{sym}
use Rattle.std.proofs.Common.{◌∙◌, arith, length-set, ext_get_or, length-take-le, get_or-set_same, get_or-set_other}
use Rattle.std.proofs.Math.Decide.{ℕ_discrete}
use Rattle.rules.specs.Sizes.{register_count}
use Rattle.rules.specs.Bytes.{has, pad}
use Rattle.bytes_fields.specs.Blocks.{pad-split}
use Rattle.state_registers.specs.Bits.{with_bit, with-bit-same, with-bit-other, same_bits}
use Rattle.state_registers.specs.declared.Registers.{Registers}

-- the values after the first n are zero
abbrev pub ZerosAfter : ℕ → List ℕ → Type 0
ZerosAfter n values = pad 0 register_count (take n values) ≡ values

-- registers 0 upward are present with the values, the others are absent and zero; bits 25 to 31 are zero too
unfoldable pub filled_by : List ℕ → Registers
filled_by vs = record { present = 2 ^ length vs - 1; values = vs ++ replicate (register_count - length vs) 0 }

-- what i turns leave of the values and of the presence set that came: each turn sets one register, with its presence bit
unfoldable pub values_after : ℕ → List ℕ → List ℕ → List ℕ
values_after zero final came = came
values_after (suc i) final came = set (values_after i final came) i (get_or final i 0)

unfoldable pub present_after : ℕ → ℕ → ℕ → ℕ
present_after zero final came = came
present_after (suc i) final came = with_bit i final (present_after i final came)

-- register r, its presence bit too, is as in w
pub record RegisterAs (w : Registers) (r present : ℕ) (values : List ℕ) : Type 0 where
  pub value : get_or values r 0 ≡ get_or w.values r 0
  pub presence : has r present ≡ has r w.present

-- registers 0 to i - 1 are final, and the others are as they came
pub record Turned (i : ℕ) (came final : Registers) (present : ℕ) (values : List ℕ) : Type 0 where
  pub done : (r : ℕ) → r < i → RegisterAs final r present values
  pub ahead : (r : ℕ) → i ≤ r → RegisterAs came r present values

-- register i is set, with its presence bit: it is final, and no other is touched
next-turn : (i : ℕ) (came final : Registers) (present : ℕ) (values : List ℕ) → i < length values
    → Turned i came final present values
    → Turned (suc i) came final (with_bit i final.present present) (set values i (get_or final.values i 0))
next-turn i came final present values h turned = record {
  done = λ r k. go r k (ℕ_discrete r i);
  ahead = λ r k. other r (λ e. omega arith)
      (turned.ahead r (omega arith));
}
  where
    other : {w : Registers} (r : ℕ) → r ≢ i → RegisterAs w r present values
        → RegisterAs w r (with_bit i final.present present) (set values i (get_or final.values i 0))
    other r e same = record {
      value = get_or-set_other values i r (get_or final.values i 0) 0 e ∙ same.value;
      presence = with-bit-other r i final.present present e ∙ same.presence;
    }

    go : (r : ℕ) → r < suc i → Dec (r ≡ i)
        → RegisterAs final r (with_bit i final.present present) (set values i (get_or final.values i 0))
    go r k (yes e) = rw e record {
      value = get_or-set_same values i (get_or final.values i 0) 0 h;
      presence = with-bit-same i final.present present;
    }
    go r k (no e) = other r e (turned.done r (omega arith))

pub length-after : (i : ℕ) (final came : List ℕ) → length (values_after i final came) ≡ length came
unfolding values_after
length-after zero final came = refl
length-after (suc i) final came = length-set (values_after i final came) i (get_or final i 0) ∙ length-after i final came

-- the loop's own fact: after any i of its 25 turns registers 0 to i - 1 are final, and the others, presence bits too, as they came
pub after-turns : (came final : Registers) → length came.values ≡ register_count → (i : ℕ) → i ≤ register_count
    → Turned i came final (present_after i final.present came.present) (values_after i final.values came.values)
unfolding values_after present_after
after-turns came final sized zero h = record {
  done = λ r k. absurd (omega arith);
  ahead = λ r k. record { value = refl; presence = refl };
}
after-turns came final sized (suc i) h =
    next-turn i came final _ _ (omega (arith, length-after i final.values came.values))
    (after-turns came final sized i (omega arith))

-- after all of them every register is final
module _ {came final : Registers} {present : ℕ} {values : List ℕ} (turned : Turned register_count came final present values) where
  pub turned-values : length values ≡ register_count → length final.values ≡ register_count → values ≡ final.values
  turned-values h k = ext_get_or 0 values final.values (h ∙ sym k) (λ r l. (turned.done r (omega arith)).value)

  pub turned-present : present % 2 ^ register_count ≡ final.present % 2 ^ register_count
  turned-present = same_bits register_count present final.present (λ r l. (turned.done r l).presence)

-- ---- the final registers

module _ (count : ℕ) (values : List ℕ) (few : count ≤ register_count) (sized : length values ≡ register_count) where
  counted : length (take count values) ≡ count
  counted = length-take-le count values (omega arith)

  pub filled-present : (filled_by (take count values)).present ≡ 2 ^ count - 1
  unfolding filled_by
  filled-present = rw counted

  pub filled-values : ZerosAfter count values → (filled_by (take count values)).values ≡ values
  unfolding filled_by
  filled-values zeros = sym (pad-split 0 register_count (take count values) (omega (arith, counted))) ∙ zeros
