-- The blocks that an image names, as a set of bits.
use Rattle.std.specs.Prelude.{◌≡◌, refl, Bool, true, false, not, ◌&&◌, List, ℕ, ◌+◌, ◌^◌, ◌≤◌, ◌<◌, eqb}
use Rattle.std.proofs.Common.{sym, ◌∙◌, true≢false, zero-add, arith, eq-eqb, ne_eqb}
use Rattle.std.proofs.Math.Decide.{dec_lt}
use Rattle.std.specs.Int.Bits.{bit_or, bit_and}
use Rattle.rules.specs.Sizes.{block_count}
use Rattle.rules.specs.Bytes.{has, any_from}
use Rattle.rules.specs.Image.{labels, record_at, block_field}
use Rattle.rules.specs.Check.{record_ok}
use Rattle.rules.specs.Link.{names, share_block}
use Rattle.lemmas_rules.specs.Heads.{head-fields}
use Rattle.lemmas_rules.specs.Passed.{Passed, rule-parts}
use Rattle.lemmas_rules.specs.Sets.{has-none, has-with}
use Rattle.lemmas_rules.specs.Disjoint.{Disjoint, zero_disjoint, disjoint-zero}
use Rattle.bytes_fields.specs.Runs.{any-more, any_at, any_none}

-- every record of an image is in a block of the table
abbrev pub BlocksIn : List ℕ → Type 0
BlocksIn image = (l : ℕ) → l < labels image → block_field (record_at image l) < block_count

pub blocks-in : (image table : List ℕ) → Passed image table → BlocksIn image
unfolding record_ok
blocks-in image table p l h = (head-fields (record_at image l) (rule-parts image (record_at image l) (p.records l h)).head).block

-- a set has exactly the numbers that pass a test
abbrev pub SetOf : (ℕ → Bool) → ℕ → Type 0
SetOf test set = (b : ℕ) → has b set ≡ test b

-- the blocks of the first l records
abbrev pub among : List ℕ → ℕ → ℕ → Bool
among image l b = any_from (λ k. eqb (block_field (record_at image k)) b) 0 l

pub none-among : (image : List ℕ) → SetOf (among image 0) 0
unfolding any_from
none-among image b = has-none b

pub one_more : (image : List ℕ) (l set : ℕ) → SetOf (among image l) set
    → SetOf (among image (l + 1)) (bit_or set (2 ^ block_field (record_at image l)))
one_more image l set h b =
    has-with b (block_field (record_at image l)) set
    ∙ rw (h b) (sym (rw zero-add at (any-more (λ k. eqb (block_field (record_at image k)) b) 0 l)))

pub all_among : (image : List ℕ) (l set : ℕ) → l ≡ labels image → SetOf (among image l) set → SetOf (names image) set
unfolding names
all_among image l set e h b = rw e at (h b)

-- two sets, each of the numbers that pass a test
module _ (f g : ℕ → Bool) (x y : ℕ) (hx : SetOf f x) (hy : SetOf g y) (small : (b : ℕ) → block_count ≤ b → f b ≡ false) where
  none-shared : Disjoint x y → any_from (λ b. f b && g b) 0 block_count ≡ false
  none-shared d = any_none (λ b. f b && g b) 0 block_count (λ b p q. case b (f b) refl)
    where
      case : (b : ℕ) (c : Bool) → f b ≡ c → (f b && g b) ≡ false
      case b true e = rw e (sym (hy b) ∙ d b (hx b ∙ e))
      case b false e = rw e

  disjoint-of : any_from (λ b. f b && g b) 0 block_count ≡ false → Disjoint x y
  disjoint-of h b e = case (dec_lt b block_count) (g b) refl
    where
      fb : f b ≡ true
      fb = sym (hx b) ∙ e

      case : Dec (b < block_count) → (c : Bool) → g b ≡ c → has b y ≡ false
      case (yes l) true k =
          let z : any_from (λ b. f b && g b) 0 block_count ≡ true =
          any_at (λ b. f b && g b) 0 block_count b (rw (fb, k)) (omega arith) (omega arith) in
          absurd (true≢false (sym z ∙ h))
      case (yes l) false k = hy b ∙ k
      case (no l) c k = absurd (true≢false (sym fb ∙ small b (omega arith)))

  -- two sets have a bit in common exactly if some block passes both tests
  pub common : eqb (bit_and x y) 0 ≡ not (any_from (λ b. f b && g b) 0 block_count)
  common = case (any_from (λ b. f b && g b) 0 block_count) refl
    where
      case : (c : Bool) → any_from (λ b. f b && g b) 0 block_count ≡ c → eqb (bit_and x y) 0 ≡ not c
      case true e = ne_eqb (bit_and x y) 0 (λ z. true≢false (sym e ∙ none-shared (zero_disjoint x y z)))
      case false e = eq-eqb (bit_and x y) 0 (disjoint-zero x x y (omega arith) (disjoint-of e))

-- no record of a checked image is in a block past the table
pub names-below : (image : List ℕ) → BlocksIn image → (b : ℕ) → block_count ≤ b → names image b ≡ false
unfolding names
names-below image h b k =
    any_none (λ l. eqb (block_field (record_at image l)) b) 0 (labels image)
    (λ l p q. ne_eqb (block_field (record_at image l)) b (λ e. omega (arith, h l (omega arith))))

pub shared : (first second : List ℕ) (x y : ℕ) → BlocksIn first → SetOf (names first) x → SetOf (names second) y
    → eqb (bit_and x y) 0 ≡ not (share_block first second)
unfolding share_block
shared first second x y h hx hy = common (names first) (names second) x y hx hy (names-below first h)
