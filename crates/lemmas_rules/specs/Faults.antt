-- What it says that no refusal applies: of a list of refusals, of one test, and of a test at each of n places.
use Rattle.std.specs.Prelude.{◌≡◌, refl, Bool, true, false, cond, List, [], ◌∷◌, ◌++◌, ℕ, zero, suc, ◌+◌, ◌<◌, eqb}
use Rattle.std.proofs.Common.{sym, ap, ◌∙◌, zero-add, arith, eqb-true}
use Rattle.std.proofs.lemmas.Bool.{eqb-false}
use Rattle.rules.specs.Bytes.{first_bad}
use Rattle.rules.specs.Check.{refusal, first_fault, first_refusal, image_faults, Checked}

-- the first of a list of refusals is 0, and so is the first of the rest
pub first-of-zero : (x : ℕ) (xs : List ℕ) → first_refusal (x ∷ xs) ≡ 0 → (x ≡ 0) × (first_refusal xs ≡ 0)
unfolding first_refusal
first-of-zero x xs h = case (eqb x 0) refl h
  where
    case : (b : Bool) → eqb x 0 ≡ b → cond b (first_refusal xs) x ≡ 0 → (x ≡ 0) × (first_refusal xs ≡ 0)
    case true e k = (eqb-true x 0 e, k)
    case false e k = absurd (eqb-false x 0 e k)

-- the same of the first of two lists, and of the other
first-of-part : (xs more : List ℕ) → first_refusal (xs ++ more) ≡ 0 → first_refusal xs ≡ 0
unfolding first_refusal
first-of-part [] more h = refl
first-of-part (x ∷ xs) more h =
    let k : (x ≡ 0) × (first_refusal (xs ++ more) ≡ 0) = first-of-zero x (xs ++ more) h in
    rw k.0 (first-of-part xs more k.1)

first-of-rest : (xs more : List ℕ) → first_refusal xs ≡ 0 → first_refusal (xs ++ more) ≡ first_refusal more
unfolding first_refusal
first-of-rest [] more h = refl
first-of-rest (x ∷ xs) more h =
    let k : (x ≡ 0) × (first_refusal xs ≡ 0) = first-of-zero x xs h in
    rw k.0 (first-of-rest xs more k.1)

-- a call on a checked image is refused by its own refusals alone
pub checked-rest : (image table more : List ℕ) → Checked image table → first_refusal (image_faults image table more) ≡ first_refusal more
checked-rest image table more h = first-of-rest (image_faults image table []) more h

-- the image and the table of a call that is not refused pass the check, whatever refusals it has besides, and none of those applies
pub checked-of : (image table more : List ℕ) → first_refusal (image_faults image table more) ≡ 0
    → Checked image table × (first_refusal more ≡ 0)
checked-of image table more h =
    let k : Checked image table = first-of-part (image_faults image table []) more h in
    (k, sym (checked-rest image table more k) ∙ h)

pub refusal-zero : (ok : Bool) (number place : ℕ) → 0 < number → refusal ok number place ≡ 0 → ok ≡ true
refusal-zero true number place n h = refl
refusal-zero false number place n h = absurd (omega arith)

-- the test holds at each of k places from i on
bad-free : (ok : ℕ → Bool) (i k : ℕ) → first_bad ok i k ≡ i + k → (j : ℕ) → j < k → ok (i + j) ≡ true
unfolding first_bad
bad-free ok i zero h j l = absurd (omega arith)
bad-free ok i (suc k) h j l = case (ok i) refl h j l (bad-free ok (i + 1) k)
  where
    case : (b : Bool) → ok i ≡ b → cond b (first_bad ok (i + 1) k) i ≡ i + suc k → (j : ℕ) → j < suc k
        → (first_bad ok (i + 1) k ≡ (i + 1) + k → (m : ℕ) → m < k → ok ((i + 1) + m) ≡ true) → ok (i + j) ≡ true
    case true e g zero m ih = ap ok (omega arith) ∙ e
    case true e g (suc j) m ih = ap ok (omega arith) ∙ ih (omega arith) j (omega arith)
    case false e g j m ih = absurd (omega arith)

pub fault-free : (ok : ℕ → Bool) (n number : ℕ) → 0 < number → first_fault ok n number ≡ 0 → (i : ℕ) → i < n → ok i ≡ true
fault-free ok n number p h i l =
    let e : first_bad ok 0 n ≡ n = eqb-true (first_bad ok 0 n) n (refusal-zero (eqb (first_bad ok 0 n) n) number (first_bad ok 0 n) p h) in
    rw zero-add at (bad-free ok 0 n (rw zero-add e) i l)
