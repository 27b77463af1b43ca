-- The first label whose record breaks a rule, where there is one.
use Rattle.std.specs.Prelude.{◌≡◌, Bool, true, false, ℕ, List, ◌<◌, cond, eqb, Option, Some, None}
use Rattle.std.proofs.Common.{refl, sym, arith, ne_eqb, eq-eqb}
use Rattle.rules.specs.Sorts.{label}
use Rattle.rules.specs.Codes.{bad_record_number}
use Rattle.rules.specs.Bytes.{first_bad}
use Rattle.rules.specs.Image.{labels}
use Rattle.rules.specs.Check.{record_ok, refusal, record_fault}
use Rattle.rules.specs.declared.sorts.Label.{Label}

-- none where the search comes to the end
abbrev label_unless : Bool → ℕ → Option Label
label_unless end l = cond end None (Some (label l))

abbrev pub bad_record : List ℕ → Option Label
bad_record image =
    let l = first_bad (record_ok image) 0 (labels image) in
    label_unless (eqb l (labels image)) l

module _ (image : List ℕ) where
  pub record_found : (l : ℕ) → l < labels image → l ≡ first_bad (record_ok image) 0 (labels image) → Some (label l) ≡ bad_record image
  record_found l h e = rw (← e, ne_eqb l (labels image) (λ z. omega arith))

  pub no_bad_record : labels image ≡ first_bad (record_ok image) 0 (labels image) → None ≡ bad_record image
  no_bad_record e = rw (eq-eqb (first_bad (record_ok image) 0 (labels image)) (labels image) (sym e))

  -- the refusal that it makes
  pub fault_found : (l : Label) → Some l ≡ bad_record image → refusal false bad_record_number l.0 ≡ record_fault image
  unfolding record_fault
  fault_found l e = go (eqb (first_bad (record_ok image) 0 (labels image)) (labels image)) e
    where
      go : (t : Bool) → Some l ≡ label_unless t (first_bad (record_ok image) 0 (labels image))
          → refusal false bad_record_number l.0 ≡ refusal t bad_record_number (first_bad (record_ok image) 0 (labels image))
      go true e = cc
      go false e = let h : l ≡ label (first_bad (record_ok image) 0 (labels image)) = cc in rw h

  pub no_fault : None ≡ bad_record image → 0 ≡ record_fault image
  unfolding record_fault
  no_fault e = go (eqb (first_bad (record_ok image) 0 (labels image)) (labels image)) e
    where
      go : (t : Bool) → None ≡ label_unless t (first_bad (record_ok image) 0 (labels image))
          → 0 ≡ refusal t bad_record_number (first_bad (record_ok image) 0 (labels image))
      go true e = refl
      go false e = cc
