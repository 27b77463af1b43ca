-- What a search of the numbers below n answers: the number that it finds, if there is one.
use Rattle.std.specs.Prelude.{◌≡◌, refl, Bool, true, false, cond, ℕ, ◌≤◌, ◌<◌, ltb, Option, Some, None, is_some, option_map}
use Rattle.std.proofs.Common.{lt-ltb, le-ltb, ltb-true, ltb-false}

-- i, if it is below n
unfoldable pub found_below : ℕ → ℕ → Option ℕ
found_below n i = cond (ltb i n) (Some i) None

module _ (n i : ℕ) where
  -- a search that came to j and found it, or came to n
  pub found : (j : ℕ) → j < n → j ≡ i → Some j ≡ found_below n i
  unfolding found_below
  found j h e = rw (← e, lt-ltb j n h)

  pub not_found : (j : ℕ) → n ≤ j → j ≡ i → None ≡ found_below n i
  unfolding found_below
  not_found j h e = rw (← e, le-ltb j n h)

  pub some_found : i < n → is_some (found_below n i) ≡ true
  unfolding found_below
  some_found h = rw (lt-ltb i n h)

  -- what an answer says
  pub found-is : {k : ℕ} → Some k ≡ found_below n i → (k ≡ i) × (k < n)
  unfolding found_below
  found-is {k} e = go (ltb i n) refl e
    where
      go : (b : Bool) → ltb i n ≡ b → Some k ≡ cond b (Some i) None → (k ≡ i) × (k < n)
      go true t e = let p : k ≡ i = cc in (p, rw p (ltb-true i n t))
      go false t e = cc

  pub none-is : None ≡ found_below n i → n ≤ i
  unfolding found_below
  none-is e = go (ltb i n) refl e
    where
      go : (b : Bool) → ltb i n ≡ b → None ≡ cond b (Some i) None → n ≤ i
      go true t e = cc
      go false t e = ltb-false i n t

-- and one that stands for the number
module _ {A : Type 0} (f : ℕ → A) (n i : ℕ) where
  pub found-as : {x : A} → Some x ≡ option_map f (found_below n i) → (x ≡ f i) × (i < n)
  unfolding found_below
  found-as {x} e = go (ltb i n) refl e
    where
      go : (b : Bool) → ltb i n ≡ b → Some x ≡ option_map f (cond b (Some i) None) → (x ≡ f i) × (i < n)
      go true t e = (cc, ltb-true i n t)
      go false t e = cc

  pub none-as : None ≡ option_map f (found_below n i) → n ≤ i
  unfolding found_below
  none-as e = go (ltb i n) refl e
    where
      go : (b : Bool) → ltb i n ≡ b → None ≡ option_map f (cond b (Some i) None) → n ≤ i
      go true t e = cc
      go false t e = ltb-false i n t
