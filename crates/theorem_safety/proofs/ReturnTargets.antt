-- No RETURN ever leads into a block that the job did not call from.
use Rattle.std.specs.Prelude.{◌≡◌, Bool, true, false, ◌⊎◌, ℕ, ◌<◌, ltb}
use Rattle.std.proofs.Math.Path.{refl, subst}
use Rattle.std.proofs.Common.{sym, ap, ◌∙◌, inl, inr, ltb-true}
use mathlib.Core.List.{List, [], ◌∷◌, ◌++◌, append-nil, append_assoc, Memᴰ}
use Rattle.rules.specs.Image.{labels, record_at, block_field, label_b}
use Rattle.rules.specs.Statements.{operation_at, other_at, statement_of, Way, following, branching, transferring, entering, posting}
use Rattle.rules.specs.Statements.{founding, calling, returning, ending, way, way_b}
use Rattle.rules.specs.Check.{label_ok, Checked}
use Rattle.rules.specs.Machine.{Job, ThreadState, running, Machine, thread_at, fresh}
use Rattle.rules.specs.Events.{Event, step}
use Rattle.rules.specs.Answers.{sort}
use Rattle.rules.specs.Steps.{Rules, older, block_at, rules_by, Reply, react, final}
use Rattle.rules.specs.declared.answer.Answer.TheVariants.{Moved}
use Rattle.rules.specs.declared.statement.Statement.TheVariants.{Return}
use Rattle.lemmas_rules.specs.Logic.{never}
use Rattle.lemmas_rules.specs.Passed.{passed, no_record}
use Rattle.lemmas_invariant.specs.Happens.{Happens, remains, founds, starts, goes, ends, happens, ends_close}
use Rattle.lemmas_invariant.specs.Destinations.{label-in, parts}
use Rattle.theorem_safety.specs.Paths.{without_newest, opened, way_at, open_after, open_calls, path_of}
use Rattle.theorem_safety.proofs.Returns.{EffectTurned, act-turned}
use Rattle.theorem_safety.proofs.OpenCalls.{set_here, returns-are-open-calls}
use Rattle.theorem_safety.specs.ReturnTargets.{CalledFrom}

module _ (image : List ℕ) where
  abbrev AllCalled : List ℕ → List ℕ → Type 0
  AllCalled path rs = (l : ℕ) → Memᴰ l rs → CalledFrom image path l

  further : (path : List ℕ) (x l : ℕ) → CalledFrom image path l → CalledFrom image (path ++ x ∷ []) l
  further path x l c = record { call = c.call; made = mathlib.Core.List.Memᴰ.append_left (x ∷ []) c.made; calls = c.calls; label = c.label }

  older-of : (r : ℕ) (rs : List ℕ) (l : ℕ) → Memᴰ l (older r rs) → Memᴰ l (r ∷ rs)
  older-of r [] l m = absurd (mathlib.Core.List.Memᴰ.not-nil m)
  older-of r (x ∷ rs) l (mathlib.Core.List.Memᴰ.head e) = mathlib.Core.List.Memᴰ.head e
  older-of r (x ∷ rs) l (mathlib.Core.List.Memᴰ.tail m) = mathlib.Core.List.Memᴰ.tail (older-of x rs l m)

  without-of : (rs : List ℕ) (l : ℕ) → Memᴰ l (without_newest rs) → Memᴰ l rs
  without-of [] l m = m
  without-of (r ∷ rs) l m = older-of r rs l m

  opened-called : (path rs : List ℕ) (x : ℕ) (w : Way) → way_at image x ≡ w → AllCalled path rs
      → AllCalled (path ++ x ∷ []) (opened w (label_b (record_at image x)) rs)
  opened-called path rs x following e h l m = further path x l (h l m)
  opened-called path rs x branching e h l m = further path x l (h l m)
  opened-called path rs x transferring e h l m = further path x l (h l m)
  opened-called path rs x entering e h l m = further path x l (h l m)
  opened-called path rs x posting e h l m = further path x l (h l m)
  opened-called path rs x founding e h l m = further path x l (h l m)
  opened-called path rs x calling e h l m = case (mathlib.Core.List.Memᴰ.append_cases rs m)
    where
      case : Memᴰ l rs ⊎ Memᴰ l (label_b (record_at image x) ∷ []) → CalledFrom image (path ++ x ∷ []) l
      case (inl k) = further path x l (h l k)
      case (inr k) = record {
        call = x;
        made = mathlib.Core.List.Memᴰ.append_right path (mathlib.Core.List.Memᴰ.head refl);
        calls = e;
        label = mathlib.Core.List.Memᴰ.eq_of_singleton k;
      }
  opened-called path rs x returning e h l m = further path x l (h l (without-of rs l m))
  opened-called path rs x ending e h l m = further path x l (h l m)

  after-called : (done path rs : List ℕ) → AllCalled done rs → AllCalled (done ++ path) (open_after image rs path)
  unfolding open_after
  after-called done [] rs h = rw (append-nil done) h
  after-called done (x ∷ path) rs h =
      subst (λ (z : List ℕ). AllCalled z (open_after image (opened (way_at image x) (label_b (record_at image x)) rs) path))
      (append_assoc done (x ∷ []) path)
      (after-called (done ++ x ∷ []) path (opened (way_at image x) (label_b (record_at image x)) rs)
      (opened-called done rs x (way_at image x) refl h))

  -- every open call is a CALL of the path
  pub open-calls-are-called : (path : List ℕ) → AllCalled path (open_calls image path)
  open-calls-are-called path = after-called [] path [] (λ l m. absurd (mathlib.Core.List.Memᴰ.not-nil m))

-- ---- RETURN

module _ (image table : List ℕ) (t : ℕ) where
  abbrev R : Rules
  R = rules_by image table

  -- a job whose statement is RETURN moves on to one of its return labels
  abbrev To : List ℕ → ThreadState → Type 0
  To rs w = (locks : ℕ) (j : Job) → w ≡ running locks j → Memᴰ j.label rs

  returned : (s : Machine) (locks : ℕ) (j : Job) → thread_at s t ≡ running locks j → statement_of (record_at image j.label) ≡ Return
      → (e : Event) (r : Reply) → Happens R s e r → e ≡ step t → r.answer ≡ Moved → To j.returns (thread_at r.state t)
  returned s locks j w i e r (remains f a (inl q)) n m = never (let z = sym q ∙ ap sort m in cc)
  returned s locks j w i e r (remains f a (inr q)) n m = never (cc)
  returned s locks j w i e r (founds g room) n m = never (cc)
  returned s locks j w i e r (starts u g p v f b) n m = never (cc)
  returned s locks j w i e r (goes u l k k' words g want v a b) n m =
      let z : u ≡ t = cc in
      let y : k ≡ j = same (rw z at v) in
      let q : statement_of (record_at image k.label) ≡ Return = rw y i in
      rw z (set_here (To j.returns) s.threads t _
      (λ locks' j' x. let x' : k' ≡ j' = cc in rw (x', y) at
      ((subst (EffectTurned _ _ k.returns) a (act-turned image table u k _ _)).label (ap way q)))
      (λ locks' j' x. never (cc)))
    where
      same : {l : ℕ} {k : Job} → thread_at s t ≡ running l k → k ≡ j
      same v = cc
  returned s locks j w i e r (ends u l k a v f) n m = never (let z = sym (ends_close R s u k a f) ∙ ap sort m in cc)

  -- the label that RETURN leads to is label B of a CALL that the same job carried out
  pub return-leads-to-a-call : (words : List ℕ) (l : List Event) (locks locks' : ℕ) (j j' : Job)
      → thread_at (final R (fresh words) l) t ≡ running locks j
      → statement_of (record_at image j.label) ≡ Return → (react R (final R (fresh words) l) (step t)).answer ≡ Moved
      → thread_at (react R (final R (fresh words) l) (step t)).state t ≡ running locks' j'
      → CalledFrom image (path_of R t words l) j'.label
  return-leads-to-a-call words l locks locks' j j' w i m w' =
      let s = final R (fresh words) l in
      let k : Memᴰ j'.label j.returns =
      returned s locks j w i (step t) (react R s (step t)) (happens R s (step t)) refl m locks' j' w'
      in
      open-calls-are-called image (path_of R t words l) j'.label
      (subst (λ (z : List ℕ). Memᴰ j'.label z) (returns-are-open-calls image table t words l locks j w) k)

-- and in a checked image it is in the block that this CALL was made from
module _ (image table : List ℕ) (checked : Checked image table) where
  call_below : (c : ℕ) → way_at image c ≡ calling → c < labels image
  call_below c e = case (ltb c (labels image)) refl
    where
      none : ltb c (labels image) ≡ false → way_at image c ≡ ending
      none h = unfold operation_at other_at statement_of in rw (no_record image c h) refl

      case : (b : Bool) → ltb c (labels image) ≡ b → c < labels image
      case true h = ltb-true c (labels image) h
      case false h = never (let z = sym e ∙ none h in cc)

  pub call-block : (path : List ℕ) (l : ℕ) (c : CalledFrom image path l) → block_at image l ≡ block_at image c.call
  call-block path l c =
      let r = record_at image c.call in
      let h = (parts image table (passed image table [] checked).0 c.call (call_below c.call c.calls)).b in
      let k : label_ok image (way_b calling) (block_field r) (label_b r) ≡ true =
      subst (λ (w : Way). label_ok image (way_b w) (block_field r) (label_b r) ≡ true) c.calls h
      in
      ap (block_at image) c.label ∙ (label-in image table (way_b calling) (block_field r) (label_b r) k).1

  -- NO RETURN LEADS INTO A BLOCK THAT THE JOB DID NOT CALL FROM
  pub return-leads-to-a-calling-block : (t : ℕ) (words : List ℕ) (l : List Event) (locks locks' : ℕ) (j j' : Job)
      → thread_at (final (rules_by image table) (fresh words) l) t ≡ running locks j → statement_of (record_at image j.label) ≡ Return
      → (react (rules_by image table) (final (rules_by image table) (fresh words) l) (step t)).answer ≡ Moved
      → thread_at (react (rules_by image table) (final (rules_by image table) (fresh words) l) (step t)).state t ≡ running locks' j'
      → (c : CalledFrom image (path_of (rules_by image table) t words l) j'.label) × (block_at image j'.label ≡ block_at image c.call)
  return-leads-to-a-calling-block t words l locks locks' j j' w i m w' =
      let c = return-leads-to-a-call image table t words l locks locks' j j' w i m w' in (c, call-block _ _ c)
