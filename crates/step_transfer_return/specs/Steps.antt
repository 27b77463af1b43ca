-- What TRANSFER and RETURN come to, where a running thread comes to them.
use Rattle.std.specs.Prelude.{◌≡◌, refl, List, [], ◌∷◌, ◌++◌, map, ℕ, ◌<◌, length, drop}
use Rattle.std.proofs.Common.{ap, subst, arith}
use Rattle.std.proofs.Math.Option.{some}
use Rattle.rules.specs.Sizes.{idle_label}
use Rattle.rules.specs.Codes.{no_return_label_code}
use Rattle.rules.specs.Image.{labels, record_at, label_a}
use Rattle.rules.specs.Statements.{statement_of, data_of}
use Rattle.rules.specs.Effects.{got, read_all}
use Rattle.rules.specs.Machine.{Machine, fill, job}
use Rattle.rules.specs.Encoding.{machine_from}
use Rattle.rules.specs.Events.{step}
use Rattle.rules.specs.Steps.{newest, rules_by, finished}
use Rattle.rules.specs.declared.answer.Answer.{Answer}
use Rattle.rules.specs.declared.answer.Answer.TheVariants.{Moved, Trapped}
use Rattle.rules.specs.declared.statement.Statement.TheVariants.{Return, Transfer}
use Rattle.bytes_fields.specs.Each.{Each}
use Rattle.lemmas_invariant.specs.Sound.{PlaceIn, ThreadIn}
use Rattle.lemmas_step.specs.Events.{reply}
use Rattle.lemmas_step.specs.Statements as law
use Rattle.state_thread.specs.Returns.{newest_of, older_of}
use Rattle.state_thread.specs.Threads.{returns_of, registers_of, with_job, job_of, keeping}
use Rattle.state_thread.specs.declared.thread.ThreadState.{ThreadState}
use Rattle.step_operands.specs.Cells.{cells_of}
use Rattle.step_contract.specs.Ready.{Stepped, Ended, reply_to, done}
use Rattle.step_contract.specs.At.{At, tree, statement-here, reads_here, small, depth_is}

-- the newest of the return labels is one of them
newest-in : (image table : List ℕ) (t a : ℕ) (l : List ℕ) → PlaceIn image table t a → Each (PlaceIn image table t) l
    → newest a l < labels image
newest-in image table t a [] p e = p.below
newest-in image table t a (x ∷ l) p e = newest-in image table t x l e.0 e.1

newest-below : (image table : List ℕ) (t : ℕ) (l : List ℕ) → Each (PlaceIn image table t) l → 0 < length l → newest_of l < labels image
newest-below image table t [] e k = absurd (omega arith)
newest-below image table t (a ∷ l) e k = newest-in image table t a l e.0 e.1

module _ {image table b : List ℕ} {t : ℕ} {w : ThreadState} {r : List ℕ} (h : At image table b t w r) where
  abbrev m : Machine
  m = machine_from b

  abbrev here : List ℕ
  here = record_at image w.label.0

  -- ---- TRANSFER, RETURN

  module _ (vs : List ℕ) (g : read_all (cells_of b w r) (data_of r) ≡ got vs) where
    pub transferred : statement_of r ≡ Transfer → reply_to image table b (step t)
        ≡ reply (with_job m t w.locks (keeping w (job (label_a r) (returns_of w) (map some vs ++ drop (length vs) (registers_of w)))))
        Moved
    transferred e =
        rw (ap label_a h.here)
        (law.transfers image table m t w.locks (job_of w) (tree h).0 h.runs (tree h).1 vs (statement-here h Transfer e)
        (reads_here h Transfer g))

    module _ (e : statement_of r ≡ Return) where
      -- a list of return labels, with one in it
      to-newest : (rs : List ℕ) → returns_of w ≡ rs → 0 < length rs
          → reply_to image table b (step t) ≡ reply (with_job m t w.locks (keeping w (job (newest_of rs) (older_of rs) (fill vs)))) Moved
      to-newest [] q z = absurd (omega arith)
      to-newest (x ∷ more) q z =
          law.returns_to image table m t w.locks (job_of w) (tree h).0 h.runs (tree h).1 vs (statement-here h Return e)
          (reads_here h Return g) x more q

      pub returned : 0 < w.depth → reply_to image table b (step t)
          ≡ reply (with_job m t w.locks (keeping w (job (newest_of (returns_of w)) (older_of (returns_of w)) (fill vs)))) Moved
      returned l = to-newest (returns_of w) refl (omega (arith, depth_is h))

      -- none in it
      pub unreturned : {b' : List ℕ} {a : Answer} → w.depth ≡ 0 → a ≡ Trapped no_return_label_code → Ended image table b t b'
          → Stepped image table b t b' a
      unreturned z f k =
          done (finished (rules_by image table) t m) (Trapped no_return_label_code)
          (law.return-none image table m t w.locks (job_of w) (tree h).0 h.runs (tree h).1 vs (statement-here h Return e)
          (reads_here h Return g) (rw z refl)) f k

  pub newest-small : 0 < w.depth → newest_of (returns_of w) < idle_label
  newest-small l =
      let places = (subst (ThreadIn image table t) h.runs (h.ready.sound.threads t)).places.1 in
      small h _ (newest-below image table t (returns_of w) places (omega (arith, depth_is h)))
