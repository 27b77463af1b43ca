-- The proof of "The one-by-one reading": `one_by_one`, at the end.
use Rattle.std.specs.Prelude.{◌≡◌, ◌≢◌, ◌⊎◌, ℕ, ◌<◌, length, get_or, set}
use Rattle.std.proofs.Math.Path.{refl}
use Rattle.std.proofs.Common.{sym, ap, ◌∙◌, subst, inl, inr, length-set, get_or-set_same, get_or-set_other}
use Rattle.std.proofs.Math.Option.{Option, none, some}
use mathlib.Core.List.{List, [], ◌∷◌, ◌++◌, append_assoc, append-nil, flatten}
use mathlib.Core.List.Memᴰ
use mathlib.Core.List.{Memᴰ}
use Rattle.std.proofs.Math.Decide.{ℕ_discrete}
use Rattle.rules.specs.Sizes.{thread_count}
use Rattle.rules.specs.Machine.{Machine, fresh}
use Rattle.rules.specs.Events.{Event, thread_of, Valid}
use Rattle.rules.specs.Answers.{Sort, out, now, join, close, sort}
use Rattle.rules.specs.Steps.{Rules, Plan, stay, grow, move, finish, exiting, Move, plan, attempt, carry, react, final}
use Rattle.rules.specs.Order.{Sheet, note_as, notes_by, blank, spread, order_by, Entry, row_of, order, log, lost_by}
use Rattle.lemmas_rules.specs.Logic.{never, get_d-same}
use Rattle.lemmas_invariant.specs.Laws.{Laws}
use Rattle.lemmas_invariant.specs.Invariant.{Invariant, Good}
use Rattle.lemmas_invariant.proofs.Invariant.{good, invariant-fresh}
use Rattle.theorem_serial.specs.Carried.{Carried, Apart, AllApart}
use Rattle.theorem_serial.proofs.Carried.{carried-log, carried-final, carried-snoc, carried-invariant, shift}
use Rattle.theorem_serial.specs.Rows.{before, behind, flatten-row, flatten-set, mem-flatten, mem-before, mem-behind}
use Rattle.theorem_serial.specs.Reading.{OneByOne, AllValid, by_sort, by_row, row-of}

module _ (R : Rules) (L : Laws R) where
  -- by the sort of its answer: no change; an arrival; an event of a thread
  abbrev About : Machine → Event → Machine → Sort → Type 0
  About s e s' out = s ≡ s'
  About s e s' now = thread_of e ≡ none
  About s e s' join = thread_of e ≡ some (row_of e)
  About s e s' close = thread_of e ≡ some (row_of e)

  about-attempt : (s : Machine) (e : Event) (t : ℕ) (m : Move) (o : Option ℕ) → Good R s (thread_of e) (move t m)
      → About s e (attempt R t m s o).state (sort (attempt R t m s o).answer)
  unfolding attempt
  about-attempt s e t m none g = rw g.2 (row-of e t g.1)
  about-attempt s e t m (some b) g = refl

  about-carry : (s : Machine) (e : Event) (q : Plan) → Good R s (thread_of e) q
      → About s e (carry R s q).state (sort (carry R s q).answer)
  unfolding carry
  about-carry s e (stay a) (inl g) = rw g refl
  about-carry s e (stay a) (inr g) = rw g.0 g.1
  about-carry s e (grow x) g = g
  about-carry s e (move t m) g = about-attempt s e t m _ g
  about-carry s e (finish t a) g = rw g.1 (row-of e t g.0)
  about-carry s e (exiting t gs) g = row-of e t g

  about : (s : Machine) (e : Event) → Invariant R s → About s e (react R s e).state (sort (react R s e).answer)
  unfolding react
  about s e i = about-carry s e (plan R s e) (good R L s e i)

  -- ---- the sheet, event by event

  module _ (words : List ℕ) where
    -- what is written out and then the rows left, thread 0 to thread 7, carried out from the fresh machine, leave the machine s; a row
    -- holds events of its own thread that only moved its job on
    record Kept (h : Sheet Entry) (s : Machine) : Type 0 where
      runs : Carried R (fresh words) (spread h) s
      eight : length h.rows ≡ thread_count
      own : (k : ℕ) (n : Entry) → Memᴰ n (get_or h.rows k []) → (sort n.answer ≡ join) × (thread_of n.event ≡ some k)

    kept-blank : Kept blank (fresh words)
    unfolding flatten
    kept-blank = record {
      runs = refl;
      eight = refl;
      own = λ k n m. absurd (Memᴰ.not-nil (rw (get_d-same {A = List Entry} [] thread_count k) at m));
    }

    module _ (h : Sheet Entry) (s : Machine) (e : Event) (v : Valid e) (k : Kept h s) where
      abbrev s' : Machine
      s' = (react R s e).state

      abbrev n : Entry
      n = record { event = e; answer = (react R s e).answer; lost = lost_by R s e }

      more : Carried R (fresh words) (spread h ++ n ∷ []) s'
      more = carried-snoc R (fresh words) s (spread h) e v k.runs

      -- an event that is left out changes nothing
      note-out : s ≡ s' → Kept h s'
      note-out p = subst (Kept h) p k

      -- an arrival goes in front of all rows
      apart-now : sort n.answer ≡ now → thread_of e ≡ none → AllApart (flatten h.rows) (n ∷ [])
      apart-now z p x y a b =
          let r = mem-flatten x h.rows a in
          let o = k.own r.0 x r.2 in
          let q : y ≡ n = Memᴰ.eq_of_singleton b in
          record {
            joins = o.0;
            kept = λ f. never (cc (z, ap (λ (w : Entry). sort w.answer) q));
            other = λ f. never (cc (p, o.1, ap (λ (w : Entry). thread_of w.event) q));
          }

      note-now : sort n.answer ≡ now → thread_of e ≡ none → Kept (record { written = h.written ++ n ∷ []; rows = h.rows }) s'
      note-now z p = record {
        runs =
            let g : Carried R (fresh words) (h.written ++ (flatten h.rows ++ (n ∷ [] ++ []))) s' = simp append_assoc at more in
            simp append_assoc
            (simp append-nil at
            (shift R L (fresh words) s' h.written (flatten h.rows) (n ∷ []) [] (invariant-fresh R L words) (apart-now z p) g));
        eight = k.eight;
        own = k.own;
      }

      -- any other event goes to the end of its row, past the rows behind it
      module _ (p : thread_of e ≡ some (row_of e)) (z : ¬ (sort n.answer ≡ out)) where
        abbrev r : List Entry
        r = get_or h.rows (row_of e) []

        abbrev B : List Entry
        B = before h.rows (row_of e)

        abbrev D : List Entry
        D = behind h.rows (row_of e)

        inside : row_of e < length h.rows
        inside = rw k.eight (v (row_of e) p)

        foreign : (x y : Entry) (j : ℕ) → j ≢ row_of e → Memᴰ x (get_or h.rows j []) → ¬ (sort y.answer ≡ out)
            → thread_of y.event ≡ some (row_of e) → Apart x y
        foreign x y j d m f g =
            let o = k.own j x m in
            record { joins = o.0; kept = f; other = λ q. d (cc o.1) }

        new : (y : Entry) → Memᴰ y (n ∷ []) → (¬ (sort y.answer ≡ out)) × (thread_of y.event ≡ some (row_of e))
        new y b =
            let q : y ≡ n = Memᴰ.eq_of_singleton b in
            (λ f. z (sym (ap (λ (w : Entry). sort w.answer) q) ∙ f), ap (λ (w : Entry). thread_of w.event) q ∙ p)

        old : (y : Entry) → Memᴰ y r → (¬ (sort y.answer ≡ out)) × (thread_of y.event ≡ some (row_of e))
        old y b = let o = k.own (row_of e) y b in (λ f. never (cc o.0), o.1)

        to_row : Carried R (fresh words) (h.written ++ (B ++ ((r ++ n ∷ []) ++ D))) s'
        to_row =
            let m : Carried R (fresh words) ((h.written ++ (B ++ (r ++ D))) ++ n ∷ []) s' =
            rw (flatten-row h.rows (row_of e) inside) at more
            in
            let g : Carried R (fresh words) ((h.written ++ (B ++ r)) ++ (D ++ (n ∷ [] ++ []))) s' =
            simp append_assoc (simp append_assoc at m)
            in
            simp append_assoc
            (simp (append_assoc, append-nil) at
            (shift R L (fresh words) s' (h.written ++ (B ++ r)) D (n ∷ []) [] (invariant-fresh R L words)
            (λ x y a b. let c = mem-behind x h.rows (row_of e) a in foreign x y c.0 c.1 c.2 (new y b).0 (new y b).1) g))

        -- and the whole row goes in front of the others
        to_front : Carried R (fresh words) (h.written ++ ((r ++ n ∷ []) ++ (B ++ D))) s'
        to_front = shift R L (fresh words) s' h.written B (r ++ n ∷ []) D (invariant-fresh R L words)
            (λ x y a b.
            let c = mem-before x h.rows (row_of e) a in
            let g = either y (Memᴰ.append_cases r b) in
            foreign x y c.0 c.1 c.2 g.0 g.1)
            to_row
          where
            either : (y : Entry) → Memᴰ y r ⊎ Memᴰ y (n ∷ [])
                → (¬ (sort y.answer ≡ out)) × (thread_of y.event ≡ some (row_of e))
            either y (inl b) = old y b
            either y (inr b) = new y b

      note-join : sort n.answer ≡ join → thread_of e ≡ some (row_of e)
          → Kept (record { written = h.written; rows = set h.rows (row_of e) (get_or h.rows (row_of e) [] ++ n ∷ []) }) s'
      note-join z p = record {
        runs = rw (flatten-set h.rows (row_of e) (r p f ++ n ∷ []) (inside p f)) (to_row p f);
        eight = length-set h.rows (row_of e) _ ∙ k.eight;
        own = λ j y m. case j y (ℕ_discrete j (row_of e)) m;
      }
        where
          f : ¬ (sort n.answer ≡ out)
          f q = never (cc)

          inner : (y : Entry) → Memᴰ y (r p f) ⊎ Memᴰ y (n ∷ [])
              → (sort y.answer ≡ join) × (thread_of y.event ≡ some (row_of e))
          inner y (inl m) = k.own (row_of e) y m
          inner y (inr m) =
              let q : y ≡ n = Memᴰ.eq_of_singleton m in
              (ap (λ (w : Entry). sort w.answer) q ∙ z, ap (λ (w : Entry). thread_of w.event) q ∙ p)

          case : (j : ℕ) (y : Entry) → Dec (j ≡ row_of e) → Memᴰ y (get_or (set h.rows (row_of e) (r p f ++ n ∷ [])) j [])
              → (sort y.answer ≡ join) × (thread_of y.event ≡ some j)
          case j y (yes q) m =
              rw q
              (inner y (Memᴰ.append_cases (r p f) (rw (q, get_or-set_same h.rows (row_of e) (r p f ++ n ∷ []) [] (inside p f)) at m)))
          case j y (no q) m = k.own j y (rw (get_or-set_other h.rows (row_of e) j (r p f ++ n ∷ []) [] q) at m)

      note-close : sort n.answer ≡ close → thread_of e ≡ some (row_of e)
          → Kept (record { written = h.written ++ (get_or h.rows (row_of e) [] ++ n ∷ []); rows = set h.rows (row_of e) [] }) s'
      note-close z p = record {
        runs = rw (flatten-set h.rows (row_of e) [] (inside p f)) (simp append_assoc (simp append_assoc at (to_front p f)));
        eight = length-set h.rows (row_of e) _ ∙ k.eight;
        own = λ j y m. case j y (ℕ_discrete j (row_of e)) m;
      }
        where
          f : ¬ (sort n.answer ≡ out)
          f q = never (cc)

          case : (j : ℕ) (y : Entry) → Dec (j ≡ row_of e) → Memᴰ y (get_or (set h.rows (row_of e) []) j [])
              → (sort y.answer ≡ join) × (thread_of y.event ≡ some j)
          case j y (yes q) m = absurd (Memᴰ.not-nil (rw (q, get_or-set_same h.rows (row_of e) [] [] (inside p f)) at m))
          case j y (no q) m = k.own j y (rw (get_or-set_other h.rows (row_of e) j [] [] q) at m)

      note-any : (q : Sort) → sort n.answer ≡ q → About s e s' q → Kept (note_as q (row_of e) h n) s'
      unfolding note_as
      note-any out z a = note-out a
      note-any now z a = note-now z a
      note-any join z a = note-join z a
      note-any close z a = note-close z a

      reached : Invariant R s
      reached = carried-invariant R L (fresh words) s (spread h) (invariant-fresh R L words) k.runs

      note-kept : Kept (note_as (sort n.answer) (row_of e) h n) s'
      note-kept = note-any (sort n.answer) refl (about s e reached)

    notes-kept : (h : Sheet Entry) (s : Machine) (l : List Event) → AllValid l → Kept h s
        → Kept (notes_by by_sort by_row h (log R s l)) (final R s l)
    unfolding notes_by log final
    notes-kept h s [] v k = k
    notes-kept h s (e ∷ l) v k =
        let n : Entry = record { event = e; answer = (react R s e).answer; lost = lost_by R s e } in
        notes-kept (note_as (sort n.answer) (row_of e) h n) (react R s e).state l v.1 (note-kept h s e v.0 k)

  -- THE ONE-BY-ONE READING, demand 3 over the rules
  pub one_by_one : (words : List ℕ) (l : List Event) → AllValid l → OneByOne R words l
  unfolding order order_by
  one_by_one words l v =
      let n : List Entry = log R (fresh words) l in
      let x : Carried R (fresh words) (spread (notes_by by_sort by_row blank n)) (final R (fresh words) l) =
      (notes-kept words blank (fresh words) l v (kept-blank words)).runs
      in
      record {
        answers = carried-log R (fresh words) (final R (fresh words) l) (order n) x;
        state = carried-final R (fresh words) (final R (fresh words) l) (order n) x;
      }
