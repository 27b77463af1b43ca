-- The second order does not depend on how events and answers are written down: the order of the bytes is the order of the values.
use Rattle.std.specs.Prelude.{◌≡◌, ℕ, zero, suc, get_or, set}
use Rattle.std.proofs.Math.Path.{refl, ap, ap₂}
use Rattle.std.proofs.Common.{sym, ◌∙◌}
use mathlib.Core.List.{List, [], ◌∷◌, ◌++◌, map, flatten, map-append}
use Rattle.rules.specs.Events.{Event, arrive, turn, event_bytes}
use Rattle.rules.specs.Answers.{code, answer_bytes, Sort, out, now, join, close, sort, sort_of_code}
use Rattle.rules.specs.Order.{Sheet, note_as, notes_by, blank, spread, order_by, Entry, row_of, order, ByteEntry, byte_order}
use Rattle.rules.specs.declared.answer.Answer.{Answer}
use Rattle.rules.specs.declared.answer.Answer.TheVariants.{Taken, ListFull, NoWork, Waiting, Started, Moved, Exited, Trapped, WasCut}
use Rattle.rules.specs.declared.answer.Answer.TheVariants.{NothingToCut}

-- ---- any other way of writing entries down

module _ {A B : Type 0} (c : A → B) where
  unfoldable pub over : Sheet A → Sheet B
  over h = record { written = map c h.written; rows = map (map c) h.rows }

  map-flatten : (l : List (List A)) → map c (flatten l) ≡ flatten (map (map c) l)
  unfolding flatten
  map-flatten [] = refl
  map-flatten (r ∷ l) = map-append c r (flatten l) ∙ ap (λ (z : List B). map c r ++ z) (map-flatten l)

  pub rows_get : (l : List (List A)) (t : ℕ) → get_or (map (map c) l) t [] ≡ map c (get_or l t [])
  rows_get [] t = refl
  rows_get (r ∷ l) zero = refl
  rows_get (r ∷ l) (suc t) = rows_get l t

  rows-set : (l : List (List A)) (t : ℕ) (r : List A) → map (map c) (set l t r) ≡ set (map (map c) l) t (map c r)
  rows-set [] t r = refl
  rows-set (x ∷ l) zero r = refl
  rows-set (x ∷ l) (suc t) r = ap (λ (z : List (List B)). map c x ∷ z) (rows-set l t r)

  note-over : (q : Sort) (t : ℕ) (h : Sheet A) (n : A) → over (note_as q t h n) ≡ note_as q t (over h) (c n)
  unfolding note_as over
  note-over out t h n = refl
  note-over now t h n = rw (map-append c) refl
  note-over join t h n = rw (rows-set, map-append c, rows_get) refl
  note-over close t h n = rw (rows-set, map-append c, map-append c, rows_get) refl

  module _ (f : A → Sort) (g : A → ℕ) (f' : B → Sort) (g' : B → ℕ) (p : (a : A) → f' (c a) ≡ f a) (q : (a : A) → g' (c a) ≡ g a) where
    notes-over : (h : Sheet A) (l : List A) → over (notes_by f g h l) ≡ notes_by f' g' (over h) (map c l)
    unfolding notes_by
    notes-over h [] = refl
    notes-over h (n ∷ l) =
        notes-over (note_as (f n) (g n) h n) l
        ∙ ap (λ (z : Sheet B). notes_by f' g' z (map c l))
        (note-over (f n) (g n) h n ∙ ap₂ (λ (u : Sort) (v : ℕ). note_as u v (over h) (c n)) (sym (p n)) (sym (q n)))

    -- the order of what is written down otherwise is the order, written down so
    pub order-over : (l : List A) → map c (order_by f g l) ≡ order_by f' g' (map c l)
    unfolding order_by over
    order-over l =
        let h : Sheet A = notes_by f g blank l in
        map-append c h.written (flatten h.rows)
        ∙ ap (λ (z : List B). map c h.written ++ z) (map-flatten h.rows)
        ∙ ap spread (notes-over blank l)

-- ---- bytes

-- an entry's 55 bytes of the event and 2 of the answer
abbrev pub bytes_of : Entry → ByteEntry
bytes_of n = record { event = event_bytes n.event; answer = answer_bytes n.answer }

-- the sort of an answer by the code, and the row of an event by byte 1
byte-sort : (a : Answer) → sort_of_code (get_or (answer_bytes a) 0 0) ≡ sort a
unfolding answer_bytes code sort_of_code
byte-sort Taken = refl
byte-sort ListFull = refl
byte-sort NoWork = refl
byte-sort (Waiting l) = refl
byte-sort Started = refl
byte-sort Moved = refl
byte-sort (Exited n) = refl
byte-sort (Trapped r) = refl
byte-sort WasCut = refl
byte-sort NothingToCut = refl

pub byte-row : (e : Event) → get_or (event_bytes e) 1 0 ≡ row_of e
unfolding event_bytes
byte-row (arrive g) = refl
byte-row (turn k t) = refl

-- what is written out before the last event of entries of bytes, and the rows that are left
unfoldable pub byte_notes : List ByteEntry → Sheet ByteEntry
byte_notes l = notes_by (λ (n : ByteEntry). sort_of_code (get_or n.answer 0 0)) (λ (n : ByteEntry). get_or n.event 1 0) blank l

-- THE SECOND ORDER OF THE BYTES is that of the values
pub byte-order : (l : List Entry) → map bytes_of (order l) ≡ byte_order (map bytes_of l)
unfolding order byte_order
byte-order l = order-over bytes_of _ _ _ _ (λ n. byte-sort n.answer) (λ n. byte-row n.event) l

-- and so are its rows, before they are written out
pub byte-rows : (l : List Entry)
    → over bytes_of (notes_by (λ (n : Entry). sort n.answer) (λ (n : Entry). row_of n.event) blank l) ≡ byte_notes (map bytes_of l)
unfolding byte_notes over
byte-rows l = notes-over bytes_of _ _ _ _ (λ n. byte-sort n.answer) (λ n. byte-row n.event) blank l
