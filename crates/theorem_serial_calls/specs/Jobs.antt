-- A row is one job, of the bytes of a list of calls: each row that the second order writes out begins with an event answered 5, goes on
-- with events of its thread answered 6, and ends with one answered 7, 8 or 9, or is the unfinished job of a thread that runs:
-- `one-job-a-row`.
use Rattle.std.specs.Prelude.{◌≡◌, refl, ◌⊎◌, ℕ, length, get_or}
use mathlib.Core.List.{List, [], ◌∷◌, ◌++◌, flatten}
use Rattle.rules.specs.Sizes.{thread_count}
use Rattle.rules.specs.Codes.{arrival_code}
use Rattle.rules.specs.Machine.{ThreadState, idle, running, thread_at}
use Rattle.rules.specs.Encoding.{machine_from}
use Rattle.rules.specs.Order.{Sheet, order_by, ByteEntry, byte_order}
use Rattle.theorem_serial.specs.ByteOrder.{byte_notes}

-- the code of an entry's answer, and the kind and the thread of its event
abbrev pub code_byte : ByteEntry → ℕ
code_byte n = get_or n.answer 0 0

abbrev pub kind_byte : ByteEntry → ℕ
kind_byte n = get_or n.event 0 0

abbrev pub thread_byte : ByteEntry → ℕ
thread_byte n = get_or n.event 1 0

-- entries of thread t, all answered 6
abbrev pub AllMoved : ℕ → List ByteEntry → Type 0
AllMoved t [] = Unit {0}
AllMoved t (n ∷ r) = (code_byte n ≡ 6) × (thread_byte n ≡ t) × AllMoved t r

-- the entries of a job that runs on thread t: the first is answered 5, the others 6
abbrev pub Open : ℕ → List ByteEntry → Type 0
Open t [] = ⊥
Open t (n ∷ r) = (code_byte n ≡ 5) × (thread_byte n ≡ t) × AllMoved t r

abbrev pub Arrival : ByteEntry → Type 0
Arrival n = (kind_byte n ≡ arrival_code) × ((code_byte n ≡ 1) ⊎ (code_byte n ≡ 2))

abbrev pub Ended : ByteEntry → Type 0
Ended n = (code_byte n ≡ 7) ⊎ ((code_byte n ≡ 8) ⊎ (code_byte n ≡ 9))

-- what is written out: arrivals, and whole jobs, each ended by an event of its thread
pub data Jobs : List ByteEntry → Type 0 where
  nothing : Jobs []
  arrival : (l : List ByteEntry) (n : ByteEntry) → Jobs l → Arrival n → Jobs (l ++ n ∷ [])
  job : (t : ℕ) (l r : List ByteEntry) (n : ByteEntry) → Jobs l → Open t r → Ended n → thread_byte n ≡ t → Jobs (l ++ (r ++ n ∷ []))

-- thread t's row: empty if the thread is idle, else the entries of its job
abbrev pub Row : ℕ → ThreadState → List ByteEntry → Type 0
Row t idle r = r ≡ []
Row t (running locks j) r = Open t r

-- what is written out before the last event, the rows that are left, and the state bytes after it
pub record JobRows (h : Sheet ByteEntry) (state : List ℕ) : Type 0 where
  pub written : Jobs h.written
  pub eight : length h.rows ≡ thread_count
  pub rows : (t : ℕ) → Row t (thread_at (machine_from state) t) (get_or h.rows t [])

-- the second order is the two, one after the other
pub order_is : (l : List ByteEntry) → byte_order l ≡ (byte_notes l).written ++ flatten (byte_notes l).rows
unfolding byte_order order_by byte_notes
order_is l = refl
