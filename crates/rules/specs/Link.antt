-- "Link two guests": the second image laid behind the first, its labels shifted; and a guest's labels shifted in events and states.
use Rattle.std.specs.Prelude.{Bool, true, false, cond, ◌&&◌, List, ◌++◌, map, ℕ, ◌+◌, eqb, take, drop}
use Rattle.rules.specs.Sizes.{block_count, record_size, label_a_place, operand_count_place}
use Rattle.rules.specs.Bytes.{le16, any_from, blocks, chunks}
use Rattle.rules.specs.Image.{labels, record_at, block_field, label_a, label_b}
use Rattle.rules.specs.Statements.{statement_of, role_a, role_b}
use Rattle.rules.specs.Machine.{Signal, Tree, Job, job, with_held, ThreadState, idle, running, Machine}
use Rattle.rules.specs.Encoding.{encode, machine_from}
use Rattle.rules.specs.Events.{Event, arrive, turn, event_bytes, events_from}
use Rattle.rules.specs.declared.statement.Role.{Role}
use Rattle.rules.specs.declared.statement.Role.TheVariants.{Unused, Inner, Direct, Local, Buffered}

-- ---- the linked image

-- a label is used if it has a role
abbrev pub used : Role → Bool
used Unused = false
used Inner = true
used Direct = true
used Local = true
used Buffered = true

-- a label of this role, d higher; where it is not used it stays
abbrev pub shift_label : ℕ → Role → ℕ → ℕ
shift_label d role v = cond (used role) (v + d) v

-- a record with other labels A and B, and every other byte as it is
abbrev pub with_labels : ℕ → ℕ → List ℕ → List ℕ
with_labels a b r = take label_a_place r ++ (le16 a ++ (le16 b ++ drop operand_count_place r))

-- a record with its labels shifted, by the roles that its statement has for them
unfoldable pub shift_record : ℕ → List ℕ → List ℕ
shift_record d r = with_labels (shift_label d (role_a (statement_of r)) (label_a r)) (shift_label d (role_b (statement_of r)) (label_b r)) r

-- the records of an image, in label order
unfoldable pub records : List ℕ → List (List ℕ)
records image = chunks (take record_size) record_size (labels image) image

-- the first image, and behind it the second with the first's record count added to every used label
unfoldable pub linked : List ℕ → List ℕ → List ℕ
linked first second = first ++ blocks (shift_record (labels first)) (records second)

-- an image names a block if one of its records is in it
unfoldable pub names : List ℕ → ℕ → Bool
names image b = any_from (λ l. eqb (block_field (record_at image l)) b) 0 (labels image)

-- both name the same block
unfoldable pub share_block : List ℕ → List ℕ → Bool
share_block first second = any_from (λ b. names first b && names second b) 0 block_count

-- ---- a guest's labels, shifted wherever a machine or an event has one

abbrev pub shift_signal : ℕ → Signal → Signal
shift_signal d g = record { label = g.label + d; values = g.values }

abbrev pub shift_job : ℕ → Job → Job
shift_job d j = with_held (map (shift_signal d) j.held) (job (j.label + d) (map (λ l. l + d) j.returns) j.registers)

-- an idle thread has no label
abbrev pub shift_thread : ℕ → ThreadState → ThreadState
shift_thread d idle = idle
shift_thread d (running locks j) = running locks (shift_job d j)

abbrev pub shift_tree : ℕ → Tree → Tree
shift_tree d x = record { thread = x.thread; pending = map (shift_signal d) x.pending }

abbrev pub shift_machine : ℕ → Machine → Machine
shift_machine d s = record {
  words = s.words;
  threads = map (shift_thread d) s.threads;
  trees = map (shift_tree d) s.trees;
}

abbrev pub shift_event : ℕ → Event → Event
shift_event d (arrive g) = arrive (shift_signal d g)
shift_event d (turn k t) = turn k t

-- the same of the bytes of a state, and of a list of events
unfoldable pub shift_state : ℕ → List ℕ → List ℕ
shift_state d state = encode (shift_machine d (machine_from state))

unfoldable pub shift_events : ℕ → List ℕ → List ℕ
shift_events d events = blocks event_bytes (map (shift_event d) (events_from events))
