-- The inverse of the shift, labels lower by d, in a machine and in events; and which events of a linked image are one guest's.
use Rattle.std.specs.Prelude.{List, map, ℕ, ◌+◌, ◌-◌, ◌≤◌, ◌<◌}
use Rattle.rules.specs.Bytes.{blocks}
use Rattle.rules.specs.Image.{labels}
use Rattle.rules.specs.Machine.{Signal, Tree, Job, job, with_held, ThreadState, idle, running, Machine}
use Rattle.rules.specs.Encoding.{encode, machine_from}
use Rattle.rules.specs.Events.{Event, arrive, turn, event_bytes, events_from}

-- ---- a guest's labels, taken back wherever a machine or an event of the linked image has one

abbrev pub unshift_signal : ℕ → Signal → Signal
unshift_signal d g = record { label = g.label - d; values = g.values }

abbrev pub unshift_job : ℕ → Job → Job
unshift_job d j = with_held (map (unshift_signal d) j.held) (job (j.label - d) (map (λ l. l - d) j.returns) j.registers)

abbrev pub unshift_thread : ℕ → ThreadState → ThreadState
unshift_thread d idle = idle
unshift_thread d (running locks j) = running locks (unshift_job d j)

abbrev pub unshift_tree : ℕ → Tree → Tree
unshift_tree d x = record { thread = x.thread; pending = map (unshift_signal d) x.pending }

abbrev pub unshift_machine : ℕ → Machine → Machine
unshift_machine d s = record {
  words = s.words;
  threads = map (unshift_thread d) s.threads;
  trees = map (unshift_tree d) s.trees;
}

abbrev pub unshift_event : ℕ → Event → Event
unshift_event d (arrive g) = arrive (unshift_signal d g)
unshift_event d (turn k t) = turn k t

-- the same of the bytes of a state, and of a list of events
unfoldable pub unshift_state : ℕ → List ℕ → List ℕ
unshift_state d state = encode (unshift_machine d (machine_from state))

unfoldable pub unshift_events : ℕ → List ℕ → List ℕ
unshift_events d events = blocks event_bytes (map (unshift_event d) (events_from events))

-- ---- the events of one guest

-- an event of the guest G, which stands d labels in: a turn of a thread, or an arrival at one of the guest's labels
abbrev pub OfGuest : ℕ → List ℕ → Event → Type 0
OfGuest d G (arrive g) = (d ≤ g.label) × (g.label < labels G + d)
OfGuest d G (turn k t) = Unit {0}
