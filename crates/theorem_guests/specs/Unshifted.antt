-- Labels shifted by nothing stay as they are, in a machine and in events.
use Rattle.std.specs.Prelude.{◌≡◌, refl, List, [], ◌∷◌, map, ◌+◌}
use Rattle.std.proofs.Common.{ap, ap₂, add-zero}
use Rattle.rules.specs.Machine.{Signal, Tree, ThreadState, idle, running, Machine}
use Rattle.rules.specs.Events.{Event, arrive, turn}
use Rattle.rules.specs.Link.{shift_signal, shift_thread, shift_tree, shift_machine, shift_event}

map_same : {A : Type 0} (f : A → A) → ((x : A) → f x ≡ x) → (l : List A) → map f l ≡ l
map_same f h [] = refl
map_same f h (x ∷ l) = ap₂ (λ y z. y ∷ z) (h x) (map_same f h l)

signal-same : (g : Signal) → shift_signal 0 g ≡ g
signal-same g = λ i. record { label = add-zero g.label i; values = g.values }

thread-same : (w : ThreadState) → shift_thread 0 w ≡ w
thread-same idle = refl
thread-same (running locks j) = λ i. running locks (record {
  label = add-zero j.label i;
  returns = map_same (λ l. l + 0) add-zero j.returns i;
  registers = j.registers;
  held = map_same (shift_signal 0) signal-same j.held i;
})

tree-same : (x : Tree) → shift_tree 0 x ≡ x
tree-same x = λ i. record { thread = x.thread; pending = map_same (shift_signal 0) signal-same x.pending i }

pub machine-same : (s : Machine) → shift_machine 0 s ≡ s
machine-same s = λ i. record {
  words = s.words;
  threads = map_same (shift_thread 0) thread-same s.threads i;
  trees = map_same (shift_tree 0) tree-same s.trees i;
}

event-same : (e : Event) → shift_event 0 e ≡ e
event-same (arrive g) = ap arrive (signal-same g)
event-same (turn k t) = refl

pub events-same : (l : List Event) → map (shift_event 0) l ≡ l
events-same = map_same (shift_event 0) event-same
