use native.Mathlib.Omega.{arith}
use mathlib.Core.Path.{◌≡◌, ◌∙◌}
use lib.ListN.{length, drop, length-drop}
use mathlib.Core.List.{List}
use mathlib.Core.Bool.{true}
use Prim.Native.Nat.{ℕ, ◌+◌, ◌≤◌}
use borrow.Author.Rules.{rules}
use Rattle.rules.specs.Sizes.{signal_size}
use Rattle.rules.specs.WellFormed.{signal_tidy}
use Rattle.rules.specs.Encoding.{signal_from}
use Rattle.lemmas_encoding.specs.Numbers.{AreBytes, bytes_drop}
use Rattle.state_signal.specs.Signals.{signal_of, TidySignal, signal_read, read-tidy}
use Rattle.state_signal.specs.declared.Signal as Value
use Rattle.state_trees.proofs.list.append.Goals as goal

-- what is read is the signal of the bytes
read : (bytes : List ℕ) (at : ℕ) (g : Value.Signal) → AreBytes bytes → at + signal_size ≤ length bytes → signal_tidy (drop at bytes) ≡ true
    → g ≡ signal_read (drop at bytes) → (signal_of g ≡ signal_from (drop at bytes)) × TidySignal g
read bytes at g are l tidy e = read-tidy (drop at bytes) (bytes_drop bytes at are) (simp length-drop (omega arith)) tidy e

pub append_tree-requires : goal.append_tree-requires
append_tree-requires c =
    let p = c.requires in
    (p.0, p.1, (read c.args.bytes.now c.args.at _ (λ j. search rules) p.2 p.3 c.read_signal.ensures).1)

pub returns : goal.returns
returns c =
    let p = c.requires in
    let m = c.append_tree.ensures in
    let r = read c.args.bytes.now c.args.at _ (λ j. search rules) p.2 p.3 c.read_signal.ensures in
    record { canon = m.canon; state_after = m.state_after ∙ rw r.0 }
