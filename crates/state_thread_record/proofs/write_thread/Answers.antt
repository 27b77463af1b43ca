use borrow.Author.Rules.{rules}
use mathlib.Core.Path.{◌≡◌}
use lib.ListN.{length}
use Rattle.rules.specs.Sizes.{return_count, register_count}
use Rattle.state_thread_record.specs.Stores.{stored-all}
use Rattle.state_thread_record.proofs.write_thread.Goals as goal

sized : (c : goal.After-slice_known-4-1) → (length c.args.w.returns ≡ return_count) × (length c.args.w.registers ≡ register_count)
sized c = search rules

pub returns : goal.returns
returns c =
    rw c.record_at-at.ensures at
    (stored-all c.args.w (sized c).0 (sized c).1 _ _ c.write_labels.ensures c.write_registers.ensures
    c.write_held.ensures)
