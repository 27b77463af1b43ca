use borrow.Author.Rules.{rules}
use mathlib.Core.Path.{◌≡◌}
use native.Mathlib.Omega.{arith}
use lib.ListN.{length}
use Rattle.rules.specs.Sizes.{held_size}
use Rattle.bytes_fields.specs.Put.{put_then}
use Rattle.state_thread_record.specs.Stores.{part-all}
use Rattle.state_thread_record.proofs.write_held.Goals as goal

sized : (c : goal.After-signals-2-1) → length c.args.w.signals ≡ held_size
sized c = search rules

sized-2 : (c : goal.After-slice_known-3-1) → length c.args.w.signals ≡ held_size
sized-2 c = search rules

pub copy-requires : goal.copy-requires
copy-requires c = (omega arith, omega (arith, sized c))

pub returns : goal.returns
returns c =
    let f = rw (part-all c.args.w.signals held_size (sized-2 c)) at c.copy.ensures in
    put_then _ _ _ _ _ c.put8.ensures f (omega arith)
