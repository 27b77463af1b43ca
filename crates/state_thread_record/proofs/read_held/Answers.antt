use native.Mathlib.Nat.{add-zero}
use Prim.Native.Nat.{◌+◌}
use lib.Seq.{drop-drop, get_or-drop}
use Rattle.rules.specs.Sizes.{held_count_place}
use Rattle.state_thread.specs.Records.{thread_place, raw_thread}
use Rattle.state_thread_record.proofs.read_held.Goals as goal

pub returns : goal.returns
unfolding raw_thread
returns c =
    let s = c.args.state.now in
    let at = thread_place c.args.t.0 in
    cc (c.record_at.ensures, drop-drop held_count_place at s, get_or-drop (at + held_count_place) s 0 0, add-zero (at + held_count_place))
