use Prim.Native.Nat.{◌+◌, ◌*◌}
use lib.Seq.{drop-drop}
use Rattle.rules.specs.Sizes.{registers_place, register_count}
use Rattle.rules.specs.Bytes.{num16}
use Rattle.lemmas_encoding.specs.Runs.{chunks-at}
use Rattle.state_thread.specs.Records.{thread_place}
use Rattle.state_thread_record.proofs.read_register.Goals as goal

pub returns : goal.returns
returns c =
    let b = c.args.state.now in
    let at = thread_place c.args.t.0 in
    let k = c.args.register in
    rw (
      chunks-at num16 2 register_count _ 0 k c.requires.2,
      drop-drop registers_place at b,
      drop-drop (2 * k) (at + registers_place) b,
    ) (rw c.record_at.ensures at c.get16.ensures)
