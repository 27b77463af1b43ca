use native.Mathlib.Omega.{arith}
use Rattle.bytes_fields.specs.Put.{put_then}
use Rattle.state_thread_record.proofs.write_registers.Goals as goal

pub returns : goal.returns
returns c =
    let present = c.put32.ensures in
    put_then _ _ _ _ _ present c.put16s.ensures (omega arith)
