use Rattle.state_thread.specs.Records.{raw_thread}
use Rattle.state_thread_record.proofs.read_label.Goals as goal

pub returns : goal.returns
unfolding raw_thread
returns c = cc c.record_at.ensures
