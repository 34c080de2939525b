use Rattle.ss_codec.proofs.RecordReads.{old_is_read}
use Rattle.ss_codec.proofs.laws.old_records_are_read.Goals as goal

pub returns : goal.returns
returns c = old_is_read
