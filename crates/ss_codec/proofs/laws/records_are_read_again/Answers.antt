use Rattle.ss_codec.proofs.RecordReads.{record_is_read}
use Rattle.ss_codec.proofs.laws.records_are_read_again.Goals as goal

pub returns : goal.returns
returns c = record_is_read
