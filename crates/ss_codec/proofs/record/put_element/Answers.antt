use Rattle.ss_codec.proofs.Records.{short-record}
use Rattle.ss_codec.proofs.record.put_element.Goals as goal

pub returns-in-Ok-clause-few : goal.returns-in-Ok-clause-few
returns-in-Ok-clause-few c = short-record c.args.v c.args.n c.args.x.now

pub returns-in-Err-clause-few : goal.returns-in-Err-clause-few
returns-in-Err-clause-few c = short-record c.args.v c.args.n c.args.x.now
