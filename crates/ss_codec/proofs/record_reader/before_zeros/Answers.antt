use Rattle.ss_elem.specs.Key.{is_not_zero}
use Rattle.ss_codec.proofs.Bytes.{take-take_while}
use Rattle.ss_codec.proofs.record_reader.before_zeros.Goals as goal

pub returns : goal.returns
returns c = rw c.count_before_zeros-count.ensures.count (take-take_while is_not_zero c.args.field.now)
