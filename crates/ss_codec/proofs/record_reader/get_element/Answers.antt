use Rattle.std.proofs.Common.{ap, ◌∙◌, arith}
use Rattle.ss_codec.specs.RecordTests.{record_read}
use Rattle.ss_codec.proofs.RecordReads.{record_is_read}
use Rattle.ss_codec.proofs.Records.{read_is_record, short_is_refused}
use Rattle.ss_codec.proofs.record_reader.get_element.Goals as goal

pub returns-clause-ok : goal.returns-clause-ok
returns-clause-ok c = rw c.read_record.ensures (read_is_record c.args.v c.args.n c.args.bytes.now (λ i. omega (arith, c.type_inv.bytes i)))

pub returns-clause-read : goal.returns-clause-read
returns-clause-read c = λ x has e.
    c.read_record.ensures ∙ ap (record_read c.args.v c.args.n) e ∙ record_is_read c.args.v c.args.n x (omega arith) (omega arith) has

pub returns-clause-short : goal.returns-clause-short
returns-clause-short c = λ x rest e some.
    rw c.read_record.ensures (short_is_refused c.args.v c.args.n x c.args.bytes.now rest (λ i. omega (arith, c.type_inv.bytes i)) e some)
