use Rattle.csv.specs.Records.{fields_of}
use Rattle.ss_events.proofs.RecordsLeft.{goes-on, row-or-end}
use Rattle.ss_events.proofs.records.Records.next.Goals as goal

pub invariant_of-self : goal.invariant_of-self
invariant_of-self c =
    let reading = c.self.invariant c.if-not-self.false in
    let read = c.in-Ok.ensures.reads reading.trim reading.ready in
    λ found. goes-on c.self.inside.reader c.read_byte_record.new.self (fields_of c.read_byte_record.new.row) reading
    (rw found at read) (c.in-Ok.ensures.ready reading.trim) c.in-Ok.ensures.flexible

pub returns-in-Ok-clause-found : goal.returns-in-Ok-clause-found
returns-in-Ok-clause-found c =
    let reading = c.self.invariant c.if-not-self.false in
    let read = c.in-Ok.ensures.reads reading.trim reading.ready in
    rw (← c.self.view_is, c.if-not-self.false)
    (row-or-end c.self.inside.reader c.read_byte_record.new.self c.in-Ok.found (fields_of c.read_byte_record.new.row) reading read)
