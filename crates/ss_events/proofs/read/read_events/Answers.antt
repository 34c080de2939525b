use Rattle.ss_elem.specs.Validity.{Whole}
use Rattle.ss_events.specs.Events.{AllSourceTimes, event_list}
use Rattle.ss_events.proofs.WholeLists.{list-times, list-whole, of-answer}
use Rattle.ss_events.proofs.read.read_events.Goals as goal

pub returns-clause-whole : goal.returns-clause-whole
returns-clause-whole c = of-answer _ Whole c.read_rows.result (event_list c.args.bytes.now c.args.late) c.read_rows.ensures (list-whole c.args.bytes.now c.args.late)

pub returns-clause-times : goal.returns-clause-times
returns-clause-times c = of-answer _ AllSourceTimes c.read_rows.result (event_list c.args.bytes.now c.args.late) c.read_rows.ensures (list-times c.args.bytes.now c.args.late)
