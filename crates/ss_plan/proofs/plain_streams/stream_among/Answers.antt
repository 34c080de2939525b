-- The marks are on what the vertex is computed from.
use Rattle.ss_plan.proofs.Marks.{within_marks, own_stream, fault_of_marks}
use Rattle.ss_plan.proofs.plain_streams.stream_among.Goals as goal

pub returns-in-Ok-clause-list : goal.returns-in-Ok-clause-list
returns-in-Ok-clause-list c =
    own_stream c.args.plan.now c.args.v c.args.marked.now c.in-Ok.streams.items c.swap_remove.result c.requires.exact c.in-Ok.ensures.streams
    c.swap_remove.ensures.value

pub returns-in-Ok-clause-within : goal.returns-in-Ok-clause-within
returns-in-Ok-clause-within c = within_marks c.args.plan.now c.args.v c.args.marked.now c.requires.exact c.in-Ok.ensures.within

pub returns-in-Err-clause-fault : goal.returns-in-Err-clause-fault
returns-in-Err-clause-fault c = fault_of_marks c.args.plan.now c.args.v c.args.marked.now c.in-Err.fault c.requires.exact c.in-Err.ensures.fault
