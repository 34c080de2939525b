use Rattle.std.proofs.Common.{Err, sym, ap, ◌∙◌, arith}
use Rattle.ss_job.proofs.StreamLoop.{streams-more, streams-stop, streams-end}
use Rattle.ss_job.specs.declared.fault.JobFault.{JobFault}
use Rattle.ss_job.proofs.draft.read_streams.Goals as goal

pub returns-then-is_unread : goal.returns-then-is_unread
returns-then-is_unread c =
    ap (λ (fault : JobFault). Err fault) c.of_vertex.ensures
    ∙ sym (streams-stop c.args.nodes.now c.loop-v.v (omega arith) (sym c.is_unread.ensures ∙ c.if-is_unread.true)) ∙ c.loop-v.invariant

pub loop-v-preserved : goal.loop-v-preserved
loop-v-preserved c =
    sym (streams-more c.args.nodes.now c.loop-v.v (omega arith) (sym c.is_unread.ensures ∙ c.if-is_unread.false)) ∙ c.loop-v.invariant

pub returns : goal.returns
returns c = sym (streams-end c.args.nodes.now c.loop-v.v (omega arith)) ∙ c.loop-v.invariant
