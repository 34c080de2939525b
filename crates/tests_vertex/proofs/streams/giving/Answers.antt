-- Both kinds of vertices give streams.
use Rattle.std.proofs.Common.{◌≡◌, ℕ, Some, refl, subst}
use Rattle.ss_job.specs.JobText.{JobText, op_of}
use Rattle.ss_job.specs.declared.op.Op.TheVariants as op
use Rattle.tests_vertex.proofs.Vertices.{operator_gives, source_gives}
use Rattle.tests_vertex.proofs.streams.giving.Goals as goal

pub returns-then-is_source-clause-stream : goal.returns-then-is_source-clause-stream
returns-then-is_source-clause-stream g c =
    let v : ℕ = c.checked-v.result in
    let source : op_of c.args.plan.now.job v ≡ Some op.Source =
    subst (λ (job : JobText). op_of job v ≡ Some op.Source) c.job.ensures.job (c.if-is_source.ensures.source refl) in
    source_gives c.vertices_by_number.ensures c.args.plan.now c.max_elements.ensures.plan v c.checked-v.ensures.vertex source

pub returns-else-is_source-clause-stream : goal.returns-else-is_source-clause-stream
returns-else-is_source-clause-stream g c =
    operator_gives c.vertices_by_number.ensures c.args.plan.now c.max_elements.ensures.plan c.operator.result c.operator.ensures.vertex
    c.operator.ensures.operator
