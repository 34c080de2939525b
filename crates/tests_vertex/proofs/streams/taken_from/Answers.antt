-- A source takes its own stream, and an operator those that its node reads.
use Rattle.std.proofs.Common.{◌≡◌, ℕ, ◌<◌, List, Some, refl, sym, ap, ◌∙◌, subst, arith}
use Rattle.std.specs.List.{slice_get}
use Rattle.ss_job.specs.JobText.{JobText, op_of}
use Rattle.ss_job.specs.declared.op.Op.TheVariants as op
use Rattle.ss_plan.specs.Plan.{vertices_of}
use Rattle.ss_vertex.specs.Arriving.{taken}
use Rattle.ss_water.specs.declared.node.Node.{Node}
use Rattle.tests_vertex.proofs.Vertices.{takes_own, takes_read}
use Rattle.tests_vertex.proofs.streams.taken_from.Goals as goal

pub returns-then-is_source : goal.returns-then-is_source
returns-then-is_source g c =
    let plan = c.args.plan.now in
    let v : ℕ = c.checked-v.result in
    let source : op_of plan.job v ≡ Some op.Source =
    subst (λ (job : JobText). op_of job v ≡ Some op.Source) c.job.ensures.job (c.if-is_source.ensures.source refl) in
    ap (λ u. taken (vertices_of plan) u c.args.input) (sym c.checked-v.ensures.same)
    ∙ takes_own c.vertices_by_number.ensures c.plans_mean_jobs.ensures c.meaning_is_made_of_the_inputs.ensures plan
    c.max_elements.ensures.plan v c.checked-v.ensures.vertex source c.args.input

pub returns : goal.returns
returns g c =
    let plan = c.args.plan.now in
    let v : ℕ = c.operator-v.result in
    let node : Node = c.node-node.result in
    let same : v ≡ c.args.v = c.operator-v.ensures.same ∙ c.checked-v.ensures.same in
    let graph_is : c.graph.result.now ≡ plan.job.graph = c.graph.ensures.graph ∙ ap (λ (job : JobText). job.graph) c.job-2.ensures.job in
    let node_is : slice_get plan.job.graph v ≡ Some node =
    subst (λ (graph : List Node). slice_get graph v ≡ Some node) graph_is c.node-node.ensures.node in
    let within : c.args.input < node.width = omega arith in
    ap (λ u. taken (vertices_of plan) u c.args.input) (sym same)
    ∙ takes_read c.vertices_by_number.ensures plan c.max_elements.ensures.plan v c.operator-v.ensures.vertex c.operator-v.ensures.operator
    node node_is c.args.input within
